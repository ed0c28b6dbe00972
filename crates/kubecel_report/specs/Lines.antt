-- Trusted by the clauses of kubecel.
-- Reports as text, as GitHub's annotations, and as JUnit test cases. What stands in them of a file is escaped, so it
-- adds no line. Sources: GitHub's documentation, "Workflow commands"; XML 1.0; the schema of JUnit's reports, as the
-- plugin xunit of Jenkins publishes it.
use Rattle.kubecel_report.specs.Escapes.{escaped_text}
use Rattle.kubecel_report.specs.Items.{FindingData, ItemData, title, finding_text}
use Rattle.kubecel_report.specs.declared.escape.Escape.TheVariants as escape
use Rattle.kubecel_report.specs.declared.item.Verdict.{Verdict}
use Rattle.kubecel_report.specs.declared.item.Verdict.TheVariants.{Pass, Skip, Fail, NotJudged}
use Rattle.std.specs.List.{flat_map}
use Rattle.std.specs.Prelude.{ℕ, suc, zero, List, ◌++◌, Bool, true, false, codes, decimal}

abbrev pub verdict_word : Verdict → List ℕ
verdict_word Pass = codes "pass"
verdict_word Skip = codes "skip"
verdict_word Fail = codes "fail"
verdict_word NotJudged = codes "not judged"

-- a text followed by a number
unfoldable pub number_member : List ℕ → ℕ → List ℕ
number_member head n = head ++ decimal n

-- ---- text

-- the colours: green, blue, red, yellow
abbrev pub colour : Verdict → List ℕ
colour Pass = codes "\u{1b}[32m"
colour Skip = codes "\u{1b}[34m"
colour Fail = codes "\u{1b}[31m"
colour NotJudged = codes "\u{1b}[33m"

-- the word of a verdict, in its colour if colours are requested
abbrev pub coloured_word : Bool → Verdict → List ℕ
coloured_word false v = verdict_word v
coloured_word true v = colour v ++ (verdict_word v ++ codes "\u{1b}[0m")

-- `FILE`, or `FILE[INDEX]` unless it is the first document there
abbrev pub location : List ℕ → ℕ → List ℕ
location file zero = file
location file (suc n) = file ++ (codes "[" ++ (decimal (suc n) ++ codes "]"))

-- a text in a line of text
abbrev pub shown : List ℕ → List ℕ
shown text = escaped_text escape.Shown text

-- a line on what happened
unfoldable pub said : List ℕ → List ℕ
said words = codes "kubecel: " ++ (shown words ++ codes "\n")

-- `VERDICT KIND NAMESPACE/NAME (FILE)`, followed by the findings, one a line
abbrev pub text_finding : FindingData → List ℕ
text_finding f = codes "  " ++ (shown (finding_text f) ++ codes "\n")

unfoldable pub text_item : Bool → ItemData → List ℕ
text_item colours i =
    coloured_word colours i.verdict
    ++ (codes " " ++ (shown (title i)
    ++ (codes " (" ++ (shown (location i.file i.index) ++ (codes ")\n" ++ flat_map text_finding i.findings)))))

-- ---- GitHub

abbrev pub level : Verdict → List ℕ
level Pass = codes "notice"
level Skip = codes "notice"
level Fail = codes "error"
level NotJudged = codes "error"

-- an annotation of the file
unfoldable pub github_finding : ItemData → FindingData → List ℕ
github_finding i f =
    codes "::" ++ (level i.verdict
    ++ (codes " file=" ++ (escaped_text escape.Property i.file
    ++ (codes ",title=" ++ (escaped_text escape.Property (title i)
    ++ (codes "::" ++ (escaped_text escape.Data (finding_text f) ++ codes "\n")))))))

unfoldable pub github_item : ItemData → List ℕ
github_item i = flat_map (github_finding i) i.findings

-- ---- JUnit

-- the element of a test case that holds the findings
abbrev pub element : Verdict → List ℕ
element Pass = codes "system-out"
element Skip = codes "skipped"
element Fail = codes "failure"
element NotJudged = codes "error"

abbrev pub junit_finding : FindingData → List ℕ
junit_finding f = escaped_text escape.Xml (finding_text f) ++ codes "\n"

-- the parts of a test case before and after its findings
unfoldable pub junit_open : ItemData → List ℕ
junit_open i =
    codes "<testcase classname=\"" ++ (escaped_text escape.Xml i.file
    ++ (codes "\" name=\"" ++ (escaped_text escape.Xml (title i)
    ++ (codes "\"><" ++ (element i.verdict ++ codes ">")))))

abbrev pub junit_close : ItemData → List ℕ
junit_close i = codes "</" ++ (element i.verdict ++ codes "></testcase>\n")

unfoldable pub junit_item : ItemData → List ℕ
junit_item i = junit_open i ++ (flat_map junit_finding i.findings ++ junit_close i)
