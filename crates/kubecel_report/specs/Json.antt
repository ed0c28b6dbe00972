-- Trusted by the clauses of kubecel.
-- Reports as JSON: an array with an object for each thing. Source: RFC 8259; what a reader doesn't see in a text is
-- escaped too (section 7).
use Rattle.kubecel_report.specs.Escapes.{escaped_text}
use Rattle.kubecel_report.specs.Items.{FindingData, ItemData}
use Rattle.kubecel_report.specs.Lines.{number_member}
use Rattle.kubecel_report.specs.declared.escape.Escape.TheVariants as escape
use Rattle.kubecel_report.specs.declared.item.Verdict.{Verdict}
use Rattle.kubecel_report.specs.declared.item.Verdict.TheVariants.{Pass, Skip, Fail, NotJudged}
use Rattle.serde_json.specs.Data.{string}
use Rattle.serde_json.specs.Written.{compact_text}
use Rattle.std.specs.List.{flat_map}
use Rattle.std.specs.Prelude.{ℕ, List, [], ◌∷◌, ◌++◌, codes}

-- a verdict, as one word
abbrev pub verdict_name : Verdict → List ℕ
verdict_name Pass = codes "pass"
verdict_name Skip = codes "skip"
verdict_name Fail = codes "fail"
verdict_name NotJudged = codes "not_judged"

-- a text as a JSON string
unfoldable pub json_string : List ℕ → List ℕ
json_string text = escaped_text escape.Json (compact_text (string text))

-- the text `head`, which ends before the member's value, and the value
unfoldable pub text_member : List ℕ → List ℕ → List ℕ
text_member head text = head ++ json_string text

unfoldable pub json_finding : FindingData → List ℕ
json_finding f =
    text_member (codes "{\"location\":") f.location
    ++ (text_member (codes ",\"rule\":") f.rule
    ++ (text_member (codes ",\"message\":") f.message ++ codes "}"))

-- a finding after the first, with the comma before it
abbrev pub later_finding : FindingData → List ℕ
later_finding f = codes ",\n" ++ json_finding f

abbrev pub json_findings : List FindingData → List ℕ
json_findings [] = []
json_findings (f ∷ fs) = json_finding f ++ flat_map later_finding fs

-- the members of an object that precede its findings
unfoldable pub json_head : ItemData → List ℕ
json_head i =
    text_member (codes "{\"file\":") i.file
    ++ (number_member (codes ",\"index\":") i.index ++ (text_member (codes ",\"kind\":") i.kind
    ++ (text_member (codes ",\"namespace\":") i.namespace
    ++ (text_member (codes ",\"name\":") i.name ++ (codes ",\"verdict\":\"" ++ verdict_name i.verdict)))))

unfoldable pub json_item : ItemData → List ℕ
json_item i = json_head i ++ (codes "\",\"findings\":[" ++ (json_findings i.findings ++ codes "]}"))

abbrev pub later_item : ItemData → List ℕ
later_item i = codes ",\n" ++ json_item i

abbrev pub json_list : List ItemData → List ℕ
json_list [] = []
json_list (i ∷ is) = json_item i ++ flat_map later_item is

abbrev pub json_items : List ItemData → List ℕ
json_items is = codes "[" ++ (json_list is ++ codes "]\n")
