-- Trusted by the clauses of kubecel.
-- The last line of a run, on standard error: how many things there are, how many of them are valid, invalid, not judged
-- and skipped, and how many findings there are. Source: this project's own definition, in the order of the summary of
-- kubeconform.
use Rattle.kubecel_report.specs.Items.{ItemData}
use Rattle.kubecel_report.specs.Lines.{number_member, verdict_word}
use Rattle.kubecel_report.specs.Safe.{total}
use Rattle.kubecel_report.specs.declared.item.Verdict.{Verdict}
use Rattle.kubecel_report.specs.declared.item.Verdict.TheVariants.{Pass, Skip, Fail, NotJudged}
use Rattle.std.specs.List.{count_by}
use Rattle.std.specs.Prelude.{ℕ, ◌-◌, ◌^◌, List, [], ◌++◌, Option, Some, None, codes, length, min}
use Rattle.std.specs.Str.{bytes_eq}

-- the number of things with this verdict
abbrev pub verdict_count : Verdict → List ItemData → ℕ
verdict_count v is = count_by (λ i. bytes_eq (verdict_word i.verdict) (verdict_word v)) is

unfoldable pub verdict_counts : List ItemData → List ℕ
verdict_counts is =
    number_member (codes ", valid: ") (verdict_count Pass is)
    ++ (number_member (codes ", invalid: ") (verdict_count Fail is)
    ++ (number_member (codes ", not judged: ") (verdict_count NotJudged is)
    ++ number_member (codes ", skipped: ") (verdict_count Skip is)))

-- the number of their findings, or the greatest number of 64 bits if there are more
abbrev pub finding_count : List ItemData → ℕ
finding_count is = min (total (λ i. length i.findings) is) (2 ^ 64 - 1)

-- a number that may not be known
abbrev pub member_where_known : List ℕ → Option ℕ → List ℕ
member_where_known head None = []
member_where_known head (Some n) = number_member head n

-- `noun` says what the things are. Where they are known, the line has two more numbers: of the objects that were judged
-- with an old one, and of the rules
unfoldable pub summary_text : List ℕ → Option ℕ → Option ℕ → List ItemData → List ℕ
summary_text noun compared rules is =
    (codes "kubecel: " ++ noun)
    ++ (number_member (codes ": ") (length is) ++ (verdict_counts is
    ++ (member_where_known (codes ", with an old object: ") compared
    ++ (member_where_known (codes ", rules: ") rules
    ++ (number_member (codes ", findings: ") (finding_count is) ++ codes "\n")))))
