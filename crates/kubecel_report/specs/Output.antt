-- Trusted by the clauses of kubecel.
-- The whole output, in each form.
use Rattle.kubecel_report.specs.Items.{ItemData, verdict_status}
use Rattle.kubecel_report.specs.Json.{json_items}
use Rattle.kubecel_report.specs.Lines.{github_item, junit_item, number_member, text_item}
use Rattle.kubecel_report.specs.declared.output.Output.{Output}
use Rattle.kubecel_report.specs.declared.output.Output.TheVariants.{Text, Coloured, Json, Github, Junit}
use Rattle.std.specs.List.{count_by, flat_map}
use Rattle.std.specs.Prelude.{ℕ, ◌==◌, List, ◌++◌, true, false, length, codes}

-- the number of things whose verdict has this exit status
abbrev pub count_of : ℕ → List ItemData → ℕ
count_of status is = count_by (λ i. verdict_status i.verdict == status) is

unfoldable pub junit_head : List ItemData → List ℕ
junit_head is =
    number_member (codes "<?xml version=\"1.0\" encoding=\"UTF-8\"?>\n<testsuite name=\"kubecel\" tests=\"")
    (length is)
    ++ (number_member (codes "\" failures=\"") (count_of 1 is)
    ++ (number_member (codes "\" errors=\"") (count_of 2 is) ++ codes "\">\n"))

-- the report on all these things
abbrev pub output_text : Output → List ItemData → List ℕ
output_text Text is = flat_map (text_item false) is
output_text Coloured is = flat_map (text_item true) is
output_text Json is = json_items is
output_text Github is = flat_map github_item is
output_text Junit is = junit_head is ++ (flat_map junit_item is ++ codes "</testsuite>\n")
