-- Trusted by the clauses of kubecel.
-- Runs that stop before anything is judged: what is reported, and the line on standard error.
use Rattle.kubecel_io.specs.Reads.{unusable_item}
use Rattle.kubecel_io.specs.declared.sources.Stop.{Stop}
use Rattle.kubecel_io.specs.declared.sources.Stop.TheVariants as stop
use Rattle.kubecel_report.specs.Items.{item_view}
use Rattle.kubecel_report.specs.Lines.{number_member, said}
use Rattle.kubecel_report.specs.Output.{output_text}
use Rattle.kubecel_report.specs.declared.output.Output.{Output}
use Rattle.kubecel_report.specs.declared.output.Output.TheVariants.{Text, Coloured, Json, Github, Junit}
use Rattle.kube_types_refused.specs.declared.Refused.TheVariants.{Memory, TooLarge}
use Rattle.std.specs.Prelude.{ℕ, List, [], ◌∷◌, ◌++◌, length, map, Bool, true, false, if◌then◌else◌, codes, string_bytes}

-- the line on a run that stops
abbrev pub stop_text : Stop → List ℕ
stop_text (stop.Refused Memory) = codes "kubecel: out of memory\n"
stop_text (stop.Refused TooLarge) = codes "kubecel: a text is too large\n"
stop_text (stop.Said words) = said (string_bytes words)
stop_text (stop.Unusable items) =
    number_member (codes "kubecel: nothing was judged; files that can't be read: ") (length items.items) ++ codes "\n"

-- the form of lines for people, in which standard error says why a run stops
abbrev pub is_text : Output → Bool
is_text Text = true
is_text Coloured = true
is_text Json = false
is_text Github = false
is_text Junit = false

-- what a run reports that stops: the files that aren't used; where a program reads the report, also the reason in words
abbrev pub stopped_text : Output → Stop → List ℕ
stopped_text o (stop.Refused refused) = []
stopped_text o (stop.Said words) = if is_text o then [] else output_text o (unusable_item [] (string_bytes words) ∷ [])
stopped_text o (stop.Unusable items) = output_text o (map item_view items.items)
