use Rattle.std.proofs.Common.{◌≡◌, ◌≤◌, length, map, drop, string_bytes}
use Rattle.std.specs.Str.{chars}
use Rattle.cel_value.specs.View.{view}
use Rattle.kube_functions_format.specs.Formatted as spec
use Rattle.kube_functions_format.specs.Progress.{written_on}
use Rattle.kube_functions_format.proofs.filling.filled_text.Given as goal

abbrev pub invariant-loop-character : goal.invariant-loop-character
invariant-loop-character l =
    (spec.filled_text l.text (map view l.items) ≡ written_on (map view l.items) (string_bytes l.writing.out) l.writing.taken l.writing.mark (drop (length l.yielded) (chars l.text)))
    × (l.writing.taken ≤ length l.items)
