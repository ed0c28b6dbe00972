use Rattle.std.proofs.Common.{◌≡◌, map, string_bytes}
use Rattle.cel_value.specs.Data.{text}
use Rattle.cel_value.specs.View.{view}
use Rattle.kube_functions_types.proofs.answers.text_values.Given as goal

abbrev pub invariant-loop-text : goal.invariant-loop-text
invariant-loop-text l = map view l.values.items ≡ map text (map string_bytes l.yielded)
