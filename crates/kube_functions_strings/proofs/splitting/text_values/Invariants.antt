use Rattle.std.proofs.Common.{◌≡◌, map, take}
use Rattle.cel_value.specs.Data as plain
use Rattle.cel_value.specs.View.{view}
use Rattle.kube_functions_strings.proofs.splitting.text_values.Given as goal

abbrev pub invariant-loop-text : goal.invariant-loop-text
invariant-loop-text l = map view l.values.items ≡ map plain.text (map (λ s. s.now) (take l.text-index l.texts))
