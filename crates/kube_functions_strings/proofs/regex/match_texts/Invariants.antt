use Rattle.std.proofs.Common.{◌≡◌, map, take}
use Rattle.cel_value.specs.Data.{text}
use Rattle.cel_value.specs.View.{view}
use Rattle.kube_functions_strings.specs.Regex.{match_text}
use Rattle.kube_functions_strings.proofs.regex.match_texts.Given as goal

abbrev pub invariant-loop-span : goal.invariant-loop-span
invariant-loop-span l = map view l.texts.items ≡ map (λ p. text (match_text l.text p)) (take l.span-index l.spans)
