use Rattle.std.proofs.Common.{◌≡◌, ◌++◌, map, drop}
use Rattle.cel_value.specs.View.{view}
use Rattle.kube_server_functions.specs.Texts.{letters}
use Rattle.kube_server_functions.proofs.texts.letters.Given as goal

abbrev pub invariant-loop-c : goal.invariant-loop-c
invariant-loop-c l = map view l.letters.items ++ letters (drop l.c-index l.characters) ≡ letters l.characters
