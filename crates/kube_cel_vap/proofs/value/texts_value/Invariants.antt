use Rattle.cel_value.specs.Data.{text}
use Rattle.cel_value.specs.View.{view}
use Rattle.kube_cel_vap.proofs.value.texts_value.Given as goal
use Rattle.std.proofs.Common.{◌≡◌, map, string_bytes, take}

abbrev pub invariant-loop-chars : goal.invariant-loop-chars
invariant-loop-chars l = map view l.values.items ≡ map text (map string_bytes (take l.chars-index l.texts))
