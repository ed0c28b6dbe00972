use Rattle.kube_cel_vap.proofs.request.clone_texts.Given as goal
use Rattle.std.proofs.Common.{◌≡◌, map, string_bytes, take}

abbrev pub invariant-loop-text : goal.invariant-loop-text
invariant-loop-text l = map string_bytes l.cloned.items ≡ map string_bytes (take l.text-index l.texts)
