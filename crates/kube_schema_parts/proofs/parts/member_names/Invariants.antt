use Rattle.std.proofs.Common.{◌≡◌, take}
use Rattle.kube_schema_parts.specs.Parts.{name_keys}
use Rattle.kube_schema_parts.proofs.parts.member_names.Given as goal

abbrev pub invariant-loop-member : goal.invariant-loop-member
invariant-loop-member l = l.names.items ≡ name_keys (take l.member-index l.member-items)
