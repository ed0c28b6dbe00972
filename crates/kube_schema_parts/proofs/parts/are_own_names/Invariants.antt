use Rattle.std.specs.List.{AllWithin}
use Rattle.std.proofs.Common.{◌≡◌}
use Rattle.cel_demand.specs.Places.{name_of}
use Rattle.kube_schema_values.specs.Escape.{escape}
use Rattle.kube_schema_parts.proofs.parts.are_own_names.Given as goal

abbrev pub invariant-loop-member : goal.invariant-loop-member
invariant-loop-member l = AllWithin (λ e. escape (name_of e) ≡ name_of e) l.member-items 0 l.member-index
