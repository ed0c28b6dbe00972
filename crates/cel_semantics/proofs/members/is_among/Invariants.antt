use Rattle.std.proofs.Common.{◌≡◌, drop}
use Rattle.cel_value.specs.View.{view, items_view}
use Rattle.cel_semantics.specs.Members.{is_item}
use Rattle.cel_semantics.proofs.members.is_among.Given as goal

abbrev pub invariant-loop-other : goal.invariant-loop-other
invariant-loop-other l = is_item (view l.value) l.items ≡ is_item (view l.value) (items_view (drop l.other-index l.other-items))
