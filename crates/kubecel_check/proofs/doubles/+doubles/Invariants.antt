use Rattle.kubecel_check.proofs.doubles.+doubles.Given as goal
use Rattle.kubecel_check.specs.Doubles.{first_in_items, first_in_members}
use Rattle.serde_json.specs.View.{items_view, members_view}
use Rattle.std.proofs.Common.{◌≡◌, drop}

-- the first in the remaining items is the first in all
abbrev pub invariant-first_in_items-loop-index : goal.invariant-first_in_items-loop-index
invariant-first_in_items-loop-index l = first_in_items l.path l.index (items_view (drop l.index l.item-items)) ≡ first_in_items l.path 0 (items_view l.item-items)

-- the first in the remaining members is the first in all
abbrev pub invariant-first_in_members-loop-key : goal.invariant-first_in_members-loop-key
invariant-first_in_members-loop-key l = first_in_members l.path (members_view l.key-iterator) ≡ first_in_members l.path (members_view l.fn.members.entries)
