use Rattle.std.proofs.Common.{◌≡◌, ◌++◌, map, drop}
use Rattle.kube_manifests_review.specs.Candidates.{candidate_view}
use Rattle.kube_manifests_review.specs.Stray.{stray_items, stray_members}
use Rattle.kube_manifests_review.proofs.stray.+stray.Given as goal
use Rattle.serde_json.specs.View.{items_view, members_view}

-- the candidates so far, followed by those of the remaining items
abbrev pub invariant-add_from_items-loop-index : goal.invariant-add_from_items-loop-index
invariant-add_from_items-loop-index l =
    map candidate_view l.candidates.items ++ stray_items l.part l.pointer l.index (items_view (drop l.index l.item-items))
    ≡ map candidate_view l.fn.candidates.items ++ stray_items l.part l.pointer 0 (items_view l.item-items)

-- the candidates so far, followed by those of the remaining members
abbrev pub invariant-add_from_members-loop-key : goal.invariant-add_from_members-loop-key
invariant-add_from_members-loop-key l =
    map candidate_view l.candidates.items ++ stray_members l.part l.pointer (members_view l.key-iterator)
    ≡ map candidate_view l.fn.candidates.items ++ stray_members l.part l.pointer (members_view l.fn.members.entries)
