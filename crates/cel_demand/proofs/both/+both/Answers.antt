use Rattle.std.proofs.Common.{arith, ◌≡◌, suc, ◌+◌, ◌<◌, length, drop, sym, ap, ◌∙◌, subst}
use Rattle.cel_demand.specs.Demand.{part_of, members_view}
use Rattle.cel_demand.specs.Part.{both, all_members, with_member}
use Rattle.cel_demand.specs.Places.{BelongsAt}
use Rattle.cel_demand.proofs.Views.{one_before, same_entry}
use Rattle.cel_demand.proofs.both.+both.Goals as goal
use Rattle.cel_demand.proofs.both.+both.Goals.{both_members-in-Ok+in_ok-joined-in-Ok, both_members-in-Err+in_ok-insert_member-in-Err}

pub both_members-loop-member-preserved : goal.both_members-loop-member-preserved
both_members-loop-member-preserved t c =
    let items = c.deref-member-items.result.now in
    let m = c.member-item.result in
    let x = m.0 in
    let p = part_of m.1 in
    let all = c.loop-member.all.items in
    let name = c.as_str.ensures in
    let more : members_view c.match-place_of.all.items ≡ with_member x p (both p) (members_view all) =
    elim c.match-place_of.branch as (λ _. members_view c.match-place_of.all.items ≡ with_member x p (both p) (members_view all)) [
      | both_members-in-Ok+in_ok-joined-in-Ok w ↦
          ap (λ v. members_view v.items) w.all-is
          ∙ w.set_demand.ensures c.as_str.result.now p (both p) w.in-Ok.ensures.place
          (λ e is. w.in_ok-joined-in-Ok.ensures.both ∙ ap (λ z. both p (part_of z.1)) (same_entry all w.in-Ok.index w.index.result.now e w.in-Ok.ensures.within w.index.ensures is))
          ∙ ap (λ y. with_member y p (both p) (members_view all)) name
      | both_members-in-Err+in_ok-insert_member-in-Err w ↦
          ap (λ v. members_view v.items) w.all-is
          ∙ w.in_ok-insert_member-in-Err.ensures.added (both p) (subst (λ y. BelongsAt y all w.in-Err.index) name w.in-Err.ensures.place)
    ] in
    let i = c.loop-member.member-index in
    let within : i < length items = omega (arith, c.loop-member-test.true) in
    let next : suc i ≡ i + 1 = omega arith in
    ap (all_members (members_view (drop (i + 1) items))) more
    ∙ ap (λ ms. all_members ms (members_view all)) (sym (one_before items i (i + 1) m within c.member-item.is next))
    ∙ c.loop-member.invariant
