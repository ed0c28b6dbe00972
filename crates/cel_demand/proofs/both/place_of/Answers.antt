use Rattle.std.proofs.Common.{rules, arith, ◌≡◌, ◌<◌, ◌≤◌, ◌+◌, suc, length, sym, ap, ◌∙◌, subst}
use Rattle.std.specs.Cmp.Lexicographic.{slice_cmp}
use Rattle.std.specs.Ordering.{nat_cmp}
use Rattle.cel_demand.specs.Places.{IsAfter}
use Rattle.cel_demand.proofs.Views.{after_next, at_this, before_this, after_all}
use Rattle.cel_demand.proofs.both.place_of.Goals as goal

pub returns-in-Less-clause-place : goal.returns-in-Less-clause-place
returns-in-Less-clause-place c =
    let x = c.args.name.now in
    let es = c.args.members.now.items in
    let i = c.loop-index.index in
    let lt : i < length es = search (rules, arith) in
    let order = ap (slice_cmp nat_cmp x) (sym c.as_str.ensures) ∙ sym c.cmp.ensures ∙ c.in-Less.is in
    before_this x es i c.index.result.now lt c.index.ensures order c.loop-index.invariant

pub returns-in-Equal-clause-place : goal.returns-in-Equal-clause-place
returns-in-Equal-clause-place c =
    let x = c.args.name.now in
    let es = c.args.members.now.items in
    let i = c.loop-index.index in
    let lt : i < length es = search (rules, arith) in
    let order = ap (slice_cmp nat_cmp x) (sym c.as_str.ensures) ∙ sym c.cmp.ensures ∙ c.in-Equal.is in
    at_this x es i c.index.result.now lt c.index.ensures order c.loop-index.invariant

pub loop-index-preserved : goal.loop-index-preserved
loop-index-preserved c =
    let x = c.args.name.now in
    let es = c.args.members.now.items in
    let i = c.loop-index.index in
    let lt : i < length es = search (rules, arith) in
    let next : suc i ≡ i + 1 = omega arith in
    let order = ap (slice_cmp nat_cmp x) (sym c.as_str.ensures) ∙ sym c.cmp.ensures ∙ c.in-Greater.is in
    subst (IsAfter x es) next (after_next x es i c.index.result.now lt c.index.ensures order c.loop-index.invariant)

pub returns-clause-place : goal.returns-clause-place
returns-clause-place c =
    let x = c.args.name.now in
    let es = c.args.members.now.items in
    let last : c.loop-index.index ≡ c.len.result = search (rules, arith) in
    let le : length es ≤ c.len.result = search (rules, arith) in
    after_all x es c.len.result le (subst (IsAfter x es) last c.loop-index.invariant)
