use Rattle.std.proofs.Common.{◌≡◌, suc, subst, ◌+◌, ◌-◌, ◌/◌, sym, ◌∙◌, arith}
use Rattle.cel_value.specs.StoredEntries.{place_of}
use Rattle.cel_value.proofs.Stored.{IsBetween, within, before, after, there, both, both_low}
use Rattle.cel_value.proofs.value.stored.search.Goals as goal

pub loop-low-init : goal.loop-low-init
loop-low-init c = (omega arith, omega arith, within c.args.key.now c.args.entries.now)

pub loop-low-preserved-in-Less : goal.loop-low-preserved-in-Less
loop-low-preserved-in-Less c =
    let l = c.loop-low in
    let m = l.low + (l.high - l.low) / 2 in
    let es = c.args.entries.now in
    let k = c.args.key.now in
    let e = c.index-entries-middle.result in
    let o = sym c.cmp.ensures ∙ c.in-Less.is in
    let p = before k es m e (omega (arith, l.invariant.0, l.invariant.1, c.loop-low-test.true)) o in
    (omega (arith, l.invariant.0), omega (arith, l.invariant.0, l.invariant.1), both_low l.low l.high 0 m (place_of k es) l.invariant.2 p)

pub returns-in-Equal-clause-place : goal.returns-in-Equal-clause-place
returns-in-Equal-clause-place c =
    let l = c.loop-low in
    let m = l.low + (l.high - l.low) / 2 in
    let es = c.args.entries.now in
    let k = c.args.key.now in
    let e = c.index-entries-middle.result in
    let o = sym c.cmp.ensures ∙ c.in-Equal.is in
    sym (there k es m e c.requires (omega (arith, l.invariant.0, l.invariant.1, c.loop-low-test.true)) o)

pub loop-low-preserved : goal.loop-low-preserved
loop-low-preserved c =
    let l = c.loop-low in
    let m = l.low + (l.high - l.low) / 2 in
    let es = c.args.entries.now in
    let k = c.args.key.now in
    let e = c.index-entries-middle.result in
    let o = sym c.cmp.ensures ∙ c.in-Greater.is in
    let next : suc m ≡ m + 1 = omega arith in
    let p = after k es m e c.requires (omega (arith, l.invariant.0, l.invariant.1, c.loop-low-test.true)) o in
    (omega (arith, l.invariant.0, c.loop-low-test.true), omega (arith, l.invariant.1), subst (λ n. IsBetween n l.high (place_of k es)) next (both l.low l.high (suc m) _ (place_of k es) l.invariant.2 p))
