use Rattle.std.proofs.Common.{◌≡◌, ℕ, ◌+◌, ◌<◌, ◌≤◌, ◌^◌, false, true, length, Some, sym, ap, subst, arith}
use Rattle.std.proofs.lemmas.Bool.Decides.{nat_tests}
use Rattle.cel_value_times.proofs.AmountLemmas.{amount_shorter}
use Rattle.cel_value_times.proofs.SumLemmas.{SumsSoFar, sums_step, sums_stuck, sums_past, sums_all}
use Rattle.cel_value_times.proofs.duration_texts.amounts.Goals as goal

none_read : false ≡ true → ⊥
none_read e = cc

pub amounts-preserved : goal.amounts-preserved
amounts-preserved c =
    let sum : c.amounts.total + c.in_ok-nanoseconds.nanoseconds ≡ c.in_ok-total.total = omega (arith, c.in_ok-total.ensures) in
    subst (λ (t : ℕ). SumsSoFar c.args.text.now c.in_ok-nanoseconds.later.now t) sum
    (sums_step c.args.text.now c.amounts.rest.now c.in_ok-nanoseconds.later.now c.amounts.total c.in_ok-nanoseconds.nanoseconds c.amounts.invariant c.in_ok-nanoseconds.ensures.found)

pub amounts-smaller : goal.amounts-smaller
amounts-smaller c = amount_shorter c.amounts.rest.now c.in_ok-nanoseconds.nanoseconds c.in_ok-nanoseconds.later.now c.in_ok-nanoseconds.ensures.found

pub returns-in_err-nanoseconds-clause-only : goal.returns-in_err-nanoseconds-clause-only
returns-in_err-nanoseconds-clause-only c =
    let some : 0 < length c.amounts.rest.now = grind (arith, nat_tests) in
    λ n means fits. absurd (sums_stuck c.args.text.now c.amounts.rest.now c.amounts.total n some c.amounts.invariant (λ k later e small. none_read (c.in_err-nanoseconds.ensures.only k later e small)) means fits)

pub returns-in_err-total-clause-only : goal.returns-in_err-total-clause-only
returns-in_err-total-clause-only c =
    let past : 2 ^ 64 ≤ c.amounts.total + c.in_ok-nanoseconds.nanoseconds = omega (arith, c.in_err-total.ensures) in
    λ n means fits. absurd (sums_past c.args.text.now c.amounts.rest.now c.in_ok-nanoseconds.later.now c.amounts.total c.in_ok-nanoseconds.nanoseconds n c.amounts.invariant c.in_ok-nanoseconds.ensures.found past means fits)

pub returns-clause-found : goal.returns-clause-found
returns-clause-found c =
    let none : length c.amounts.rest.now ≡ 0 = grind (arith, nat_tests) in
    (sums_all c.args.text.now c.amounts.rest.now c.amounts.total none c.amounts.invariant).0

pub returns-clause-only : goal.returns-clause-only
returns-clause-only c =
    let none : length c.amounts.rest.now ≡ 0 = grind (arith, nat_tests) in
    λ n means fits. ap (λ (m : ℕ). Some m) (sym ((sums_all c.args.text.now c.amounts.rest.now c.amounts.total none c.amounts.invariant).1 n means))
