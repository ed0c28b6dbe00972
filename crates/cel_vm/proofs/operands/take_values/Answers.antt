use Rattle.std.proofs.Common.{◌≡◌, ◌<◌, ◌-◌, ◌∷◌, [], length, map, reverse, sym, ap, ◌∙◌, arith, length-append}
use Rattle.std.proofs.lemmas.List.{length-reverse}
use Rattle.cel_value.specs.View.{view}
use Rattle.cel_vm.specs.Machine.{taken}
use Rattle.cel_vm.specs.State.{outcomes}
use Rattle.cel_vm.proofs.Parts.{next_taken, all_taken}
use Rattle.cel_vm.proofs.operands.take_values.Goals as goal

pub loop-values-preserved : goal.loop-values-preserved
loop-values-preserved c =
    let xs = c.loop-values.found.items in
    let v = c.in-Some.value in
    let ys = c.push.new.self.items in
    let e = c.in_ok-push-in-Some.ensures.items in
    let n = c.len.ensures ∙ c.loop-values.found.ok.0 in
    let lt : length xs < c.args.count = omega (arith, c.loop-values-test.true, n) in
    let us = outcomes c.pop_operand.new.values.items in (
      omega (arith, lt, ap length e, length-append xs (v ∷ [])),
      c.loop-values.invariant.1 ∙ next_taken c.args.count xs v (outcomes c.loop-values.values.items) us lt c.in-Some.ensures ∙ ap (λ zs. taken (c.args.count - length zs) us (reverse (map view zs))) (sym e),
    )

pub returns : goal.returns
returns c =
    let xs = c.loop-values.found.items in
    let ys = c.reverse.new.self.items in
    let e = c.reverse.ensures.items in
    let k = c.len.ensures ∙ c.loop-values.found.ok.0 in
    let n : c.args.count ≡ length xs = omega (arith, c.loop-values-test.false, k, c.loop-values.invariant.0) in (
      omega (arith, ap length e, length-reverse xs, n),
      c.loop-values.invariant.1 ∙ all_taken c.args.count xs ys (outcomes c.loop-values.values.items) n e,
    )
