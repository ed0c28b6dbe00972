use Rattle.kubecel_io.proofs.Indexed.{one_more_indexed}
use Rattle.kubecel_io.proofs.olds.index_of.Goals as goal
use Rattle.kubecel_io.specs.Index.{identity_text}
use Rattle.std.proofs.Common.{◌≡◌, ◌+◌, ◌-◌, ap, arith, ◌∙◌}

pub loop-number-preserved : goal.loop-number-preserved
loop-number-preserved c = λ k.
    let number = c.loop-number.number in
    let old = c.in-Some.old.now in
    let next : number - 1 + 1 ≡ number = omega arith in
    one_more_indexed c.args.olds.now (number - 1) number old c.in_ok-text.text c.loop-number.index c.insert.new.self next c.in-Some.ensures.lookup.3.0 c.in-Some.ensures.lookup.1
    (c.in_ok-text.ensures ∙ ap identity_text old.its_own) c.in_ok-insert.ensures.updates c.loop-number.invariant k
