use Rattle.kube_cel_vap.proofs.Listed.{one_more_copied}
use Rattle.kube_cel_vap.proofs.request.clone_texts.Goals as goal
use Rattle.std.proofs.Common.{◌<◌, length, string_bytes, arith}

pub loop-text-preserved : goal.loop-text-preserved
loop-text-preserved c =
    let texts = c.args.texts.now in
    let below : c.loop-text.text-index < length texts = omega arith in
    one_more_copied string_bytes c.loop-text.cloned.items c.push.new.self.items c.in_ok-clone.field-0 texts c.loop-text.text-index c.text-item.result
    c.in_ok-push.ensures.items c.loop-text.invariant c.in_ok-clone.ensures.cases below c.text-item.is
