use Rattle.kube_functions_strings.proofs.Joining.{values_more}
use Rattle.kube_functions_strings.proofs.splitting.text_values.Goals as goal

pub loop-text-preserved : goal.loop-text-preserved
loop-text-preserved c =
    values_more c.loop-text.values.items c.push.new.self.items c.in_ok-from_text.field-0 c.args.texts.now c.loop-text.text-index _ _ c.loop-text-test.true c.in_ok-push.ensures.items c.in_ok-from_text.ensures.value
    c.in_ok-from_str.ensures.ok c.loop-text.invariant
