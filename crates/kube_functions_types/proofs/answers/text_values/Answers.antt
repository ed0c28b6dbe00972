use Rattle.kube_functions_types.proofs.Pushed.{pushed}
use Rattle.kube_functions_types.proofs.answers.text_values.Goals as goal

pub loop-text-preserved : goal.loop-text-preserved
loop-text-preserved c =
    pushed c.loop-text.values.items c.push.new.self.items c.in_ok-value.value c.loop-text.yielded c.in-Some.text c.loop-text.invariant c.in_ok-value.ensures.value c.in_ok-push.ensures.items
