use Rattle.kubecel.proofs.Added.{with_option}
use Rattle.kubecel.proofs.words.review_words.Goals as goal
use Rattle.kubecel.specs.Words.{review_words}
use Rattle.std.proofs.lemmas.Result.{IfOk-weaker}

pub returns : goal.returns
unfolding review_words
returns c =
    let crds = with_option c.in_ok-arg.ensures c.in_ok-command.ensures c.all_crds.ensures in
    IfOk-weaker c.arg-2.result _ _ (λ n h. with_option h crds c.recursive.ensures) c.arg-2.ensures
