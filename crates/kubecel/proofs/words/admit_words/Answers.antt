use Rattle.kubecel.proofs.Added.{with_option}
use Rattle.kubecel.proofs.words.admit_words.Goals as goal
use Rattle.kubecel.specs.Words.{admit_words}
use Rattle.std.proofs.lemmas.Result.{IfOk-weaker}

pub returns : goal.returns
unfolding admit_words
returns c =
    let policy = with_option c.in_ok-arg.ensures c.in_ok-command.ensures c.policy.ensures in
    let request = with_option c.in_ok-arg-2.ensures policy c.file.ensures in
    let object = with_option c.in_ok-arg-3.ensures request c.file-2.ensures in
    let old = with_option c.in_ok-arg-4.ensures object c.file-3.ensures in
    let params = with_option c.in_ok-arg-5.ensures old c.file-4.ensures in
    IfOk-weaker c.arg-6.result _ _ (λ n h. with_option h params c.file-5.ensures) c.arg-6.ensures
