use Rattle.kubecel.proofs.Added.{with_option}
use Rattle.kubecel.proofs.words.check_words.Goals as goal
use Rattle.kubecel.specs.Words.{check_words}
use Rattle.std.proofs.lemmas.Result.{IfOk-weaker}

pub returns : goal.returns
unfolding check_words
returns c =
    let crds = with_option c.in_ok-arg.ensures c.in_ok-command.ensures c.crds.ensures in
    let olds = with_option c.in_ok-arg-2.ensures crds c.files.ensures in
    let missing = with_option c.in_ok-arg-3.ensures olds c.flag.ensures in
    let none = with_option c.in_ok-arg-4.ensures missing c.flag-2.ensures in
    let folders = with_option c.in_ok-arg-5.ensures none c.recursive.ensures in
    IfOk-weaker c.arg-6.result _ _ (λ n h. with_option h folders c.objects.ensures) c.arg-6.ensures
