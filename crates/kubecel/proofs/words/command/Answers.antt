use Rattle.kubecel.proofs.Added.{with_option}
use Rattle.kubecel.proofs.words.command.Goals as goal
use Rattle.clap.specs.Simple.{new_app}
use Rattle.kubecel.specs.Words.{Understands}
use Rattle.std.proofs.Common.{rules}
use Rattle.std.proofs.lemmas.Result.{IfOk-weaker}

pub returns : goal.returns
returns c =
    let start : Understands (new_app c.args.name.now) c.about.result = search rules in
    IfOk-weaker c.arg.result _ _ (λ n h. with_option h start c.output.ensures) c.arg.ensures
