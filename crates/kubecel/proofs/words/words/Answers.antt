use Rattle.kubecel.proofs.Added.{with_command}
use Rattle.kubecel.proofs.words.words.Goals as goal
use Rattle.kubecel.specs.Words.{form_names, words}
use Rattle.std.proofs.Common.{◌≡◌, map, rules}
use Rattle.std.proofs.lemmas.Result.{IfOk-weaker}

pub returns : goal.returns
unfolding words
returns c =
    let named : map (λ s. s.now) c.as_slice-forms.result.now ≡ form_names = search rules in
    let check = with_command c.in_ok-subcommand.ensures c.program_words.ensures c.in_ok-check_words.ensures in
    let review = with_command c.in_ok-subcommand-2.ensures check c.in_ok-review_words.ensures in
    IfOk-weaker c.subcommand-3.result _ _ (λ n h. (c.as_slice-forms.result, named, with_command h review c.in_ok-admit_words.ensures)) c.subcommand-3.ensures
