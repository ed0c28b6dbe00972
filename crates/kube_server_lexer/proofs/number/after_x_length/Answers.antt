use Rattle.std.proofs.Common.{sym, ◌∙◌, arith}
use Rattle.cel_syntax_lexer.proofs.Numbers.{longest_after_x, no_after_x}
use Rattle.kube_server_lexer.proofs.number.after_x_length.Goals as goal

pub returns-then-digits-eq0-clause-spelling : goal.returns-then-digits-eq0-clause-spelling
returns-then-digits-eq0-clause-spelling c =
    no_after_x c.args.text.now (sym c.hexadecimal_digits_length-digits.ensures.value ∙ c.if-digits-eq0.true)

pub returns-clause-spelling : goal.returns-clause-spelling
returns-clause-spelling c =
    let value = c.hexadecimal_digits_length-digits.ensures.value in
    let zero = c.if-digits-eq0.false in
    rw value (longest_after_x c.args.text.now c.suffix_length.result (omega arith) (rw (c.after.ensures, value) at c.suffix_length.ensures.spelling))
