use Rattle.std.proofs.Common.{sym, ◌∙◌, arith}
use Rattle.cel_syntax_lexer.proofs.Numbers.{longest_decimal, no_decimal}
use Rattle.kube_server_lexer.proofs.number.decimal_length.Goals as goal

pub returns-then-digits-eq0-clause-spelling : goal.returns-then-digits-eq0-clause-spelling
returns-then-digits-eq0-clause-spelling c =
    no_decimal c.args.text.now (sym c.digits_length-digits.ensures.value ∙ c.if-digits-eq0.true)

pub returns-clause-spelling : goal.returns-clause-spelling
returns-clause-spelling c =
    let value = c.digits_length-digits.ensures.value in
    let zero = c.if-digits-eq0.false in
    rw value (longest_decimal c.args.text.now c.after_digits_length.result (omega arith) (rw (c.after.ensures, value) at c.after_digits_length.ensures.spelling))
