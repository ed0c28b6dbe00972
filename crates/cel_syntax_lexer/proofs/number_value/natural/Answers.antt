use Rattle.std.proofs.Common.{◌≡◌, sym, ◌∙◌, true}
use Rattle.cel_syntax_lexer.specs.Number.{is_numeral}
use Rattle.cel_syntax_lexer.proofs.Numerals.{numeral_is_text, numeral_read}
use Rattle.cel_syntax_lexer.proofs.number_value.natural.Goals as goal

pub returns-in-Ok : goal.returns-in-Ok
returns-in-Ok c =
    let numeral : is_numeral c.args.radix c.args.digits.now ≡ true = sym c.is_numeral.ensures ∙ c.if-not-is_numeral.false in
    let read = rw c.in-Ok.ensures.cases.0 at c.from_str_radix.ensures.value in
    c.ok.ensures.value ∙ numeral_read c.args.radix c.args.digits.now c.from_str_radix.result c.requires.high numeral read

pub returns-in-Err : goal.returns-in-Err
returns-in-Err c =
    let numeral : is_numeral c.args.radix c.args.digits.now ≡ true = sym c.is_numeral.ensures ∙ c.if-not-is_numeral.false in
    absurd (c.in-Err.ensures.cases.0 (numeral_is_text c.args.radix c.args.digits.now c.requires.high numeral))
