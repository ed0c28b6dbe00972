use Rattle.std.proofs.Common.{arith, sym, ◌∙◌}
use Rattle.cel_syntax_lexer.proofs.First.{has_some, has_none, nothing_at_end, word_at, prefixed_at, quoted_at, never_quoted_at, number_at, two_at, one_at, none_at}
use Rattle.kube_server_lexer.proofs.lexer.first_token.Goals as goal

pub returns-then-is_empty : goal.returns-then-is_empty
returns-then-is_empty c = nothing_at_end c.args.text.now (has_none c.args.text.now (sym c.is_empty.ensures ∙ c.if-is_empty.true))

pub returns-then-prefixed-word : goal.returns-then-prefixed-word
returns-then-prefixed-word c =
    let some = has_some c.args.text.now (sym c.is_empty.ensures ∙ c.if-is_empty.false) in
    let word = rw c.after.ensures at c.word_length-word.ensures.value in
    prefixed_at c.args.text.now c.prefixed_length-prefixed.result some (sym c.is_letter.ensures ∙ c.if-is_letter.true) c.prefixed_length-prefixed.ensures.spelling
    (omega arith)

pub returns-then-is_letter : goal.returns-then-is_letter
returns-then-is_letter c =
    let some = has_some c.args.text.now (sym c.is_empty.ensures ∙ c.if-is_empty.false) in
    let word = rw c.after.ensures at c.word_length-word.ensures.value in
    rw word
    (word_at c.args.text.now c.prefixed_length-prefixed.result some (sym c.is_letter.ensures ∙ c.if-is_letter.true) c.prefixed_length-prefixed.ensures.spelling
    (omega arith))

pub returns-then-quoted-gt0 : goal.returns-then-quoted-gt0
returns-then-quoted-gt0 c =
    let some = has_some c.args.text.now (sym c.is_empty.ensures ∙ c.if-is_empty.false) in
    quoted_at c.args.text.now c.string_length-quoted.result some (sym c.is_letter.ensures ∙ c.if-is_letter.false) (sym c.is_quote.ensures ∙ c.if-is_quote.true)
    c.string_length-quoted.ensures.spelling c.if-quoted-gt0.true

pub returns-then-is_quote : goal.returns-then-is_quote
returns-then-is_quote c =
    let some = has_some c.args.text.now (sym c.is_empty.ensures ∙ c.if-is_empty.false) in
    never_quoted_at c.args.text.now c.string_length-quoted.result some (sym c.is_letter.ensures ∙ c.if-is_letter.false) (sym c.is_quote.ensures ∙ c.if-is_quote.true)
    c.string_length-quoted.ensures.spelling c.if-quoted-gt0.false

pub returns-then-number-gt0 : goal.returns-then-number-gt0
returns-then-number-gt0 c =
    let some = has_some c.args.text.now (sym c.is_empty.ensures ∙ c.if-is_empty.false) in
    number_at c.args.text.now c.number_length-number.result some (sym c.is_letter.ensures ∙ c.if-is_letter.false) (sym c.is_quote.ensures ∙ c.if-is_quote.false)
    c.number_length-number.ensures.spelling c.if-number-gt0.true

pub returns-in-Some : goal.returns-in-Some
returns-in-Some c =
    two_at c.args.text.now c.in-Some.punctuator c.number_length-number.result (sym c.is_letter.ensures ∙ c.if-is_letter.false) (sym c.is_quote.ensures ∙ c.if-is_quote.false)
    c.number_length-number.ensures.spelling c.if-number-gt0.false (sym c.in-Some.ensures)

pub returns-in-Some-one_byte : goal.returns-in-Some-one_byte
returns-in-Some-one_byte c =
    let some = has_some c.args.text.now (sym c.is_empty.ensures ∙ c.if-is_empty.false) in
    one_at c.args.text.now c.in-Some-one_byte.punctuator c.number_length-number.result some (sym c.is_letter.ensures ∙ c.if-is_letter.false)
    (sym c.is_quote.ensures ∙ c.if-is_quote.false) c.number_length-number.ensures.spelling c.if-number-gt0.false (sym c.in-None.ensures) (sym c.in-Some-one_byte.ensures)

pub returns-in-None-one_byte : goal.returns-in-None-one_byte
returns-in-None-one_byte c =
    let some = has_some c.args.text.now (sym c.is_empty.ensures ∙ c.if-is_empty.false) in
    none_at c.args.text.now c.number_length-number.result some (sym c.is_letter.ensures ∙ c.if-is_letter.false) (sym c.is_quote.ensures ∙ c.if-is_quote.false)
    c.number_length-number.ensures.spelling c.if-number-gt0.false (sym c.in-None.ensures) (sym c.in-None-one_byte.ensures)
