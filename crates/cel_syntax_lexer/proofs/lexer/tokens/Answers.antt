use Rattle.std.proofs.Common.{arith, sym, ◌∙◌, map, length, ◌≡◌, ◌-◌, ap, length-drop}
use Rattle.cel_syntax_lexer.specs.Token.{token_of}
use Rattle.cel_syntax_lexer.proofs.First.{takes_some, has_some, has_none}
use Rattle.cel_syntax_lexer.proofs.Cut.{map_push, goes_start, goes_comment, goes_space, goes_token, goes_end}
use Rattle.cel_syntax_lexer.proofs.lexer.tokens.Goals as goal

pub loop-rest-init : goal.loop-rest-init
loop-rest-init c = rw c.new-found.ensures.items (goes_start c.args.text.now)

pub loop-rest-preserved-then-begins_comment : goal.loop-rest-preserved-then-begins_comment
loop-rest-preserved-then-begins_comment c =
    rw (c.after-rest.ensures, c.line_length.ensures.value)
    (goes_comment c.args.text.now (map token_of c.loop-rest.found.items) c.loop-rest.rest.now c.loop-rest.invariant (sym c.begins_comment.ensures ∙ c.if-begins_comment.true))

pub loop-rest-preserved-then-is_white_space : goal.loop-rest-preserved-then-is_white_space
loop-rest-preserved-then-is_white_space c =
    let some = has_some c.loop-rest.rest.now (sym c.is_empty.ensures ∙ c.loop-rest-test.true) in
    rw c.after-rest-then-is_white_space.ensures
    (goes_space c.args.text.now (map token_of c.loop-rest.found.items) c.loop-rest.rest.now c.loop-rest.invariant some
    (sym c.is_white_space.ensures ∙ c.if-is_white_space.true))

pub returns : goal.returns
returns c = goes_end c.args.text.now (map token_of c.loop-rest.found.items) c.loop-rest.rest.now c.loop-rest.invariant
    (has_none c.loop-rest.rest.now (sym c.is_empty.ensures ∙ c.loop-rest-test.false))

pub loop-rest-preserved : goal.loop-rest-preserved
loop-rest-preserved c =
    rw (c.in_ok-push-in-Some.ensures.items, map_push token_of c.loop-rest.found.items c.in-Some.token, c.after-rest-in-Some.ensures)
    (goes_token c.args.text.now (map token_of c.loop-rest.found.items) c.loop-rest.rest.now c.in-Some.length (token_of c.in-Some.token) c.loop-rest.invariant
    (sym c.begins_comment.ensures ∙ c.if-begins_comment.false) c.in-Some.ensures)

pub loop-rest-smaller : goal.loop-rest-smaller
loop-rest-smaller c =
    let some = has_some c.loop-rest.rest.now (sym c.is_empty.ensures ∙ c.loop-rest-test.true) in
    let grows = takes_some c.loop-rest.rest.now c.in-Some.length (token_of c.in-Some.token) c.in-Some.ensures in
    let e : length c.after-rest-in-Some.result.now ≡ length c.loop-rest.rest.now - c.in-Some.length = ap length c.after-rest-in-Some.ensures ∙ length-drop c.in-Some.length c.loop-rest.rest.now in
    omega arith
