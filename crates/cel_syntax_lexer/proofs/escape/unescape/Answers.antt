use Rattle.std.proofs.Common.{◌≡◌, ◌<◌, sym, ◌∙◌, ap, Some, None, List, ℕ, length, drop}
use Rattle.cel_syntax_lexer.specs.Escape.{escape}
use Rattle.cel_syntax_lexer.proofs.Codes.{escape_fits}
use Rattle.cel_syntax_lexer.proofs.Walk.{goes_plain, goes_escape, goes_stuck, goes_end, has_some, has_none}
use Rattle.cel_syntax_lexer.proofs.escape.unescape.Goals as goal

pub push_code-requires : goal.push_code-requires
push_code-requires c = (escape_fits c.args.content c.after-rest.result.now (c.in-Some.code, c.in-Some.size) (sym c.in-Some.ensures)).1

pub after-rest-requires-in-Some : goal.after-rest-requires-in-Some
after-rest-requires-in-Some c = (escape_fits c.args.content c.after-rest.result.now (c.in-Some.code, c.in-Some.size) (sym c.in-Some.ensures)).0

pub loop-rest-preserved-in-Some : goal.loop-rest-preserved-in-Some
loop-rest-preserved-in-Some c =
    let filled : 0 < length c.loop-rest.rest.now = has_some c.loop-rest.rest.now (sym c.is_empty.ensures ∙ c.loop-rest-test.true) in
    let read : escape c.args.content (drop 1 c.loop-rest.rest.now) ≡ Some (c.in-Some.code, c.in-Some.size) = ap (λ (s : List ℕ). escape c.args.content s) (sym c.after-rest.ensures) ∙ sym c.in-Some.ensures in
    rw (c.in_ok-push_code-in-Some.ensures.made, c.after-rest-in-Some.ensures, c.after-rest.ensures)
    (goes_escape c.args.content c.args.body.now c.loop-rest.made.items c.loop-rest.rest.now (c.in-Some.code, c.in-Some.size) filled c.loop-rest.invariant c.if-first-eq92.true read)

pub returns-in-None : goal.returns-in-None
returns-in-None c =
    let filled : 0 < length c.loop-rest.rest.now = has_some c.loop-rest.rest.now (sym c.is_empty.ensures ∙ c.loop-rest-test.true) in
    let read : escape c.args.content (drop 1 c.loop-rest.rest.now) ≡ None = ap (λ (s : List ℕ). escape c.args.content s) (sym c.after-rest.ensures) ∙ sym c.in-None.ensures in
    sym (goes_stuck c.args.content c.args.body.now c.loop-rest.made.items c.loop-rest.rest.now filled c.loop-rest.invariant c.if-first-eq92.true read)

pub loop-rest-preserved : goal.loop-rest-preserved
loop-rest-preserved c =
    let filled : 0 < length c.loop-rest.rest.now = has_some c.loop-rest.rest.now (sym c.is_empty.ensures ∙ c.loop-rest-test.true) in
    rw (c.in_ok-push.ensures.items, c.after-rest.ensures)
    (goes_plain c.args.content c.args.body.now c.loop-rest.made.items c.loop-rest.rest.now filled c.loop-rest.invariant c.if-first-eq92.false)

pub returns : goal.returns
returns c = sym (goes_end c.args.content c.args.body.now c.loop-rest.made.items c.loop-rest.rest.now (has_none c.loop-rest.rest.now (sym c.is_empty.ensures ∙ c.loop-rest-test.false)) c.loop-rest.invariant)
