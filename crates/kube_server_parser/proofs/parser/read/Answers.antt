use Rattle.std.proofs.Common.{Err, sym, subst, arith, length, drop}
use Rattle.kube_server_lexer.specs.Pieces.{IsFirst}
use Rattle.kube_server_lexer.specs.declared.lexer.Piece.TheVariants.{Blank, Of, Unknown}
use Rattle.kube_server_parser.specs.Answers.{Reads}
use Rattle.kube_server_parser.proofs.Reading.{starts, blank_room, blank, token, token_moves, wrong, unknown, finish}
use Rattle.kube_server_parser.proofs.parser.read.Goals as goal

pub loop-at-init : goal.loop-at-init
loop-at-init c = rw c.new-frames.ensures.items (starts c.args.text.now)

pub overflow_add-at : goal.overflow_add-at
overflow_add-at c =
    let inv = c.loop-at.invariant in
    let g = blank_room c.args.text.now c.loop-at.at c.in-Blank.length inv.inside
    (subst (λ y. IsFirst y (Blank c.in-Blank.length)) c.after.ensures c.in-Blank.ensures.piece) in
    omega arith

pub loop-at-preserved-in-Blank : goal.loop-at-preserved-in-Blank
loop-at-preserved-in-Blank c =
    blank c.args.text.now c.loop-at.at c.in-Blank.length c.loop-at.mode c.loop-at.machine.frames.items c.loop-at.invariant
    (subst (λ y. IsFirst y (Blank c.in-Blank.length)) c.after.ensures c.in-Blank.ensures.piece)

pub returns-in-Err : goal.returns-in-Err
returns-in-Err c =
    wrong c.args.text.now c.loop-at.at c.in-Of.length c.in-Of.token c.loop-at.mode c.loop-at.machine.frames.items c.step.new.self.frames.items
    c.in-Err.stop c.stopped_at.result c.loop-at.invariant
    (subst (λ y. IsFirst y (Of c.in-Of.token c.in-Of.length)) c.after.ensures c.in-Of.ensures.piece) c.in-Err.ensures c.stopped_at.ensures

pub loop-at-smaller : goal.loop-at-smaller
loop-at-smaller c =
    let g = token_moves (drop c.loop-at.at c.args.text.now) c.in-Of.length c.in-Of.token
    (subst (λ y. IsFirst y (Of c.in-Of.token c.in-Of.length)) c.after.ensures c.in-Of.ensures.piece) in
    let h = c.loop-at-test.true in
    omega arith

pub loop-at-preserved : goal.loop-at-preserved
loop-at-preserved c =
    token c.args.text.now c.loop-at.at c.in-Of.length c.in-Of.token c.loop-at.mode c.in-Ok.next c.loop-at.machine.frames.items c.step.new.self.frames.items
    c.loop-at.invariant (subst (λ y. IsFirst y (Of c.in-Of.token c.in-Of.length)) c.after.ensures c.in-Of.ensures.piece) c.in-Ok.ensures

pub returns-in-Unknown : goal.returns-in-Unknown
returns-in-Unknown c =
    subst (λ g. Reads c.args.text.now (Err g)) (sym c.unknown.ensures)
    (unknown c.args.text.now c.loop-at.at c.loop-at.mode c.loop-at.machine.frames.items c.loop-at.invariant c.loop-at-test.true
    (subst (λ y. IsFirst y Unknown) c.after.ensures c.in-Unknown.ensures.piece))

pub returns : goal.returns
returns c =
    finish c.args.text.now c.loop-at.at c.loop-at.mode c.loop-at.machine.frames.items c.finished.result c.loop-at.invariant
    c.loop-at-test.false c.finished.ensures
