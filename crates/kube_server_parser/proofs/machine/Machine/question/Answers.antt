use Rattle.std.proofs.Common.{◌∙◌, ◌<◌, ◌∷◌, Some, sym, subst}
use Rattle.kube_server_syntax.specs.Grammar.{level}
use Rattle.kube_server_syntax.specs.Machine as machine
use Rattle.kube_server_syntax.specs.Tree.{tree}
use Rattle.kube_server_parser.specs.Pending.{taken_in}
use Rattle.kube_server_parser.specs.Views.{frames_of}
use Rattle.kube_server_parser.proofs.Deep.{acts_as, fails, question_past}
use Rattle.kube_server_parser.proofs.Ends.{question_none, question_to}
use Rattle.kube_server_parser.proofs.Taken.{reduced_is}
use Rattle.kube_server_parser.proofs.machine.Machine.question.Goals as goal

pub returns-then-is_asking : goal.returns-then-is_asking
returns-then-is_asking c = question_none (tree c.args.operand.node) (frames_of c.args.self.now.frames.items) (sym c.is_asking.ensures ∙ c.if-is_asking.true)

pub returns-in-Ok : goal.returns-in-Ok
returns-in-Ok c =
    acts_as (machine.question_by (machine.reduced 5 (frames_of c.args.self.now.frames.items) (tree c.args.operand.node)))
    (Some (machine.needs, machine.after_question (tree c.in-Ok.test.node) ∷ frames_of c.take_in.new.self.frames.items))
    c.needs.result c.needs.new.self.frames.items
    (question_to (frames_of c.args.self.now.frames.items) (frames_of c.take_in.new.self.frames.items) (tree c.args.operand.node) (tree c.in-Ok.test.node)
    (sym c.is_asking.ensures ∙ c.if-is_asking.false) c.in-Ok.ensures)
    c.needs.ensures

pub returns-in-Err : goal.returns-in-Err
returns-in-Err c =
    fails (machine.question_by (machine.reduced 5 (frames_of c.args.self.now.frames.items) (tree c.args.operand.node)))
    (taken_in (Some 5) (frames_of c.args.self.now.frames.items) (tree c.args.operand.node)) c.in-Err.stop c.take_in.new.self.frames.items c.take_in.new.self.frames.items
    (λ h. question_past (machine.reduced 5 (frames_of c.args.self.now.frames.items) (tree c.args.operand.node)) (subst (λ r. 250 < level r.0) (reduced_is 5 (frames_of c.args.self.now.frames.items) (tree c.args.operand.node)) h))
    c.in-Err.ensures
