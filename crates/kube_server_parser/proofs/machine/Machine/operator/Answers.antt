use Rattle.std.proofs.Common.{◌∙◌, ◌<◌, ◌∷◌, Some, sym, ap, subst}
use Rattle.kube_server_syntax.specs.Grammar.{level}
use Rattle.kube_server_syntax.specs.Machine as machine
use Rattle.kube_server_syntax.specs.Tree.{tree}
use Rattle.kube_server_parser.specs.Pending.{taken_in}
use Rattle.kube_server_parser.specs.Views.{frames_of}
use Rattle.kube_server_parser.proofs.Deep.{acts_as, fails, operated_past}
use Rattle.kube_server_parser.proofs.Taken.{reduced_is}
use Rattle.kube_server_parser.proofs.machine.Machine.operator.Goals as goal

pub returns-in-Ok : goal.returns-in-Ok
returns-in-Ok c =
    acts_as (Some (machine.operator_by c.args.level c.args.operator (machine.reduced c.args.level (frames_of c.args.self.now.frames.items) (tree c.args.operand.node))))
    (Some (machine.needs, machine.after_operator (tree c.in-Ok.left.node) c.args.operator c.args.level ∷ frames_of c.take_in.new.self.frames.items))
    c.needs.result c.needs.new.self.frames.items
    (ap (λ r. Some (machine.operator_by c.args.level c.args.operator r)) (sym (reduced_is c.args.level (frames_of c.args.self.now.frames.items) (tree c.args.operand.node)) ∙ c.in-Ok.ensures))
    c.needs.ensures

pub returns-in-Err : goal.returns-in-Err
returns-in-Err c =
    fails (Some (machine.operator_by c.args.level c.args.operator (machine.reduced c.args.level (frames_of c.args.self.now.frames.items) (tree c.args.operand.node))))
    (taken_in (Some c.args.level) (frames_of c.args.self.now.frames.items) (tree c.args.operand.node)) c.in-Err.stop c.take_in.new.self.frames.items c.take_in.new.self.frames.items
    (λ h. operated_past c.args.level c.args.operator (machine.reduced c.args.level (frames_of c.args.self.now.frames.items) (tree c.args.operand.node))
    (subst (λ r. 250 < level r.0) (reduced_is c.args.level (frames_of c.args.self.now.frames.items) (tree c.args.operand.node)) h))
    c.in-Err.ensures
