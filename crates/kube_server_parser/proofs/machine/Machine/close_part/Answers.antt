use Rattle.std.proofs.Common.{◌∙◌, ◌<◌, None, sym, ap, subst}
use Rattle.kube_server_syntax.specs.Grammar.{level}
use Rattle.kube_server_syntax.specs.Machine as machine
use Rattle.kube_server_syntax.specs.Tree.{tree}
use Rattle.kube_server_parser.specs.Pending.{taken_in}
use Rattle.kube_server_parser.specs.Views.{frames_of}
use Rattle.kube_server_parser.proofs.Deep.{acts_as, fails, part_past}
use Rattle.kube_server_parser.proofs.Taken.{closed_is}
use Rattle.kube_server_parser.proofs.machine.Machine.close_part.Goals as goal

pub returns-in-Ok : goal.returns-in-Ok
returns-in-Ok c =
    acts_as (machine.part_by_mark (machine.closed (frames_of c.args.self.now.frames.items) (tree c.args.operand.node)) c.args.mark c.args.place)
    (machine.part_by_mark (tree c.in-Ok.part.node, frames_of c.take_in.new.self.frames.items) c.args.mark c.args.place)
    c.part.result c.part.new.self.frames.items
    (ap (λ r. machine.part_by_mark r c.args.mark c.args.place) (sym (closed_is (frames_of c.args.self.now.frames.items) (tree c.args.operand.node)) ∙ c.in-Ok.ensures))
    c.part.ensures

pub returns-in-Err : goal.returns-in-Err
returns-in-Err c =
    fails (machine.part_by_mark (machine.closed (frames_of c.args.self.now.frames.items) (tree c.args.operand.node)) c.args.mark c.args.place)
    (taken_in None (frames_of c.args.self.now.frames.items) (tree c.args.operand.node)) c.in-Err.stop c.take_in.new.self.frames.items c.take_in.new.self.frames.items
    (λ h. part_past (machine.closed (frames_of c.args.self.now.frames.items) (tree c.args.operand.node)) c.args.mark c.args.place (subst (λ r. 250 < level r.0) (closed_is (frames_of c.args.self.now.frames.items) (tree c.args.operand.node)) h))
    c.in-Err.ensures
