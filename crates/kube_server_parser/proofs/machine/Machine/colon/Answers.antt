use Rattle.std.proofs.Common.{◌∙◌, ◌<◌, Some, false, true, sym, ap, subst}
use Rattle.cel_syntax.specs.Punctuator.TheVariants as m
use Rattle.kube_server_syntax.specs.Grammar.{level}
use Rattle.kube_server_syntax.specs.Machine as machine
use Rattle.kube_server_syntax.specs.Tree.{tree}
use Rattle.kube_server_parser.specs.Pending.{taken_in}
use Rattle.kube_server_parser.specs.Views.{frames_of}
use Rattle.kube_server_parser.proofs.Deep.{acts_as, fails, colon_past}
use Rattle.kube_server_parser.proofs.Ends.{asks_to, colon_part}
use Rattle.kube_server_parser.proofs.Taken.{reduced_is}
use Rattle.kube_server_parser.proofs.machine.Machine.colon.Goals as goal

pub returns-then-not-is_asking : goal.returns-then-not-is_asking
returns-then-not-is_asking c =
    acts_as (machine.colon_by (machine.reduced 5 (frames_of c.args.self.now.frames.items) (tree c.args.operand.node)) c.args.place)
    (machine.part_by_mark (machine.closed (frames_of c.args.self.now.frames.items) (tree c.args.operand.node)) m.Colon c.args.place)
    c.close_part.result c.close_part.new.self.frames.items
    (colon_part (tree c.args.operand.node) (frames_of c.args.self.now.frames.items) c.args.place (sym c.is_asking.ensures ∙ c.if-not-is_asking.true))
    c.close_part.ensures

pub returns-in-Ok : goal.returns-in-Ok
returns-in-Ok c =
    acts_as (machine.colon_by (machine.reduced 5 (frames_of c.args.self.now.frames.items) (tree c.args.operand.node)) c.args.place)
    (machine.colon_by (tree c.in-Ok.yes.node, frames_of c.take_in.new.self.frames.items) c.args.place)
    c.first_branch.result c.first_branch.new.self.frames.items
    (ap (λ r. machine.colon_by r c.args.place) (sym (reduced_is 5 (frames_of c.args.self.now.frames.items) (tree c.args.operand.node)) ∙ c.in-Ok.ensures))
    (c.first_branch.ensures (asks_to (frames_of c.args.self.now.frames.items) (frames_of c.take_in.new.self.frames.items) (tree c.args.operand.node) (tree c.in-Ok.yes.node)
    (sym c.is_asking.ensures ∙ c.if-not-is_asking.false) c.in-Ok.ensures) c.args.place)

pub returns-in-Err : goal.returns-in-Err
returns-in-Err c =
    fails (machine.colon_by (machine.reduced 5 (frames_of c.args.self.now.frames.items) (tree c.args.operand.node)) c.args.place)
    (taken_in (Some 5) (frames_of c.args.self.now.frames.items) (tree c.args.operand.node)) c.in-Err.stop c.take_in.new.self.frames.items c.take_in.new.self.frames.items
    (λ h. colon_past (machine.reduced 5 (frames_of c.args.self.now.frames.items) (tree c.args.operand.node)) c.args.place (subst (λ r. 250 < level r.0) (reduced_is 5 (frames_of c.args.self.now.frames.items) (tree c.args.operand.node)) h))
    c.in-Err.ensures
