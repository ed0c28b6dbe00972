use Rattle.std.proofs.Common.{◌∙◌, sym, subst, false, None}
use Rattle.kube_server_syntax.specs.Machine as machine
use Rattle.kube_server_syntax.specs.Tree.{tree}
use Rattle.kube_server_parser.specs.Expects.{ending}
use Rattle.kube_server_parser.specs.Pending.{taken_in}
use Rattle.kube_server_parser.specs.Results.{TakesIn}
use Rattle.kube_server_parser.specs.Views.{frames_of}
use Rattle.kube_server_parser.specs.declared.expected.Expected.TheVariants.{After}
use Rattle.kube_server_parser.proofs.Deep.{finishes, finish_fails}
use Rattle.kube_server_parser.proofs.Ends.{not_whole}
use Rattle.kube_server_parser.proofs.machine.Machine.whole_selection.Goals as goal

pub returns-then-not-is_whole : goal.returns-then-not-is_whole
returns-then-not-is_whole c = (not_whole (machine.selected (tree c.args.operand.node) false c.args.place c.args.name) (frames_of c.args.self.now.frames.items) (sym c.is_whole.ensures ∙ c.if-not-is_whole.true), c.after.ensures)

pub returns-in-Ok : goal.returns-in-Ok
returns-in-Ok c =
    finishes (machine.selected (tree c.args.operand.node) false c.args.place c.args.name) (frames_of c.args.self.now.frames.items) (After (ending (frames_of c.args.self.now.frames.items))) c.take_in.result c.take_in.new.self.frames.items
    (sym c.is_whole.ensures ∙ c.if-not-is_whole.false)
    (subst (λ t. TakesIn (taken_in None (frames_of c.args.self.now.frames.items) t) c.take_in.result c.take_in.new.self.frames.items) c.in-Ok.ensures c.take_in.ensures)

pub returns-in-Err : goal.returns-in-Err
returns-in-Err c =
    finish_fails (machine.selected (tree c.args.operand.node) false c.args.place c.args.name) (frames_of c.args.self.now.frames.items) (After (ending (frames_of c.args.self.now.frames.items))) c.in-Err.stop (sym c.is_whole.ensures ∙ c.if-not-is_whole.false) c.in-Err.ensures
