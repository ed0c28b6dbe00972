use Rattle.std.proofs.Common.{◌∙◌, sym}
use Rattle.kube_server_syntax.specs.Tree.{tree}
use Rattle.kube_server_parser.specs.Expects.{ending}
use Rattle.kube_server_parser.specs.Views.{frames_of}
use Rattle.kube_server_parser.specs.declared.expected.Expected.TheVariants.{After}
use Rattle.kube_server_parser.proofs.Deep.{finishes}
use Rattle.kube_server_parser.proofs.Ends.{not_whole}
use Rattle.kube_server_parser.proofs.machine.Machine.whole.Goals as goal

pub returns-then-is_whole : goal.returns-then-is_whole
returns-then-is_whole c =
    finishes (tree c.args.operand.node) (frames_of c.args.self.now.frames.items) (After (ending (frames_of c.args.self.now.frames.items))) c.take_in.result c.take_in.new.self.frames.items
    (sym c.is_whole.ensures ∙ c.if-is_whole.true) c.take_in.ensures

pub returns-else-is_whole : goal.returns-else-is_whole
returns-else-is_whole c = (not_whole (tree c.args.operand.node) (frames_of c.args.self.now.frames.items) (sym c.is_whole.ensures ∙ c.if-is_whole.false), c.after.ensures)
