use Rattle.std.proofs.Common.{false}
use Rattle.kube_server_syntax.specs.Machine as machine
use Rattle.kube_server_syntax.specs.Placed.{placed_of}
use Rattle.kube_server_syntax.specs.Tree.{tree}
use Rattle.kube_server_parser.specs.Expects.{ending}
use Rattle.kube_server_parser.specs.Tables.{linked}
use Rattle.kube_server_parser.specs.Views.{frames_of}
use Rattle.kube_server_parser.specs.declared.expected.Expected.TheVariants.{After}
use Rattle.kube_server_parser.proofs.Deep.{linked_past, select_fails}
use Rattle.kube_server_parser.proofs.machine.Machine.selected.Goals as goal

pub returns-in-Err-select : goal.returns-in-Err-select
returns-in-Err-select c =
    let t = machine.selected (tree c.args.operand.node) false c.args.place c.args.name in
    let is = c.in-Ok.ensures t c.args.token.place in
    select_fails (machine.after_member (frames_of c.args.self.now.frames.items) t (placed_of c.args.token)) (linked c.in-Ok.link (frames_of c.args.self.now.frames.items) t c.args.token.place)
    (After (ending (frames_of c.args.self.now.frames.items))) t c.in-Err-select.stop c.args.self.now.frames.items is.0 is.1
    (λ h. linked_past c.in-Ok.link (frames_of c.args.self.now.frames.items) t c.args.token.place h) c.in-Err-select.ensures
