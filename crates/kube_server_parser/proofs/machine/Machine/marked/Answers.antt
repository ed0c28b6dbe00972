use Rattle.std.proofs.Common.{◌∙◌, sym, ap}
use Rattle.kube_server_parser.specs.Tables.{linked}
use Rattle.kube_server_parser.specs.Views.{frames_of}
use Rattle.kube_server_parser.proofs.Ends.{mark_linked, link_goes, link_stops}
use Rattle.kube_server_parser.proofs.machine.Machine.marked.Goals as goal

pub returns-then-goes_on : goal.returns-then-goes_on
returns-then-goes_on c = λ x q. (
  mark_linked c.args.mark (frames_of c.args.self.now.frames.items) x q ∙ ap (λ l. linked l (frames_of c.args.self.now.frames.items) x q) (sym c.link_of-link.ensures),
  link_goes c.link_of-link.result (frames_of c.args.self.now.frames.items) x q (sym c.goes_on.ensures ∙ c.if-goes_on.true),
)

pub returns-else-goes_on : goal.returns-else-goes_on
returns-else-goes_on c = (
  λ x q. mark_linked c.args.mark (frames_of c.args.self.now.frames.items) x q ∙ ap (λ l. linked l (frames_of c.args.self.now.frames.items) x q) (sym c.link_of-link.ensures)
      ∙ link_stops c.link_of-link.result (frames_of c.args.self.now.frames.items) x q (sym c.goes_on.ensures ∙ c.if-goes_on.false),
  c.after.ensures,
)
