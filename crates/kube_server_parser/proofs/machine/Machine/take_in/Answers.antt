use Rattle.std.proofs.Common.{◌∙◌, ◌≤◌, sym, ap, subst}
use Rattle.kube_server_syntax.specs.Grammar.{level}
use Rattle.kube_server_syntax.specs.Tree.{tree}
use Rattle.kube_server_parser.specs.Pending.{applied, taken_in}
use Rattle.kube_server_parser.specs.Views.{frames_of, waiting_view}
use Rattle.kube_server_parser.proofs.Deep.{taken_fails}
use Rattle.kube_server_parser.proofs.Taken.{in_goes, in_stays, taken_level}
use Rattle.kube_server_parser.proofs.machine.Machine.take_in.Goals as goal

pub returns-in-Err : goal.returns-in-Err
returns-in-Err c =
    let e = c.loop-waiting.invariant
    ∙ ap (λ fs. taken_in c.args.loosest fs (tree c.loop-waiting.part.node)) c.in-Some.ensures.0
    ∙ in_goes c.args.loosest (waiting_view c.in-Some.waiting) (frames_of c.waiting.new.self.frames.items) (tree c.loop-waiting.part.node) c.in-Some.ensures.1 in
    taken_fails (taken_in c.args.loosest (frames_of c.args.self.now.frames.items) (tree c.args.operand.node)) (applied (waiting_view c.in-Some.waiting) (tree c.loop-waiting.part.node))
    c.in-Err.stop c.waiting.new.self.frames.items
    (subst (λ r. level (applied (waiting_view c.in-Some.waiting) (tree c.loop-waiting.part.node)) ≤ level r.0) (sym e)
    (taken_level c.args.loosest (frames_of c.waiting.new.self.frames.items) (applied (waiting_view c.in-Some.waiting) (tree c.loop-waiting.part.node))))
    c.in-Err.ensures

pub returns : goal.returns
returns c =
    let stays = c.in_default.ensures in
    c.loop-waiting.invariant
    ∙ in_stays c.args.loosest (frames_of c.loop-waiting.self.frames.items) (tree c.loop-waiting.part.node) stays.0
    ∙ ap (λ fs. (tree c.loop-waiting.part.node, fs)) (sym stays.1)
