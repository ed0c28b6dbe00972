use Rattle.std.proofs.Common.{◌∙◌, sym, ap, subst}
use Rattle.cel_syntax_lexer.specs.Token.{token_of}
use Rattle.kube_server_syntax.specs.Machine as machine
use Rattle.kube_server_syntax.specs.Placed.{placed_of}
use Rattle.kube_server_parser.specs.Expects.{next_part}
use Rattle.kube_server_parser.specs.Results.{Steps}
use Rattle.kube_server_parser.specs.Tables.{in_more, end_empty}
use Rattle.kube_server_parser.specs.Views.{frames_of}
use Rattle.kube_server_parser.proofs.Deep.{steps_as, steps_same}
use Rattle.kube_server_parser.proofs.Inner.{more_end, more_operand}
use Rattle.kube_server_parser.proofs.machine.Machine.more.Goals as goal

pub returns-in-End : goal.returns-in-End
returns-in-End c =
    let a = more_end (frames_of c.args.self.now.frames.items) (token_of c.args.token.token) c.args.token.place
    (ap (λ h. in_more h (token_of c.args.token.token)) (sym c.holder.ensures) ∙ sym c.behind_comma.ensures ∙ c.in-End.is) in
    steps_as (machine.step_more (frames_of c.args.self.now.frames.items) (placed_of c.args.token)) (end_empty (frames_of c.args.self.now.frames.items) c.args.token.place) (next_part (frames_of c.args.self.now.frames.items))
    c.end_empty.result c.end_empty.new.self.frames.items a.0 a.1 c.end_empty.ensures

pub returns-in-Operand : goal.returns-in-Operand
returns-in-Operand c =
    steps_same (machine.step_more (frames_of c.args.self.now.frames.items) (placed_of c.args.token)) (machine.begin (frames_of c.args.self.now.frames.items) (placed_of c.args.token)) (next_part (frames_of c.args.self.now.frames.items))
    c.begin.result c.begin.new.self.frames.items
    (more_operand (frames_of c.args.self.now.frames.items) (token_of c.args.token.token) c.args.token.place
    (ap (λ h. in_more h (token_of c.args.token.token)) (sym c.holder.ensures) ∙ sym c.behind_comma.ensures ∙ c.in-Operand.is))
    (subst (λ e. Steps (machine.begin (frames_of c.args.self.now.frames.items) (placed_of c.args.token)) e c.begin.result c.begin.new.self.frames.items) c.next_part-expected.ensures c.begin.ensures)
