use Rattle.std.proofs.Common.{sym, ◌∙◌}
use Rattle.std.specs.Str.{chars}
use Rattle.kube_functions_strings.proofs.CutSteps.{piece_next, piece_last, piece_shorter}
use Rattle.kube_functions_strings.proofs.splitting.next_piece.Goals as goal

pub returns-then-has_room-clause-value : goal.returns-then-has_room-clause-value
returns-then-has_room-clause-value c =
    piece_next c.args.text.now (chars c.args.separator.now) c.args.limit c.args.count c.around_next.result c.utf8.text (sym c.has_room.ensures ∙ c.if-has_room.true) c.around_next.ensures.value c.around_next.ensures.utf8

pub returns-then-has_room-clause-shorter : goal.returns-then-has_room-clause-shorter
returns-then-has_room-clause-shorter c = piece_shorter (chars c.args.text.now) (chars c.args.separator.now) c.args.count c.around_next.result c.around_next.ensures.value

pub returns-else-has_room-clause-value : goal.returns-else-has_room-clause-value
returns-else-has_room-clause-value c = piece_last c.args.text.now (chars c.args.separator.now) c.args.limit c.args.count c.utf8.text (sym c.has_room.ensures ∙ c.if-has_room.false)
