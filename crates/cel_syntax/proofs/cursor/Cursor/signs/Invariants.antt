use Rattle.std.proofs.Common.{◌≡◌, ◌+◌, length}
use Rattle.cel_syntax.specs.Ahead as spec
use Rattle.cel_syntax.specs.Ahead.{tokens_left}
use Rattle.cel_syntax.proofs.cursor.Cursor.signs.Given as goal

abbrev pub invariant-loop-turn : goal.invariant-loop-turn
invariant-loop-turn l =
    ((spec.signs l.sign (tokens_left l.fn.self)).0 ≡ l.turn + (spec.signs l.sign (tokens_left l.self)).0)
    × ((spec.signs l.sign (tokens_left l.fn.self)).1 ≡ (spec.signs l.sign (tokens_left l.self)).1) × (l.turn + length (tokens_left l.self) ≡ l.all)
