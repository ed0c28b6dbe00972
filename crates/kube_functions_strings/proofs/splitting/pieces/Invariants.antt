use Rattle.std.proofs.Common.{◌≡◌, ◌+◌, ◌-◌, ◌++◌, length, map}
use Rattle.std.specs.Str.{chars}
use Rattle.kube_functions_strings.specs.Cuts.{pieces_behind}
use Rattle.kube_functions_strings.specs.Pieces as spec
use denote.Text.{Utf8}
use denote.Shadow.{shadow}
use Rattle.kube_functions_strings.proofs.splitting.pieces.Given as goal

-- shows that each `&str` that the loop changes is UTF-8
abbrev pub invariant-loop-piece : goal.invariant-loop-piece
invariant-loop-piece l =
    shadow (Utf8 l.rest)
    × (map (λ s. s.now) l.pieces.items ++ pieces_behind (chars l.rest) (chars l.separator) l.limit (length l.pieces.items) ≡ spec.pieces (chars l.text) (chars l.separator) l.limit)

abbrev pub decreases-loop-piece : goal.decreases-loop-piece
decreases-loop-piece l = length (chars l.rest) + (1 - length l.pieces.items)
