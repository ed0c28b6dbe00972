-- Each spelling of a piece is read as that piece.
use Rattle.std.proofs.Common.{[], ◌∷◌, cond, None, refl, ap, ◌∙◌, append_assoc}
use Rattle.std.specs.Prelude.{◌==◌}
use Rattle.std.proofs.lemmas.Bool.{ne_eqb}
use Rattle.kube_functions_format.specs.Laws.{itself, percent, bare, precise, SpelledPiecesAreRead}
use Rattle.kube_functions_format.specs.Pieces.{literal, verb, pieces, behind_percent, behind_digits}
use Rattle.kube_functions_format.proofs.Precisions as digits

pub spelled_pieces_are_read : SpelledPiecesAreRead
spelled_pieces_are_read _ _ cs (itself c other) = ap (λ b. cond b (behind_percent cs) (literal c ∷ pieces cs)) (ne_eqb c 37 other)
spelled_pieces_are_read _ _ cs percent = refl
spelled_pieces_are_read _ _ cs (bare c other behind) =
    ap (λ b. cond b (literal 37 ∷ pieces cs) (cond (c == 46) (behind_digits None cs) (verb c ∷ pieces cs))) (ne_eqb c 37 other)
    ∙ ap (λ b. cond b (behind_digits None cs) (verb c ∷ pieces cs)) (ne_eqb c 46 behind)
spelled_pieces_are_read _ _ cs (precise ds c numeral small other) =
    ap (behind_digits None) (append_assoc ds (c ∷ []) cs) ∙ digits.precise ds c cs numeral.0 numeral.1 small other
