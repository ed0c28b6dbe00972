-- A format string without a percent sign, and `%s` alone.
use Rattle.std.proofs.Common.{◌≡◌, ℕ, zero, suc, arith, lit<, List, [], ◌∷◌, cond, Ok, Err, refl, ap, ◌∙◌}
use Rattle.std.specs.Prelude.{Contains, codes, encode_utf8}
use Rattle.std.specs.Str.{chars, encode_utf8_all, IsAscii}
use Rattle.std.proofs.lemmas.List.{append-nil}
use Rattle.std.proofs.lemmas.Bool.{ne_eqb}
use Rattle.std.proofs.lemmas.Str.{encodes-chars, chars-IsAscii}
use Rattle.cel_semantics.specs.Outcome.{and_then}
use Rattle.cel_semantics.specs.Ranges.{items_list}
use Rattle.cel_value.specs.Data.{Data}
use Rattle.cel_value.specs.Texts.{printed_text}
use Rattle.kube_functions_format.specs.Formatted.{before, text_of_pieces, as_string}
use Rattle.kube_functions_format.specs.Laws.{OneValueIsPrinted, PlainTextStands}
use Rattle.kube_functions_format.specs.Pieces.{literal, pieces, behind_percent}
use Rattle.kube_functions_format.specs.Verbs.{Shown, or_refused}

plain : (items : List Data) (cs : List ℕ) → ¬ Contains cs 37 → text_of_pieces items 0 (pieces cs) ≡ Ok (encode_utf8_all cs)
plain items [] h = refl
plain items (c ∷ cs) h =
    let other : c ≡ 37 → ⊥ = λ e. h (0, omega arith, e) in
    let rest : ¬ Contains cs 37 = λ k. h (suc k.0, omega (arith, k.1), k.2) in
    ap (λ b. text_of_pieces items 0 (cond b (behind_percent cs) (literal c ∷ pieces cs))) (ne_eqb c 37 other) ∙ ap (before (encode_utf8 c)) (plain items cs rest)

pub plain_text_stands : PlainTextStands
plain_text_stands s ds utf8 none = ap as_string (plain (items_list ds) (chars s) none) ∙ ap (λ t. as_string (Ok t)) (encodes-chars s utf8)

-- a text before an empty one
alone : (r : Shown) → and_then r (λ t. before t (Ok [])) ≡ r
alone (Ok t) = ap Ok (append-nil t)
alone (Err e) = refl

ascii : IsAscii (codes "%s")
ascii zero = lit< tt
ascii (suc zero) = lit< tt
ascii (suc (suc i)) = lit< tt

pub one_value_is_printed : OneValueIsPrinted
one_value_is_printed d =
    ap (λ cs. as_string (text_of_pieces (d ∷ []) 0 (pieces cs))) (chars-IsAscii (codes "%s") ascii)
    ∙ ap as_string (alone (or_refused (codes "%s does not support ") (printed_text d)))
