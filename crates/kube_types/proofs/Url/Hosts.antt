-- A host between brackets.
use Rattle.std.proofs.Common.{◌≡◌, ◌≢◌, ℕ, List, [], ◌∷◌, ◌++◌, sym, ◌∙◌}
use Rattle.std.proofs.lemmas.List.{append_cancel_right}
use Rattle.std.specs.Prelude.{codes}

-- the text after the first bracket
after_bracket : (host rest inner : List ℕ) → host ≡ 91 ∷ rest → host ≡ codes "[" ++ inner ++ codes "]" → rest ≡ inner ++ (93 ∷ [])
after_bracket host rest inner e f = let same : 91 ∷ rest ≡ 91 ∷ (inner ++ (93 ∷ [])) = sym e ∙ f in cc same

pub between_brackets : (host rest found inner : List ℕ) → host ≡ 91 ∷ rest → rest ≡ found ++ (93 ∷ []) → host ≡ codes "[" ++ inner ++ codes "]" → found ≡ inner
between_brackets host rest found inner e g f = append_cancel_right found inner (93 ∷ []) (sym g ∙ after_bracket host rest inner e f)

pub no_last_bracket : (host rest inner : List ℕ) → host ≡ 91 ∷ rest → ((front : List ℕ) → rest ≢ front ++ (93 ∷ [])) → host ≡ codes "[" ++ inner ++ codes "]" → host ≡ inner
no_last_bracket host rest inner e none f = absurd (none inner (after_bracket host rest inner e f))

pub no_first_bracket : (host inner : List ℕ) → ((rest : List ℕ) → host ≢ 91 ∷ rest) → host ≡ codes "[" ++ inner ++ codes "]" → host ≡ inner
no_first_bracket host inner none f = absurd (none (inner ++ (93 ∷ [])) f)
