-- The words that are names.
use Rattle.std.proofs.Common.{◌≡◌, ℕ, refl, Bool, true, false, List}
use Rattle.std.specs.Str.{IsUtf8, is_utf8}
use Rattle.std.proofs.lemmas.Str.{IsUtf8-from_is_utf8, is_utf8-from_IsUtf8}
use Rattle.cel_syntax_ast.specs.Words.{is_literal, is_selector}

pub selects : (w : List ℕ) → is_literal w ≡ false → IsUtf8 w → is_selector w ≡ true
unfolding is_selector
selects w no_literal u = rw (is_utf8-from_IsUtf8 w u, no_literal)

pub is_text : (w : List ℕ) → IsUtf8 w → is_utf8 w ≡ true
is_text w u = is_utf8-from_IsUtf8 w u

not_utf8 : (w : List ℕ) (b : Bool) → is_utf8 w ≡ b → ¬ (IsUtf8 w) → b ≡ false
not_utf8 w true e none = absurd (none (IsUtf8-from_is_utf8 w e))
not_utf8 w false e none = refl

pub no_text : (w : List ℕ) → ¬ (IsUtf8 w) → is_utf8 w ≡ false
no_text w none = not_utf8 w (is_utf8 w) refl none

pub selects_none : (w : List ℕ) → ¬ (IsUtf8 w) → is_selector w ≡ false
unfolding is_selector
selects_none w none = rw (no_text w none)
