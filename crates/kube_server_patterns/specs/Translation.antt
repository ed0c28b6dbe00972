-- Trusted by the clauses of other library calls.
-- The translation of a pattern in the syntax of RE2 (Go's package `regexp/syntax`, "Syntax") to one
-- of the crate `regex`: what is written for its lexemes, one after another.
use Rattle.std.specs.Prelude.{ℕ, zero, suc, List, [], ◌∷◌, ◌++◌, length, string_bytes, Result, Ok, Err, if◌then◌else◌}
use Rattle.std.specs.Str.{chars}
use Rattle.std.specs.declared.string.String.{String}
use Rattle.std.specs.declared.alloc.Global.{Global}
use Rattle.kube_server_patterns.specs.States.{Place, Step, beginning, is_end, step}
use Rattle.kube_server_patterns.specs.declared.refusal.Refusal.{Refusal}
use Rattle.kube_server_patterns.specs.declared.refusal.Refusal.TheVariants.{Invalid}

abbrev pub after_text : List ℕ → Result (List ℕ) Refusal → Result (List ℕ) Refusal
after_text made (Ok t) = Ok (made ++ t)
after_text made (Err e) = Err e

abbrev pub after_step : (Place → List ℕ → Result (List ℕ) Refusal) → Result Step Refusal → Result (List ℕ) Refusal
after_step others (Ok s) = after_text s.written (others s.place s.rest)
after_step others (Err e) = Err e

-- nothing is left
abbrev pub ended : Place → Result (List ℕ) Refusal
ended p = if is_end p then Ok [] else Err Invalid

-- the translation of the text at a place, which has at most n lexemes
unfoldable pub translated : ℕ → Place → List ℕ → Result (List ℕ) Refusal
translated zero p [] = ended p
translated (suc n) p [] = ended p
translated zero p (c ∷ t) = Err Invalid
translated (suc n) p (c ∷ t) = after_step (λ q u. translated n q u) (step p (c ∷ t))

-- A pattern has at most as many lexemes as characters, since each takes at least one.
unfoldable pub translation : List ℕ → Result (List ℕ) Refusal
translation pattern = translated (length (chars pattern)) beginning (chars pattern)

-- the text of a translation
abbrev pub text_of : Result (String Global) Refusal → Result (List ℕ) Refusal
text_of (Ok text) = Ok (string_bytes text)
text_of (Err e) = Err e
