-- Trusted by the headline.
-- `format`: a format string whose verbs print the items of a list (documentation of CEL-Go,
-- "Strings": `format`; Kubernetes documentation, "CEL in Kubernetes", extended string library).
-- Each verb uses the next item, even if its letter is unknown; the result is the first error from
-- the left, in the format string or for an item. Items that no verb uses have no effect.
use Rattle.std.specs.Prelude.{ℕ, suc, List, [], ◌∷◌, ◌++◌, codes, decimal, encode_utf8, length, slice_get, option_map, Ok, Err}
use Rattle.std.specs.Option.{option_map_or, option_zip}
use Rattle.std.specs.Str.{chars}
use Rattle.cel_value.specs.Data.{Data, text}
use Rattle.cel_value.specs.Faults.{Fault, no_overload}
use Rattle.cel_value.specs.Parts.{text_in, items_in}
use Rattle.cel_semantics.specs.Outcome.{Outcome, and_then}
use Rattle.cel_semantics.specs.Ranges.{items_list}
use Rattle.kube_functions_format.specs.Pieces.{Piece, literal, verb, broken, pieces}
use Rattle.kube_functions_format.specs.Verbs.{Shown, format_fault, shown_by_letter}

-- the error that k items are needed and there are only n
abbrev pub not_enough : ℕ → ℕ → Fault
not_enough k n = format_fault (codes "not enough arguments: format requires at least "
    ++ (decimal k ++ (codes " but got " ++ decimal n)))

-- the text of item k under the verb with letter c
abbrev pub verb_at : List Data → ℕ → ℕ → Shown
verb_at items k c =
    option_map_or (shown_by_letter c) (slice_get items k) (Err (not_enough (suc k) (length items)))

-- a text put before the rest, unless that is an error
abbrev pub before : List ℕ → Shown → Shown
before t (Ok u) = Ok (t ++ u)
before t (Err e) = Err e

-- the text of the pieces if k items have been used before, or the first error
abbrev pub text_of_pieces : List Data → ℕ → List Piece → Shown
text_of_pieces items k [] = Ok []
text_of_pieces items k (literal c ∷ ps) = before (encode_utf8 c) (text_of_pieces items k ps)
text_of_pieces items k (verb c ∷ ps) =
    and_then (verb_at items k c) (λ t. before t (text_of_pieces items (suc k) ps))
text_of_pieces items k (broken message ∷ ps) = Err (format_fault message)

-- the items formatted by a format string
abbrev pub filled_text : List ℕ → List Data → Shown
filled_text s items = text_of_pieces items 0 (pieces (chars s))

abbrev pub as_string : Shown → Outcome
as_string r = and_then r (λ t. Ok (text t))

-- operands other than a string and a list are an error
abbrev pub format_of : Data → Data → Outcome
format_of v w =
    option_map_or (λ p. as_string (filled_text p.0 p.1))
    (option_zip (text_in v) (option_map items_list (items_in w))) (Err (no_overload (codes "format")))
