-- Trusted by the headline.
-- The query of a URL as a map from names to values.
-- Source: the parser of application/x-www-form-urlencoded, section 5.1 of the URL Standard,
-- url.spec.whatwg.org; and `getQuery` of the CEL library `URLs`, `k8s.io/apiserver/pkg/cel/library`
-- of Kubernetes, which returns a map from names to lists.
use Rattle.form_urlencoded.specs.Form.{decode}
use Rattle.std.specs.List.{list_any, slice_split, before_first, after_first}
use Rattle.std.specs.Prelude.{ℕ, ◌==◌, List, [], Option, Some, None, map, filter, length, nat_lt, if◌then◌else◌}
use Rattle.std.specs.Str.{bytes_eq}
use Rattle.std.specs.Str.Lossy.{utf8_lossy}

-- A name or a value, decoded: `+` is a space, an escape is its byte, and invalid UTF-8 is replaced.
abbrev pub decoded_text : List ℕ → List ℕ
decoded_text text = utf8_lossy (decode text)

-- the text before the first `=` (61), or the whole piece
abbrev pub name_of : List ℕ → List ℕ
name_of piece = before_first (λ b. b == 61) piece

-- the text after the first `=`, or nothing
abbrev pub value_of : List ℕ → List ℕ
value_of piece = after_first (λ b. b == 61) piece

-- the names and values of the pieces, in order; an empty piece has none
unfoldable pub pairs_of_pieces : List (List ℕ) → List (List ℕ × List ℕ)
pairs_of_pieces pieces = map (λ piece. (decoded_text (name_of piece), decoded_text (value_of piece)))
    (filter (λ piece. nat_lt 0 (length piece)) pieces)

-- the names and values of a query, whose pieces are separated by `&` (38)
abbrev pub pairs_of : List ℕ → List (List ℕ × List ℕ)
pairs_of query = pairs_of_pieces (slice_split (λ b. b == 38) query)

-- The values of a name, in order, or none if the name doesn't occur.
unfoldable pub values_of : List (List ℕ × List ℕ) → List ℕ → Option (List (List ℕ))
values_of pairs name = if list_any (λ pair. bytes_eq name pair.0) pairs
    then Some (map (λ pair. pair.1) (filter (λ pair. bytes_eq name pair.0) pairs)) else None

-- the values, or an empty list if there are none
abbrev pub values_or_none : Option (List (List ℕ)) → List (List ℕ)
values_or_none None = []
values_or_none (Some values) = values
