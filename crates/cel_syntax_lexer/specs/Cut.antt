-- Trusted by the headline.
-- The tokens of a text, as a function of the text. It computes what `Cuts` states as a relation.
-- Source: the section "Syntax" of the CEL language definition.
use Rattle.std.specs.Prelude.{ℕ, zero, suc, Bool, true, false, List, [], ◌∷◌, length, take, drop, Option, Some, None, option_map}
use Rattle.std.specs.List.{prefix_len}
use Rattle.cel_syntax_lexer.specs.Token.{Token}
use Rattle.cel_syntax_lexer.specs.Tokens.{is_white_space, is_in_line, token_of_bytes, begins_comment}

-- the token of n bytes if there is one, and otherwise the other one
abbrev pub this_or : Option Token → ℕ → Option (Token × ℕ) → Option (Token × ℕ)
this_or None n other = other
this_or (Some t) n other = Some (t, n)

-- the longest token among the first n bytes, and its length
unfoldable pub token_within : ℕ → List ℕ → Option (Token × ℕ)
token_within zero z = None
token_within (suc n) z = this_or (token_of_bytes (take (suc n) z)) (suc n) (token_within n z)

-- the longest token at the front, and its length
abbrev pub longest_token : List ℕ → Option (Token × ℕ)
longest_token z = token_within (length z) z

-- Takes one piece from the front, then the rest. A comment is skipped first, then
-- white space; otherwise the longest token is taken.
abbrev pub from_first : (List ℕ → Option (List Token)) → List ℕ → Bool → Bool → Option (Token × ℕ)
    → Option (List Token)
from_first rest z true white found = rest (drop (prefix_len is_in_line z) z)
from_first rest z false true found = rest (drop 1 z)
from_first rest z false false None = None
from_first rest z false false (Some found) =
    option_map (λ (ts : List Token). found.0 ∷ ts) (rest (drop found.1 z))

-- the tokens of a text that takes at most n steps
unfoldable pub cut_within : ℕ → List ℕ → Option (List Token)
cut_within zero [] = Some []
cut_within zero (b ∷ z) = None
cut_within (suc n) [] = Some []
cut_within (suc n) (b ∷ z) = from_first (λ y. cut_within n y) (b ∷ z) (begins_comment (b ∷ z))
    (is_white_space b) (longest_token (b ∷ z))

-- A text takes at most as many steps as it has bytes, since each step takes at least one.
unfoldable pub tokens_of_text : List ℕ → Option (List Token)
tokens_of_text z = cut_within (length z) z
