-- Trusted by laws alone.
-- Tokens with their places. Source: section "Syntax" of the CEL language definition.
use Rattle.std.specs.Prelude.{◌≡◌, ℕ, ◌+◌, true, false, List, [], ◌∷◌, drop}
use Rattle.std.specs.List.{prefix_len}
use Rattle.cel_syntax.specs.Token.{Token, punctuator, token_of}
use Rattle.cel_syntax.specs.Tokens.{is_white_space, is_in_line, begins_comment, Longest}
use Rattle.cel_syntax.specs.Punctuator.{Punctuator}
use Rattle.kube_server_syntax.specs.declared.node.Place.{Place}
use Rattle.kube_server_syntax.specs.declared.token.PlacedToken as declared

pub record Placed : Type 0 where
  pub token : Token
  pub place : Place

abbrev pub placed_of : declared.PlacedToken → Placed
placed_of t = record { token = token_of t.token; place = t.place }

-- from the first byte of one place to the last of another
abbrev pub across : Place → Place → Place
across p q = record { begin = p.begin; end = q.end }

abbrev pub is_mark : Punctuator → Placed → Type 0
is_mark m t = t.token ≡ punctuator m

-- A text from an offset on, what of it is left, and its tokens with their places: the text splits
-- into these tokens, with white space and comments between them.
pub data PlacedCuts : ℕ → List ℕ → List Placed → Type 0 where
  done : {n : ℕ} → PlacedCuts n [] []
  space : {n b : ℕ} {z : List ℕ} {ts : List Placed}
      → is_white_space b ≡ true → PlacedCuts (n + 1) z ts → PlacedCuts n (b ∷ z) ts
  comment : {n : ℕ} {z : List ℕ} {ts : List Placed} → begins_comment z ≡ true
      → PlacedCuts (n + prefix_len is_in_line z) (drop (prefix_len is_in_line z) z) ts → PlacedCuts n z ts
  token : {n k : ℕ} {z : List ℕ} {t : Token} {ts : List Placed}
      → begins_comment z ≡ false → Longest z k t → PlacedCuts (n + k) (drop k z) ts
      → PlacedCuts n z (record { token = t; place = record { begin = n; end = n + k } } ∷ ts)
