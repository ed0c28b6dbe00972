-- Trusted by laws alone.
-- The trees that texts derive, and where texts go wrong. Source: section "Syntax" of the CEL language
-- definition; for the question marks CEL-Go's grammar. Where a text goes wrong is said by the
-- machine, of which laws of `kube_server_syntax` say that it stops at the first token with which no
-- text of the grammar begins.
use Rattle.std.specs.Prelude.{◌≡◌, ℕ, ◌+◌, ◌<◌, ◌≤◌, Bool, true, false, if◌then◌else◌, List, [], ◌∷◌, length, drop, Some, None}
use Rattle.std.specs.List.{prefix_len}
use Rattle.cel_syntax.specs.Token.{Token, number, quoted}
use Rattle.cel_syntax.specs.Tokens.{is_white_space, is_in_line, begins_comment, Longest}
use Rattle.cel_syntax.specs.Literal.{takes_minus}
use Rattle.cel_syntax_lexer.specs.Strings.{is_quote}
use Rattle.kube_server_lexer.specs.Pieces.{IsInk, NoToken}
use Rattle.kube_server_syntax.specs.Depth.{Within}
use Rattle.kube_server_syntax.specs.Grammar.{Expression, level}
use Rattle.kube_server_syntax.specs.Machine.{State, start, step, steps, end}
use Rattle.kube_server_syntax.specs.Placed.{Placed, PlacedCuts}
use Rattle.kube_server_syntax.specs.Tree.{Tree}
use Rattle.kube_server_parser.specs.Expects.{expected}
use Rattle.kube_server_parser.specs.declared.expected.Expected.{Expected}
use Rattle.kube_server_parser.specs.declared.expected.Expected.TheVariants as expect
use Rattle.kube_server_parser.specs.declared.syntax_error.Problem.{Problem}
use Rattle.kube_server_parser.specs.declared.syntax_error.Problem.TheVariants as problem
use Rattle.kube_server_parser.specs.declared.syntax_error.SyntaxError.{SyntaxError}

-- The text splits into tokens that derive the tree, which nests up to level 250.
abbrev pub TextDerives : List ℕ → Tree → Type 0
TextDerives z t = (ts : List Placed) × PlacedCuts 0 z ts × Expression ts [] t × (level t ≤ 250)

-- The text z from an offset n on begins with these tokens, and then y is left, from the offset m on.
pub data CutsTo : ℕ → List ℕ → List Placed → ℕ → List ℕ → Type 0 where
  here : {n : ℕ} {z : List ℕ} → CutsTo n z [] n z
  space : {n m b : ℕ} {z y : List ℕ} {ts : List Placed}
      → is_white_space b ≡ true → CutsTo (n + 1) z ts m y → CutsTo n (b ∷ z) ts m y
  comment : {n m : ℕ} {z y : List ℕ} {ts : List Placed} → begins_comment z ≡ true
      → CutsTo (n + prefix_len is_in_line z) (drop (prefix_len is_in_line z) z) ts m y → CutsTo n z ts m y
  token : {n m k : ℕ} {z y : List ℕ} {t : Token} {ts : List Placed}
      → begins_comment z ≡ false → Longest z k t → CutsTo (n + k) (drop k z) ts m y
      → CutsTo n z (record { token = t; place = record { begin = n; end = n + k } } ∷ ts) m y

-- The machine takes the tokens, and no part nests past the limit so far.
abbrev pub Reaches : List Placed → State → Type 0
Reaches ts s = (steps ts start ≡ Some s) × Within 250 s.0 s.1

abbrev pub error_at : ℕ → ℕ → Problem → SyntaxError
error_at n m p = record { place = record { begin = n; end = m }; problem = p }

abbrev pub placed_at : ℕ → ℕ → Token → Placed
placed_at n k t = record { token = t; place = record { begin = n; end = n + k } }

-- where no token begins: a quote begins a string that isn't closed
abbrev pub no_token_at : List ℕ → Problem
no_token_at [] = problem.NoToken
no_token_at (b ∷ z) = if is_quote b then problem.Unclosed else problem.NoToken

abbrev pub is_spelled : Token → Bool
is_spelled (number s) = true
is_spelled (quoted s) = true
is_spelled t = false

-- whether a literal is expected, and this one has no value
abbrev pub lacks_value : Expected → Token → Bool
lacks_value expect.Operand t = is_spelled t
lacks_value expect.Number t = takes_minus t
lacks_value expect.FirstItem t = is_spelled t
lacks_value expect.NextItem t = is_spelled t
lacks_value expect.FirstKey t = is_spelled t
lacks_value expect.NextKey t = is_spelled t
lacks_value expect.FirstArgument t = is_spelled t
lacks_value expect.Index t = is_spelled t
lacks_value e t = false

-- a token that isn't taken
abbrev pub wrong_token_at : Expected → Token → Problem
wrong_token_at e t = if lacks_value e t then problem.InvalidLiteral else problem.Unexpected e

-- The text goes wrong there.
pub data GoesWrong : List ℕ → SyntaxError → Type 0 where
  -- no token begins
  no_token : {z y : List ℕ} {n : ℕ} {ts : List Placed} {s : State}
      → CutsTo 0 z ts n y → Reaches ts s → 0 < length y → IsInk y → NoToken y
      → GoesWrong z (error_at n n (no_token_at y))
  -- the first token with which no text of the grammar begins
  wrong_token : {z y : List ℕ} {n k : ℕ} {t : Token} {ts : List Placed} {s : State}
      → CutsTo 0 z ts n y → Reaches ts s → IsInk y → Longest y k t → step s.0 s.1 (placed_at n k t) ≡ None
      → GoesWrong z (error_at n (n + k) (wrong_token_at (expected s.0 s.1) t))
  -- the first token with which a part nests past the limit
  deep_token : {z y : List ℕ} {n k : ℕ} {t : Token} {ts : List Placed} {s r : State}
      → CutsTo 0 z ts n y → Reaches ts s → IsInk y → Longest y k t → step s.0 s.1 (placed_at n k t) ≡ Some r
      → (Within 250 r.0 r.1 → ⊥) → GoesWrong z (error_at n (n + k) problem.TooDeep)
  -- the end of the text, where something is missing
  unfinished : {z : List ℕ} {n : ℕ} {ts : List Placed} {s : State}
      → CutsTo 0 z ts n [] → Reaches ts s → end s.0 s.1 ≡ None
      → GoesWrong z (error_at n n (problem.Unfinished (expected s.0 s.1)))
  -- the end of the text, where the whole nests past the limit
  deep_end : {z : List ℕ} {n : ℕ} {t : Tree} {ts : List Placed} {s : State}
      → CutsTo 0 z ts n [] → Reaches ts s → end s.0 s.1 ≡ Some t → 250 < level t
      → GoesWrong z (error_at n n problem.TooDeep)
