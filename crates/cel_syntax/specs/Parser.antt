-- Trusted by the headline.
-- The steps of the parser, as functions of the tokens that are left.
use Rattle.std.specs.Prelude.{ℕ, zero, suc, ◌+◌, max, nat_lt, nat_le, nat_eq, Bool, true, false, if◌then◌else◌, List, [], ◌∷◌, ◌++◌, length, drop, Option, Some, None}
use Rattle.cel_value.specs.Data.{Data}
use Rattle.cel_syntax_lexer.specs.declared.punctuator.Punctuator.{Punctuator}
use Rattle.cel_syntax_lexer.specs.declared.punctuator.Punctuator.TheVariants as m
use Rattle.cel_syntax_lexer.specs.Token.{Token, word, number, quoted, punctuator}
use Rattle.cel_syntax_ast.specs.Term as tree
use Rattle.cel_syntax_ast.specs.Term.{Term, terms_of, pairs_of}
use Rattle.cel_syntax_ast.specs.declared.expr.UnaryOperator.{UnaryOperator}
use Rattle.cel_syntax_ast.specs.declared.expr.UnaryOperator.TheVariants as u
use Rattle.cel_syntax_ast.specs.declared.expr.BinaryOperator.{BinaryOperator}
use Rattle.cel_syntax_lexer.specs.Literal.{takes_minus, literal_value}
use Rattle.cel_syntax_ast.specs.Words.{is_identifier, is_selector}
use Rattle.cel_syntax.specs.Ahead.{sees, after, operator_at, sees_end, goes_on, signs}
use Rattle.cel_syntax_ast.specs.Calls.{call_of, method_of, parts_level}

abbrev pub Outcome : Type 0 → Type 0
Outcome A = Option (A × List Token)

abbrev pub Parser : Type 0 → Type 0
Parser A = List Token → Outcome A

abbrev pub and_then : {A B : Type 0} → Outcome A → (A → Parser B) → Outcome B
and_then (Some p) f = f p.0 p.1
and_then None f = None

infixl 10 ◌>>=◌
abbrev pub ◌>>=◌ : {A B : Type 0} → Parser A → (A → Parser B) → Parser B
p >>= f = λ ts. and_then (p ts) f

infixl 10 ◌>>◌
abbrev pub ◌>>◌ : {A B : Type 0} → Parser A → Parser B → Parser B
p >> q = p >>= (λ _. q)

abbrev pub pure : {A : Type 0} → A → Parser A
pure a = λ ts. Some (a, ts)

abbrev pub refuse : {A : Type 0} → Parser A
refuse = λ ts. None

-- takes a punctuator if it comes next; the result is whether it did
abbrev pub eat : Punctuator → Parser Bool
eat m = λ ts. Some (sees m ts, after m ts)

abbrev pub expect : Punctuator → Parser (Unit {0})
expect m = λ ts. if sees m ts then Some (tt, drop 1 ts) else None

-- the next token
abbrev pub next_of : List Token → Outcome Token
next_of [] = None
next_of (t ∷ ts) = Some (t, ts)

abbrev pub next : Parser Token
next = λ ts. next_of ts

-- a tree and its level
abbrev pub Found : Type 0
Found = Term × ℕ

-- A selection may be one level over a limit, since the argument of `has`
-- doesn't count as a level, only its operand does.
abbrev pub slack : Term → ℕ
slack (tree.select t w) = 1
slack _ = 0

-- a tree one level above its highest part, if the limit allows it
unfoldable pub above : ℕ → ℕ → Term → Parser Found
above limit l t = λ ts. if nat_lt l (limit + slack t) then Some ((t, l + 1), ts) else None

-- the same for an optional tree
abbrev pub above_if : ℕ → ℕ → Option Term → Parser Found
above_if limit l None = refuse
above_if limit l (Some t) = above limit l t

-- the same for the optional tree of a call, from the level of its arguments
abbrev pub above_call : ℕ → ℕ → Option Term → Parser Found
above_call limit l None = refuse
above_call limit l (Some t) = above limit (parts_level t l) t

abbrev pub by_operator : {A : Type 0} → Option BinaryOperator → A → (BinaryOperator → A) → A
by_operator None none some = none
by_operator (Some op) none some = some op

unfoldable pub wrap : UnaryOperator → ℕ → Term → Term
wrap s zero t = t
wrap s (suc n) t = tree.unary s (wrap s n t)

-- a tree with n signs applied, if the limit allows it
unfoldable pub with_signs : ℕ → UnaryOperator → ℕ → Found → Parser Found
with_signs limit s n x = λ ts.
    if nat_eq n 0 then Some (x, ts)
    else (if nat_le (x.1 + n) limit then Some ((wrap s n x.0, x.1 + n), ts) else None)

-- parses the right operand of an operator and applies the operator
abbrev pub with_operand : ℕ → Parser Found → BinaryOperator → Term → ℕ → Parser Found
with_operand limit operand op t l = operand >>= λ x. above limit (max l x.1) (tree.binary op t x.0)

-- parses the closing punctuator of a tree whose parts were parsed
unfoldable pub up_to_mark : ℕ → Punctuator → Term → ℕ → Parser Found
up_to_mark limit k t l = expect k >> above limit l t

-- the same after an optional comma
unfoldable pub up_to_comma_and_mark : ℕ → Punctuator → Term → ℕ → Parser Found
up_to_comma_and_mark limit k t l = eat m.Comma >>= λ _. up_to_mark limit k t l

-- parses items separated by commas; us and l are the items so far and their level
unfoldable pub items_from : {A : Type 0} → Parser (A × ℕ) → ℕ → List A → ℕ → Parser (List A × ℕ)
items_from item zero us l = refuse
items_from item (suc n) us l = do
  x ← item
  λ ts. if goes_on ts then items_from item n (us ++ x.0 ∷ []) (max l x.1) (drop 1 ts)
      else Some ((us ++ x.0 ∷ [], max l x.1), ts)

-- Each iteration takes a token, so the number of tokens bounds them.
unfoldable pub items_of : {A : Type 0} → Parser (A × ℕ) → Parser (List A × ℕ)
items_of item = λ ts. if sees_end ts then Some (([], 0), ts) else items_from item (length ts) [] 0 ts

-- The limit is that of the levels; sub parses a nested expression.
module _ (limit : ℕ) (sub : Parser Found) where
  unfoldable pub items : Parser (List Term × ℕ)
  items = items_of sub

  unfoldable pub pair : Parser ((Term × Term) × ℕ)
  pair = do
    a ← sub
    expect m.Colon >> (sub >>= λ b. pure ((a.0, b.0), max a.1 b.1))

  unfoldable pub entries : Parser (List (Term × Term) × ℕ)
  entries = items_of pair

  -- up to and including the closing bracket
  unfoldable pub arguments : Parser (List Term × ℕ)
  arguments = items >>= λ us. expect m.CloseRound >> pure us

  unfoldable pub call_arguments : List ℕ → Parser Found
  call_arguments w = arguments >>= λ us. above_call limit us.1 (call_of w us.0)

  unfoldable pub name_or_call : List ℕ → Parser Found
  name_or_call w = if is_identifier w then (do
    is_call ← eat m.OpenRound
    if is_call then call_arguments w else pure (tree.ident w, 0)) else refuse

  unfoldable pub round : Parser Found
  round = do
    x ← sub
    up_to_mark limit m.CloseRound x.0 x.1

  unfoldable pub list : Parser Found
  list = do
    us ← items
    up_to_comma_and_mark limit m.CloseSquare (tree.list_of (terms_of us.0)) us.1

  unfoldable pub map : Parser Found
  map = do
    ps ← entries
    up_to_comma_and_mark limit m.CloseBrace (tree.map_with (pairs_of ps.0)) ps.1

  abbrev pub value_or : Option Data → Parser Found → Parser Found
  value_or None other = other
  value_or (Some v) other = pure (tree.literal v, 0)

  abbrev pub negative_by : Token → Parser Found
  negative_by k = if takes_minus k then value_or (literal_value true k) refuse else refuse

  unfoldable pub negative : Parser Found
  negative = next >>= negative_by

  abbrev pub primary_by_punctuator : Punctuator → Parser Found
  primary_by_punctuator m.OpenRound = round
  primary_by_punctuator m.OpenSquare = list
  primary_by_punctuator m.OpenBrace = map
  primary_by_punctuator m.Minus = negative
  primary_by_punctuator _ = refuse

  abbrev pub primary_by : Token → Parser Found
  primary_by (word w) = name_or_call w
  primary_by (number ds) = refuse
  primary_by (quoted s) = refuse
  primary_by (punctuator m) = primary_by_punctuator m

  unfoldable pub primary : Parser Found
  primary = next >>= (λ k. value_or (literal_value false k) (primary_by k))

  -- the method's name and an opening bracket were taken
  unfoldable pub method : Term → ℕ → List ℕ → Parser Found
  method t l w = arguments >>= λ us. above_if limit (max l us.1) (method_of t w us.0)

  unfoldable pub selection_or_method : Term → ℕ → List ℕ → Parser Found
  selection_or_method t l w = if is_selector w then (do
    is_call ← eat m.OpenRound
    if is_call then method t l w else above limit l (tree.select t w)) else refuse

  abbrev pub field_by : Term → ℕ → Token → Parser Found
  field_by t l (word w) = selection_or_method t l w
  field_by t l _ = refuse

  unfoldable pub field : Term → ℕ → Parser Found
  field t l = next >>= field_by t l

  unfoldable pub index : Term → ℕ → Parser Found
  index t l = do
    i ← sub
    up_to_mark limit m.CloseSquare (tree.index t i.0) (max l i.1)

  -- The number bounds the iterations. Each adds a level, so one more than the limit is enough.
  unfoldable pub links : ℕ → Term → ℕ → Parser Found
  links zero t l =
      λ ts. if sees m.Dot ts then None else (if sees m.OpenSquare ts then None else Some ((t, l), ts))
  links (suc n) t l = do
    is_field ← eat m.Dot
    if is_field then (do x ← field t l; links n x.0 x.1) else (do
      is_index ← eat m.OpenSquare
      if is_index then (do x ← index t l; links n x.0 x.1) else pure (t, l))

  unfoldable pub member : Parser Found
  member = do
    x ← primary
    links (limit + 1) x.0 x.1

  unfoldable pub signed_member : UnaryOperator → Parser Found
  signed_member s = λ ts. and_then (member (signs s ts).1) (λ x. with_signs limit s (signs s ts).0 x)

  unfoldable pub unary_expression : Parser Found
  unary_expression = λ ts. if sees m.Not ts then signed_member u.Not ts else signed_member u.Negate ts

  -- Each iteration adds a level here, too.
  unfoldable pub turns : Parser Found → ℕ → ℕ → Term → ℕ → Parser Found
  turns operand k zero t l = λ ts. by_operator (operator_at k ts) (Some ((t, l), ts)) (λ op. None)
  turns operand k (suc n) t l = λ ts. by_operator (operator_at k ts) (Some ((t, l), ts))
      (λ op. (with_operand limit operand op t l >>= λ y. turns operand k n y.0 y.1) (drop 1 ts))

  unfoldable pub chain : ℕ → Parser Found
  chain zero = unary_expression
  chain (suc k) = do
    x ← chain k
    turns (chain k) (suc k) limit x.0 x.1

  -- the two branches of a conditional
  unfoldable pub branches : Term → ℕ → Parser Found
  branches c l = do
    a ← chain 5
    expect m.Colon >> (sub >>= λ b. above limit (max l (max a.1 b.1)) (tree.conditional c a.0 b.0))

  unfoldable pub expression : Parser Found
  expression = do
    c ← chain 5
    asks ← eat m.Question
    if asks then branches c.0 c.1 else pure c

-- an expression of at most this level
unfoldable pub expr : ℕ → Parser Found
expr zero = expression zero refuse
expr (suc limit) = expression (suc limit) (expr limit)

-- an expression below this level
unfoldable pub below : ℕ → Parser Found
below zero = refuse
below (suc limit) = expr limit

abbrev pub max_level : ℕ
max_level = 250

abbrev pub if_last : Outcome Found → Option Term
if_last None = None
if_last (Some (x, [])) = if nat_le x.1 max_level then Some x.0 else None
if_last (Some (x, t ∷ ts)) = None

-- the tree of all the tokens together
unfoldable pub tree_of_tokens : List Token → Option Term
tree_of_tokens ts = if_last (expr max_level ts)
