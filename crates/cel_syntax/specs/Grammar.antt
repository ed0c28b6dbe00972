-- Trusted by the clauses of other library calls.
-- The grammar: which tokens derive which tree, with a case for each production. Source:
-- section "Syntax" of the CEL language definition. `X before after tree level` says
-- that the tokens `before` are an X followed by the tokens `after`, that the X is this
-- tree, and that it nests to this level: an identifier and a literal have level 0,
-- everything else has one more than the highest of its parts, or 1 if it has none.
-- Round brackets make no node, but they count as a level.
use Rattle.std.specs.Prelude.{◌≡◌, ℕ, zero, suc, ◌+◌, ◌≤◌, max, true, false, List, [], ◌∷◌, Some}
use Rattle.cel_value.specs.Data.{Data}
use Rattle.cel_syntax_lexer.specs.Token.{Token, word, punctuator}
use Rattle.cel_syntax_lexer.specs.declared.punctuator.Punctuator.TheVariants as m
use Rattle.cel_syntax_ast.specs.Term as tree
use Rattle.cel_syntax_ast.specs.Term.{Term, terms_of, pairs_of}
use Rattle.cel_syntax_ast.specs.declared.expr.UnaryOperator.{UnaryOperator}
use Rattle.cel_syntax_ast.specs.declared.expr.BinaryOperator.{BinaryOperator}
use Rattle.cel_syntax_lexer.specs.Literal.{takes_minus, literal_value}
use Rattle.cel_syntax_ast.specs.Words.{is_identifier, is_selector}
use Rattle.cel_syntax.specs.Operator.{sign, operator, is_operator_before}
use Rattle.cel_syntax_ast.specs.Calls.{call_of, method_of, parts_level}

-- an optional comma
pub data OptionalComma : List Token → List Token → Type 0 where
  without : {ts : List Token} → OptionalComma ts ts
  with_comma : {ts : List Token} → OptionalComma (punctuator m.Comma ∷ ts) ts

mutual
  -- Expr
  pub data Expression : List Token → List Token → Term → ℕ → Type 0 where
    plain : {ts rest : List Token} {t : Term} {l : ℕ} → Chain 5 ts rest t l → Expression ts rest t l
    conditional : {ts when_true when_false rest : List Token} {c t f : Term} {lc lt lf : ℕ}
        → Chain 5 ts (punctuator m.Question ∷ when_true) c lc
        → Chain 5 when_true (punctuator m.Colon ∷ when_false) t lt → Expression when_false rest f lf
        → Expression ts rest (tree.conditional c t f) (max lc (max lt lf) + 1)

  -- ConditionalOr, ConditionalAnd, Relation, Addition, Multiplication: operators
  -- of this level or below. They group to the left.
  pub data Chain : ℕ → List Token → List Token → Term → ℕ → Type 0 where
    operand : {ts rest : List Token} {t : Term} {l : ℕ} → Prefixed ts rest t l → Chain zero ts rest t l
    tighter : {k : ℕ} {ts rest : List Token} {t : Term} {l : ℕ}
        → Chain k ts rest t l → Chain (suc k) ts rest t l
    binary : {k : ℕ} {ts right rest : List Token} {o : Token} {op : BinaryOperator} {a b : Term} {la lb : ℕ}
        → Chain (suc k) ts (o ∷ right) a la → operator o ≡ Some (suc k, op) → Chain k right rest b lb
        → Chain (suc k) ts rest (tree.binary op a b) (max la lb + 1)

  -- Unary: a member after any number of signs of one kind
  pub data Prefixed : List Token → List Token → Term → ℕ → Type 0 where
    unary_expression : {s : UnaryOperator} {ts rest : List Token} {t : Term} {l : ℕ}
        → Signed s ts rest t l → Prefixed ts rest t l

  -- A minus directly before an int or a double is part of the literal, not an operator.
  pub data Signed : UnaryOperator → List Token → List Token → Term → ℕ → Type 0 where
    unsigned : {s : UnaryOperator} {ts rest : List Token} {t : Term} {l : ℕ}
        → Member ts rest t l → Signed s ts rest t l
    signed_member : {s : UnaryOperator} {ts rest : List Token} {t : Term} {l : ℕ}
        → is_operator_before s ts ≡ true
        → Signed s ts rest t l → Signed s (punctuator (sign s) ∷ ts) rest (tree.unary s t) (l + 1)

  -- Member
  pub data Member : List Token → List Token → Term → ℕ → Type 0 where
    primary : {ts rest : List Token} {t : Term} {l : ℕ} → Primary ts rest t l → Member ts rest t l
    select : {ts rest : List Token} {t : Term} {l : ℕ} {w : List ℕ}
        → Member ts (punctuator m.Dot ∷ word w ∷ rest) t l → is_selector w ≡ true
        → Member ts rest (tree.select t w) (l + 1)
    method : {ts args rest : List Token} {t u : Term} {l la : ℕ} {w : List ℕ} {us : List Term}
        → Member ts (punctuator m.Dot ∷ word w ∷ punctuator m.OpenRound ∷ args) t l → is_selector w ≡ true
        → Items args (punctuator m.CloseRound ∷ rest) us la → method_of t w us ≡ Some u
        → Member ts rest u (max l la + 1)
    index : {ts inner rest : List Token} {t i : Term} {l li : ℕ}
        → Member ts (punctuator m.OpenSquare ∷ inner) t l
        → Expression inner (punctuator m.CloseSquare ∷ rest) i li
        → Member ts rest (tree.index t i) (max l li + 1)

  -- Primary
  pub data Primary : List Token → List Token → Term → ℕ → Type 0 where
    ident : {rest : List Token} {w : List ℕ}
        → is_identifier w ≡ true → Primary (word w ∷ rest) rest (tree.ident w) 0
    call : {args rest : List Token} {w : List ℕ} {us : List Term} {t : Term} {l : ℕ}
        → is_identifier w ≡ true → Items args (punctuator m.CloseRound ∷ rest) us l → call_of w us ≡ Some t
        → Primary (word w ∷ punctuator m.OpenRound ∷ args) rest t (parts_level t l + 1)
    round : {inner rest : List Token} {t : Term} {l : ℕ}
        → Expression inner (punctuator m.CloseRound ∷ rest) t l
        → Primary (punctuator m.OpenRound ∷ inner) rest t (l + 1)
    list : {items mid rest : List Token} {us : List Term} {l : ℕ}
        → Items items mid us l → OptionalComma mid (punctuator m.CloseSquare ∷ rest)
        → Primary (punctuator m.OpenSquare ∷ items) rest (tree.list_of (terms_of us)) (l + 1)
    map : {entries mid rest : List Token} {ps : List (Term × Term)} {l : ℕ}
        → Entries entries mid ps l → OptionalComma mid (punctuator m.CloseBrace ∷ rest)
        → Primary (punctuator m.OpenBrace ∷ entries) rest (tree.map_with (pairs_of ps)) (l + 1)
    literal : {rest : List Token} {k : Token} {v : Data}
        → literal_value false k ≡ Some v → Primary (k ∷ rest) rest (tree.literal v) 0
    negative : {rest : List Token} {k : Token} {v : Data}
        → takes_minus k ≡ true → literal_value true k ≡ Some v
        → Primary (punctuator m.Minus ∷ k ∷ rest) rest (tree.literal v) 0

  -- expressions separated by commas, possibly none
  pub data Items : List Token → List Token → List Term → ℕ → Type 0 where
    no_items : {ts : List Token} → Items ts ts [] 0
    items : {ts rest : List Token} {us : List Term} {l : ℕ} → SomeItems ts rest us l → Items ts rest us l

  pub data SomeItems : List Token → List Token → List Term → ℕ → Type 0 where
    last_item : {ts rest : List Token} {t : Term} {l : ℕ}
        → Expression ts rest t l → SomeItems ts rest (t ∷ []) l
    more_items : {ts next rest : List Token} {t : Term} {us : List Term} {l lm : ℕ}
        → Expression ts (punctuator m.Comma ∷ next) t l → SomeItems next rest us lm
        → SomeItems ts rest (t ∷ us) (max l lm)

  -- pairs separated by commas, possibly none
  pub data Entries : List Token → List Token → List (Term × Term) → ℕ → Type 0 where
    no_entries : {ts : List Token} → Entries ts ts [] 0
    entries : {ts rest : List Token} {ps : List (Term × Term)} {l : ℕ}
        → SomeEntries ts rest ps l → Entries ts rest ps l

  pub data SomeEntries : List Token → List Token → List (Term × Term) → ℕ → Type 0 where
    last_entry : {ts rest : List Token} {a b : Term} {l : ℕ}
        → Pair ts rest a b l → SomeEntries ts rest ((a, b) ∷ []) l
    more_entries : {ts next rest : List Token} {a b : Term} {ps : List (Term × Term)} {l lm : ℕ}
        → Pair ts (punctuator m.Comma ∷ next) a b l → SomeEntries next rest ps lm
        → SomeEntries ts rest ((a, b) ∷ ps) (max l lm)

  pub data Pair : List Token → List Token → Term → Term → ℕ → Type 0 where
    pair : {ts values rest : List Token} {a b : Term} {la lb : ℕ}
        → Expression ts (punctuator m.Colon ∷ values) a la → Expression values rest b lb
        → Pair ts rest a b (max la lb)

-- All the tokens together derive the tree. A tree that nests past level 250 isn't derived.
abbrev pub Derives : List Token → Term → Type 0
Derives ts t = (l : ℕ) × Expression ts [] t l × (l ≤ 250)
