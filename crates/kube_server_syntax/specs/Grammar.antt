-- Trusted by laws alone.
-- The grammar with optional syntax: which tokens derive which tree, with a case for each production.
-- Sources: section "Syntax" of the CEL language definition; for the question marks CEL-Go's grammar
-- (`optExpr`, `optField`, `member`) under `OptionalTypes`. `X before after tree` says that the
-- tokens `before` are an X followed by the tokens `after`, and that the X is this tree. What the
-- language definition writes with a left recursion stands here as a repetition: a Member is a
-- Primary and any number of links, a sum is a product and any number of signs with products, and so
-- on; each repetition groups to the left.
use Rattle.std.specs.Prelude.{◌≡◌, ℕ, zero, suc, ◌+◌, ◌≤◌, max, Bool, true, false, List, [], ◌∷◌, map as list_map, codes, Some}
use Rattle.std.specs.Str.{bytes_eq}
use Rattle.cel_value.specs.Data.{Data}
use Rattle.cel_syntax.specs.Token.{word}
use Rattle.cel_syntax.specs.Literal.{takes_minus, literal_value}
use Rattle.cel_syntax.specs.Punctuator.TheVariants as m
use Rattle.cel_syntax.specs.UnaryOperator.{UnaryOperator}
use Rattle.cel_syntax.specs.BinaryOperator.{BinaryOperator}
use Rattle.cel_syntax.specs.Words.{is_identifier, is_selector}
use Rattle.cel_syntax.specs.Operator.{sign, operator, is_operator_before}
use Rattle.kube_server_syntax.specs.Placed.{Placed, across, is_mark}
use Rattle.kube_server_syntax.specs.Tree as tree
use Rattle.kube_server_syntax.specs.Tree.{Tree, Trees, Items, Entries, place_of, trees_of, items_of, entries_of}

-- Whether the sign before these tokens is an operator: a minus directly before an int or a double is
-- part of the literal.
abbrev pub IsOperatorBefore : UnaryOperator → List Placed → Type 0
IsOperatorBefore s ts = is_operator_before s (list_map (λ t. t.token) ts) ≡ true

-- an optional question mark
pub data OptionalMark : Bool → List Placed → List Placed → Type 0 where
  unmarked : {ts : List Placed} → OptionalMark false ts ts
  marked : {q : Placed} {ts : List Placed} → is_mark m.Question q → OptionalMark true (q ∷ ts) ts

-- an optional comma
pub data OptionalComma : List Placed → List Placed → Type 0 where
  without : {ts : List Placed} → OptionalComma ts ts
  with_comma : {c : Placed} {ts : List Placed} → is_mark m.Comma c → OptionalComma (c ∷ ts) ts

mutual
  -- Expr
  pub data Expression : List Placed → List Placed → Tree → Type 0 where
    plain : {ts rest : List Placed} {t : Tree} → Chain 5 ts rest t → Expression ts rest t
    conditional : {ts yes no rest : List Placed} {q k : Placed} {c a b : Tree}
        → Chain 5 ts (q ∷ yes) c → is_mark m.Question q
        → Chain 5 yes (k ∷ no) a → is_mark m.Colon k → Expression no rest b
        → Expression ts rest (tree.conditional (across (place_of c) (place_of b)) c a b)

  -- ConditionalOr, ConditionalAnd, Relation, Addition, Multiplication: operators of this level or
  -- below
  pub data Chain : ℕ → List Placed → List Placed → Tree → Type 0 where
    operand : {ts rest : List Placed} {t : Tree} → Prefixed ts rest t → Chain zero ts rest t
    chain : {k : ℕ} {ts mid rest : List Placed} {t u : Tree}
        → Chain k ts mid t → Operators k t mid rest u → Chain (suc k) ts rest u

  -- operators of one level with their right operands, after a first operand
  pub data Operators : ℕ → Tree → List Placed → List Placed → Tree → Type 0 where
    no_operator : {k : ℕ} {t : Tree} {ts : List Placed} → Operators k t ts ts t
    one_operator : {k : ℕ} {t b u : Tree} {o : Placed} {op : BinaryOperator} {ts mid rest : List Placed}
        → operator o.token ≡ Some (suc k, op) → Chain k ts mid b
        → Operators k (tree.binary (across (place_of t) (place_of b)) op t b) mid rest u
        → Operators k t (o ∷ ts) rest u

  -- Unary: a member after any number of signs of one kind
  pub data Prefixed : List Placed → List Placed → Tree → Type 0 where
    signed : {s : UnaryOperator} {ts rest : List Placed} {t : Tree} → Signed s ts rest t → Prefixed ts rest t

  pub data Signed : UnaryOperator → List Placed → List Placed → Tree → Type 0 where
    unsigned : {s : UnaryOperator} {ts rest : List Placed} {t : Tree} → Member ts rest t → Signed s ts rest t
    one_sign : {s : UnaryOperator} {k : Placed} {ts rest : List Placed} {t : Tree}
        → is_mark (sign s) k → IsOperatorBefore s ts → Signed s ts rest t
        → Signed s (k ∷ ts) rest (tree.unary (across k.place (place_of t)) s t)

  -- Member
  pub data Member : List Placed → List Placed → Tree → Type 0 where
    member : {ts mid rest : List Placed} {t u : Tree} → Primary ts mid t → Links t mid rest u → Member ts rest u

  -- selections, method calls and indices
  pub data Links : Tree → List Placed → List Placed → Tree → Type 0 where
    no_link : {t : Tree} {ts : List Placed} → Links t ts ts t
    select : {t u : Tree} {d w : Placed} {x : List ℕ} {o : Bool} {ts mark rest : List Placed}
        → is_mark m.Dot d → OptionalMark o mark (w ∷ ts) → w.token ≡ word x → is_selector x ≡ true
        → Links (tree.select (across (place_of t) w.place) t o x) ts rest u → Links t (d ∷ mark) rest u
    method : {t u : Tree} {d w r c : Placed} {x : List ℕ} {us : List Tree} {args ts rest : List Placed}
        → is_mark m.Dot d → w.token ≡ word x → is_selector x ≡ true → is_mark m.OpenRound r
        → Arguments args (c ∷ ts) us → is_mark m.CloseRound c
        → Links (tree.call (across (place_of t) c.place) (tree.tree_and t tree.no_trees) x (trees_of us)) ts rest u
        → Links t (d ∷ w ∷ r ∷ args) rest u
    index : {t i u : Tree} {b c : Placed} {o : Bool} {mark inner ts rest : List Placed}
        → is_mark m.OpenSquare b → OptionalMark o mark inner
        → Expression inner (c ∷ ts) i → is_mark m.CloseSquare c
        → Links (tree.index (across (place_of t) c.place) t o i) ts rest u → Links t (b ∷ mark) rest u

  -- Primary
  pub data Primary : List Placed → List Placed → Tree → Type 0 where
    ident : {w : Placed} {x : List ℕ} {ts : List Placed}
        → w.token ≡ word x → is_identifier x ≡ true → Primary (w ∷ ts) ts (tree.ident w.place x)
    call : {w r c : Placed} {x : List ℕ} {us : List Tree} {args ts : List Placed}
        → w.token ≡ word x → is_identifier x ≡ true → is_mark m.OpenRound r
        → Arguments args (c ∷ ts) us → is_mark m.CloseRound c
        → Primary (w ∷ r ∷ args) ts (tree.call (across w.place c.place) tree.no_trees x (trees_of us))
    round : {r c : Placed} {inner ts : List Placed} {t : Tree}
        → is_mark m.OpenRound r → Expression inner (c ∷ ts) t → is_mark m.CloseRound c
        → Primary (r ∷ inner) ts (tree.round (across r.place c.place) t)
    list : {b c : Placed} {items mid ts : List Placed} {is : List (Bool × Tree)}
        → is_mark m.OpenSquare b → ItemList items mid is → OptionalComma mid (c ∷ ts) → is_mark m.CloseSquare c
        → Primary (b ∷ items) ts (tree.list_of (across b.place c.place) (items_of is))
    map : {b c : Placed} {entries mid ts : List Placed} {es : List (Bool × Tree × Tree)}
        → is_mark m.OpenBrace b → EntryList entries mid es → OptionalComma mid (c ∷ ts) → is_mark m.CloseBrace c
        → Primary (b ∷ entries) ts (tree.map_of (across b.place c.place) (entries_of es))
    literal : {k : Placed} {v : Data} {ts : List Placed}
        → literal_value false k.token ≡ Some v → Primary (k ∷ ts) ts (tree.literal k.place v)
    negative : {n k : Placed} {v : Data} {ts : List Placed}
        → is_mark m.Minus n → takes_minus k.token ≡ true → literal_value true k.token ≡ Some v
        → Primary (n ∷ k ∷ ts) ts (tree.literal (across n.place k.place) v)

  -- expressions separated by commas, possibly none
  pub data Arguments : List Placed → List Placed → List Tree → Type 0 where
    no_arguments : {ts : List Placed} → Arguments ts ts []
    arguments : {ts mid rest : List Placed} {t : Tree} {us : List Tree}
        → Expression ts mid t → MoreArguments mid rest us → Arguments ts rest (t ∷ us)

  pub data MoreArguments : List Placed → List Placed → List Tree → Type 0 where
    no_argument : {ts : List Placed} → MoreArguments ts ts []
    argument : {c : Placed} {ts mid rest : List Placed} {t : Tree} {us : List Tree}
        → is_mark m.Comma c → Expression ts mid t → MoreArguments mid rest us
        → MoreArguments (c ∷ ts) rest (t ∷ us)

  -- the same, each with an optional question mark
  pub data ItemList : List Placed → List Placed → List (Bool × Tree) → Type 0 where
    no_items : {ts : List Placed} → ItemList ts ts []
    items : {o : Bool} {mark ts mid rest : List Placed} {t : Tree} {is : List (Bool × Tree)}
        → OptionalMark o mark ts → Expression ts mid t → MoreItems mid rest is → ItemList mark rest ((o, t) ∷ is)

  pub data MoreItems : List Placed → List Placed → List (Bool × Tree) → Type 0 where
    no_item : {ts : List Placed} → MoreItems ts ts []
    item : {c : Placed} {o : Bool} {mark ts mid rest : List Placed} {t : Tree} {is : List (Bool × Tree)}
        → is_mark m.Comma c → OptionalMark o mark ts → Expression ts mid t → MoreItems mid rest is
        → MoreItems (c ∷ mark) rest ((o, t) ∷ is)

  -- keys with values, each with an optional question mark
  pub data EntryList : List Placed → List Placed → List (Bool × Tree × Tree) → Type 0 where
    no_entries : {ts : List Placed} → EntryList ts ts []
    entries : {k : Placed} {o : Bool} {mark ts values mid rest : List Placed} {a b : Tree} {es : List (Bool × Tree × Tree)}
        → OptionalMark o mark ts → Expression ts (k ∷ values) a → is_mark m.Colon k → Expression values mid b
        → MoreEntries mid rest es → EntryList mark rest ((o, a, b) ∷ es)

  pub data MoreEntries : List Placed → List Placed → List (Bool × Tree × Tree) → Type 0 where
    no_entry : {ts : List Placed} → MoreEntries ts ts []
    entry : {c k : Placed} {o : Bool} {mark ts values mid rest : List Placed} {a b : Tree} {es : List (Bool × Tree × Tree)}
        → is_mark m.Comma c → OptionalMark o mark ts → Expression ts (k ∷ values) a → is_mark m.Colon k
        → Expression values mid b → MoreEntries mid rest es → MoreEntries (c ∷ mark) rest ((o, a, b) ∷ es)

-- whether the call is one of `has`
abbrev pub is_has : Trees → List ℕ → Trees → Bool
is_has tree.no_trees x (tree.tree_and t tree.no_trees) = bytes_eq x (codes "has")
is_has _ x _ = false

-- the level of a call with parts of this level
abbrev pub call_level : Bool → ℕ → ℕ
call_level true l = l
call_level false l = l + 1

-- How deep a tree nests: an identifier and a literal have level 0, everything else has one more
-- than the highest of its parts, or 1 if it has none. `has` has the level of its argument, since the
-- selection there is no part of its own.
abbrev mutual
  pub level : Tree → ℕ
  level (tree.literal p v) = 0
  level (tree.ident p x) = 0
  level (tree.select p a o x) = level a + 1
  level (tree.index p a o i) = max (level a) (level i) + 1
  level (tree.unary p op a) = level a + 1
  level (tree.binary p op a b) = max (level a) (level b) + 1
  level (tree.conditional p c a b) = max (level c) (max (level a) (level b)) + 1
  level (tree.round p a) = level a + 1
  level (tree.list_of p is) = level_of_items is + 1
  level (tree.map_of p es) = level_of_entries es + 1
  level (tree.call p target x args) = call_level (is_has target x args) (max (highest target) (highest args))

  pub highest : Trees → ℕ
  highest tree.no_trees = 0
  highest (tree.tree_and t ts) = max (level t) (highest ts)

  pub level_of_items : Items → ℕ
  level_of_items tree.no_items = 0
  level_of_items (tree.item_and o t is) = max (level t) (level_of_items is)

  pub level_of_entries : Entries → ℕ
  level_of_entries tree.no_entries = 0
  level_of_entries (tree.entry_and o a b es) = max (level a) (max (level b) (level_of_entries es))

-- All the tokens together derive the tree. A tree that nests past level 250 isn't derived.
abbrev pub Derives : List Placed → Tree → Type 0
Derives ts t = Expression ts [] t × (level t ≤ 250)
