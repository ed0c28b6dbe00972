-- What the machine has read so far, as the grammar has it: what each frame stands for.
use Rattle.std.proofs.Common.{◌≡◌, ◌∙◌, ℕ, suc, zero, ◌+◌, ◌-◌, ◌≤◌, sym, ap, subst, arith, Bool, true, Some, List, [], ◌∷◌, ◌++◌}
use Rattle.cel_syntax.specs.Token.{word}
use Rattle.cel_syntax.specs.Punctuator.TheVariants as m
use Rattle.cel_syntax.specs.BinaryOperator.{BinaryOperator}
use Rattle.cel_syntax.specs.UnaryOperator.{UnaryOperator}
use Rattle.cel_syntax.specs.Words.{is_identifier, is_selector}
use Rattle.cel_syntax.specs.Operator.{sign, operator}
use Rattle.kube_server_syntax.specs.Grammar as g
use Rattle.kube_server_syntax.specs.Grammar.{Expression, Chain, Operators, Member, Links, Primary, Arguments, MoreArguments, ItemList, MoreItems, EntryList, MoreEntries, OptionalMark, IsOperatorBefore}
use Rattle.kube_server_syntax.specs.Machine.{Frame, in_round, in_list, in_key, in_value, in_arguments, in_index, after_sign, after_operator, after_question, after_colon, operated}
use Rattle.kube_server_syntax.specs.Placed.{Placed, is_mark}
use Rattle.kube_server_syntax.specs.Tree as tree
use Rattle.kube_server_syntax.specs.Tree.{Tree, place_of}
use Rattle.kube_server_syntax.proofs.Complete.{snoc_append, allows}
use Rattle.kube_server_syntax.proofs.Runs.{fits, opens}

-- ---- parts of brackets, the last one behind a comma

pub data ArgumentsSoFar : List Tree → List Placed → List Placed → Type 0 where
  no_argument_yet : {ts : List Placed} → ArgumentsSoFar [] ts ts
  argument_yet : {us : List Tree} {t : Tree} {args ts rest : List Placed} {c : Placed} → ArgumentsSoFar us args ts
      → Expression ts (c ∷ rest) t → is_mark m.Comma c → ArgumentsSoFar (us ++ t ∷ []) args rest

pub data ItemsSoFar : List (Bool × Tree) → List Placed → List Placed → Type 0 where
  no_item_yet : {ts : List Placed} → ItemsSoFar [] ts ts
  item_yet : {is : List (Bool × Tree)} {o : Bool} {t : Tree} {items mark ts rest : List Placed} {c : Placed} → ItemsSoFar is items mark
      → OptionalMark o mark ts → Expression ts (c ∷ rest) t → is_mark m.Comma c → ItemsSoFar (is ++ (o, t) ∷ []) items rest

pub data EntriesSoFar : List (Bool × Tree × Tree) → List Placed → List Placed → Type 0 where
  no_entry_yet : {ts : List Placed} → EntriesSoFar [] ts ts
  entry_yet : {es : List (Bool × Tree × Tree)} {o : Bool} {a b : Tree} {entries mark ts values rest : List Placed} {k c : Placed}
      → EntriesSoFar es entries mark → OptionalMark o mark ts → Expression ts (k ∷ values) a → is_mark m.Colon k
      → Expression values (c ∷ rest) b → is_mark m.Comma c → EntriesSoFar (es ++ (o, a, b) ∷ []) entries rest

pub arguments_whole : {us vs : List Tree} {t : Tree} {args ts mid rest : List Placed} → ArgumentsSoFar us args ts → Expression ts mid t
    → MoreArguments mid rest vs → Arguments args rest (us ++ t ∷ vs)
arguments_whole no_argument_yet d next = g.arguments d next
arguments_whole {vs = vs} {t = t} {args = args} {rest = rest} (argument_yet {us = us} {t = s} so e c) d next =
    subst (λ ws. Arguments args rest ws) (sym (snoc_append us s (t ∷ vs))) (arguments_whole so e (g.argument c d next))

pub items_whole : {is js : List (Bool × Tree)} {o : Bool} {t : Tree} {items mark ts mid rest : List Placed} → ItemsSoFar is items mark
    → OptionalMark o mark ts → Expression ts mid t → MoreItems mid rest js → ItemList items rest (is ++ (o, t) ∷ js)
items_whole no_item_yet om d next = g.items om d next
items_whole {js = js} {o = o} {t = t} {items = items} {rest = rest} (item_yet {is = is} {o = p} {t = s} so pm e c) om d next =
    subst (λ ws. ItemList items rest ws) (sym (snoc_append is (p, s) ((o, t) ∷ js))) (items_whole so pm e (g.item c om d next))

pub entries_whole : {es fs : List (Bool × Tree × Tree)} {o : Bool} {a b : Tree} {k : Placed} {entries mark ts values mid rest : List Placed}
    → EntriesSoFar es entries mark → OptionalMark o mark ts → Expression ts (k ∷ values) a → is_mark m.Colon k → Expression values mid b
    → MoreEntries mid rest fs → EntryList entries rest (es ++ (o, a, b) ∷ fs)
entries_whole no_entry_yet om da ek db next = g.entries om da ek db next
entries_whole {fs = fs} {o = o} {a = a} {b = b} {entries = entries} {rest = rest} (entry_yet {es = es} {o = p} {a = x} {b = y} so pm dx ej dy c) om da ek db next =
    subst (λ ws. EntryList entries rest ws) (sym (snoc_append es (p, x, y) ((o, a, b) ∷ fs))) (entries_whole so pm dx ej dy (g.entry c om da ek db next))

-- ---- links and operators, in the order of the tokens

links_join : {t u v : Tree} {ts mid rest : List Placed} → Links t ts mid u → Links u mid rest v → Links t ts rest v
links_join g.no_link l = l
links_join (g.select e o w s ls) l = g.select e o w s (links_join ls l)
links_join (g.method e w s r us c ls) l = g.method e w s r us c (links_join ls l)
links_join (g.index e o d c ls) l = g.index e o d c (links_join ls l)

-- a member with more links
pub linked : {t u : Tree} {ts mid rest : List Placed} → Member ts mid t → Links t mid rest u → Member ts rest u
linked (g.member p ls) l = g.member p (links_join ls l)

operators_join : {k : ℕ} {t a b : Tree} {o : Placed} {op : BinaryOperator} {ts right rest : List Placed} → Operators k t ts (o ∷ right) a
    → operator o.token ≡ Some (suc k, op) → Chain k right rest b → Operators k t ts rest (operated a op b)
operators_join g.no_operator e d = g.one_operator e d g.no_operator
operators_join (g.one_operator f c ops) e d = g.one_operator f c (operators_join ops e d)

-- a left operand with its operator and the right operand
pub operator_joined : {k : ℕ} {a b : Tree} {o : Placed} {op : BinaryOperator} {ts right rest : List Placed} → Chain (suc k) ts (o ∷ right) a
    → operator o.token ≡ Some (suc k, op) → Chain k right rest b → Chain (suc k) ts rest (operated a op b)
operator_joined (g.chain c ops) e d = g.chain c (operators_join ops e d)

abbrev plus : ℕ → ℕ → ℕ
plus zero j = j
plus (suc d) j = suc (plus d j)

plus_is : (d j : ℕ) → plus d j ≡ d + j
plus_is zero j = omega arith
plus_is (suc d) j = ap suc (plus_is d j) ∙ (omega arith)

chain_by : {ts rest : List Placed} {t : Tree} (d j : ℕ) → Chain j ts rest t → Chain (plus d j) ts rest t
chain_by zero j c = c
chain_by (suc d) j c = g.chain (chain_by d j c) g.no_operator

-- a chain of a level is one of each higher level
pub chain_up : {ts rest : List Placed} {t : Tree} (j l : ℕ) → j ≤ l → Chain j ts rest t → Chain l ts rest t
chain_up {ts} {rest} {t} j l h c =
    let e : plus (l - j) j ≡ l = plus_is (l - j) j ∙ (omega arith) in
    subst (λ n. Chain n ts rest t) e (chain_by (l - j) j c)

-- ---- frames

-- These frames are what the machine has of the tokens from w up to those that are left, where an
-- operand begins.
pub data Opened (w : List Placed) : List Frame → List Placed → Type 0 where
  whole : Opened w [] w
  round : {k : Placed} {fs : List Frame} {ts : List Placed} → is_mark m.OpenRound k → Opened w fs (k ∷ ts) → Opened w (in_round k.place ∷ fs) ts
  list : {b : Placed} {is : List (Bool × Tree)} {o : Bool} {fs : List Frame} {items mark ts : List Placed} → is_mark m.OpenSquare b
      → ItemsSoFar is items mark → OptionalMark o mark ts → Opened w fs (b ∷ items) → Opened w (in_list b.place is o ∷ fs) ts
  key : {b : Placed} {es : List (Bool × Tree × Tree)} {o : Bool} {fs : List Frame} {entries mark ts : List Placed} → is_mark m.OpenBrace b
      → EntriesSoFar es entries mark → OptionalMark o mark ts → Opened w fs (b ∷ entries) → Opened w (in_key b.place es o ∷ fs) ts
  value : {b k : Placed} {es : List (Bool × Tree × Tree)} {o : Bool} {a : Tree} {fs : List Frame} {entries mark keys ts : List Placed}
      → is_mark m.OpenBrace b → EntriesSoFar es entries mark → OptionalMark o mark keys → Expression keys (k ∷ ts) a → is_mark m.Colon k
      → Opened w fs (b ∷ entries) → Opened w (in_value b.place es o a ∷ fs) ts
  function : {f r : Placed} {x : List ℕ} {us : List Tree} {fs : List Frame} {args ts : List Placed} → f.token ≡ word x
      → is_identifier x ≡ true → is_mark m.OpenRound r → ArgumentsSoFar us args ts → Opened w fs (f ∷ r ∷ args)
      → Opened w (in_arguments f.place tree.no_trees x us ∷ fs) ts
  method : {d f r : Placed} {t : Tree} {x : List ℕ} {us : List Tree} {fs : List Frame} {from args ts : List Placed}
      → Member from (d ∷ f ∷ r ∷ args) t → is_mark m.Dot d → f.token ≡ word x → is_selector x ≡ true → is_mark m.OpenRound r
      → ArgumentsSoFar us args ts → Opened w fs from
      → Opened w (in_arguments (place_of t) (tree.tree_and t tree.no_trees) x us ∷ fs) ts
  index : {b : Placed} {t : Tree} {o : Bool} {fs : List Frame} {from mark ts : List Placed} → Member from (b ∷ mark) t
      → is_mark m.OpenSquare b → OptionalMark o mark ts → Opened w fs from → Opened w (in_index t o ∷ fs) ts
  sign_before : {s : UnaryOperator} {k : Placed} {fs : List Frame} {ts : List Placed} → is_mark (sign s) k → IsOperatorBefore s ts
      → allows s fs ≡ true → Opened w fs (k ∷ ts) → Opened w (after_sign s k.place ∷ fs) ts
  operator_before : {k : ℕ} {a : Tree} {o : Placed} {op : BinaryOperator} {fs : List Frame} {from ts : List Placed}
      → Chain (suc k) from (o ∷ ts) a → operator o.token ≡ Some (suc k, op) → fits (suc k) fs ≡ true → Opened w fs from
      → Opened w (after_operator a op (suc k) ∷ fs) ts
  question : {q : Placed} {c : Tree} {fs : List Frame} {from ts : List Placed} → Chain 5 from (q ∷ ts) c → is_mark m.Question q
      → opens fs ≡ true → Opened w fs from → Opened w (after_question c ∷ fs) ts
  colon : {q k : Placed} {c a : Tree} {fs : List Frame} {from first ts : List Placed} → Chain 5 from (q ∷ first) c → is_mark m.Question q
      → Chain 5 first (k ∷ ts) a → is_mark m.Colon k → opens fs ≡ true → Opened w fs from → Opened w (after_colon c a ∷ fs) ts

-- a member behind these frames
pub record Had (w : List Placed) (fs : List Frame) (t : Tree) (rest : List Placed) : Type 0 where
  pub from : List Placed
  pub opened : Opened w fs from
  pub member : Member from rest t
