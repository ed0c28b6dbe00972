-- The grammar derives whatever the machine reads.
use Rattle.std.proofs.Common.{◌≡◌, ℕ, suc, zero, ◌<◌, ◌≤◌, refl, sym, ap, subst, arith, Bool, true, false, not, if◌then◌else◌, Option, Some, None, option_map, List, [], ◌∷◌, ◌++◌}
use Rattle.std.specs.Prelude.{nat_le, nat_lt}
use Rattle.std.proofs.lemmas.Bool.Decides.{nat_tests}
use Rattle.cel_value.specs.Data.{Data}
use Rattle.cel_syntax.specs.Literal.{takes_minus, literal_value}
use Rattle.cel_syntax.specs.Token.{Token, word, number, quoted, punctuator}
use Rattle.cel_syntax.specs.Punctuator.{Punctuator}
use Rattle.cel_syntax.specs.Punctuator.TheVariants as m
use Rattle.cel_syntax.specs.BinaryOperator.{BinaryOperator}
use Rattle.cel_syntax.specs.UnaryOperator.{UnaryOperator}
use Rattle.cel_syntax.specs.UnaryOperator.TheVariants as u
use Rattle.cel_syntax.specs.Words.{is_identifier, is_selector}
use Rattle.cel_syntax.specs.Operator.{operator}
use Rattle.kube_server_syntax.specs.Grammar as g
use Rattle.kube_server_syntax.specs.Grammar.{Expression, Chain, Signed, Member, Links, OptionalMark}
use Rattle.kube_server_syntax.specs.Machine as machine
use Rattle.kube_server_syntax.specs.Machine.{Frame, in_round, in_list, in_key, in_value, in_arguments, in_index, after_sign, after_operator, after_question, after_colon, Mode, State, reduced, closed, signed, operated, chosen, selected}
use Rattle.kube_server_syntax.specs.Placed.{Placed, across, is_mark}
use Rattle.kube_server_syntax.specs.Tree as tree
use Rattle.kube_server_syntax.specs.Tree.{Tree, Trees, place_of}
use Rattle.kube_server_syntax.specs.declared.node.Place.{Place}
use Rattle.kube_server_syntax.proofs.Complete.{same_sign, allows, sign_there}
use Rattle.kube_server_syntax.proofs.Runs.{fits, opens, operator_level, operator_levels, ends, runs}
use Rattle.kube_server_syntax.proofs.SoFar as far
use Rattle.kube_server_syntax.proofs.SoFar.{Opened, Had, ArgumentsSoFar, ItemsSoFar, EntriesSoFar, arguments_whole, items_whole, entries_whole, linked, operator_joined, chain_up}

-- ---- operands with what waits for them

-- the operand with the operators up to a level
record Reduced (w : List Placed) (l : ℕ) (r : Tree × List Frame) (rest : List Placed) : Type 0 where
  from : List Placed
  opened : Opened w r.1 from
  chain : Chain l from rest r.0
  fit : fits l r.1 ≡ true

by_level : (b : Bool) (l k : ℕ) (w rest : List Placed) (r s : Tree × List Frame) → nat_le k l ≡ b → (k ≤ l → Reduced w l r rest) → (l < k → Reduced w l s rest)
    → Reduced w l (if b then r else s) rest
by_level true l k w rest r s e f g = f (grind (arith, nat_tests))
by_level false l k w rest r s e f g = g (grind (arith, nat_tests))

chain_reduced : (w rest : List Placed) (j l : ℕ) (fs : List Frame) (t : Tree) (from : List Placed) → j ≤ l → fits j fs ≡ true → Opened w fs from
    → Chain j from rest t → Reduced w l (reduced l fs t) rest
chain_reduced w rest j l [] t from h f o c = record { from = from; opened = o; chain = chain_up j l h c; fit = refl }
chain_reduced w rest j l (after_sign s p ∷ fs) t from h f o c = absurd (cc)
chain_reduced w rest j l (after_operator a op zero ∷ fs) t from h f o c = absurd (grind (arith, nat_tests))
chain_reduced w rest j l (after_operator a op (suc k) ∷ fs) t from h f (far.operator_before {from = start} left e g o) c =
    by_level (nat_le (suc k) l) l (suc k) w rest (reduced l fs (operated a op t)) (t, after_operator a op (suc k) ∷ fs) refl
    (λ within. chain_reduced w rest (suc k) l fs (operated a op t) start within g o (operator_joined left e (chain_up j k (grind (arith, nat_tests)) c)))
    (λ beyond. record { from = from; opened = far.operator_before left e g o; chain = chain_up j l h c; fit = grind (arith, nat_tests) })
chain_reduced w rest j l (in_round p ∷ fs) t from h f o c = record { from = from; opened = o; chain = chain_up j l h c; fit = refl }
chain_reduced w rest j l (in_list p is b ∷ fs) t from h f o c = record { from = from; opened = o; chain = chain_up j l h c; fit = refl }
chain_reduced w rest j l (in_key p es b ∷ fs) t from h f o c = record { from = from; opened = o; chain = chain_up j l h c; fit = refl }
chain_reduced w rest j l (in_value p es b a ∷ fs) t from h f o c = record { from = from; opened = o; chain = chain_up j l h c; fit = refl }
chain_reduced w rest j l (in_arguments p a x us ∷ fs) t from h f o c = record { from = from; opened = o; chain = chain_up j l h c; fit = refl }
chain_reduced w rest j l (in_index a b ∷ fs) t from h f o c = record { from = from; opened = o; chain = chain_up j l h c; fit = refl }
chain_reduced w rest j l (after_question a ∷ fs) t from h f o c = record { from = from; opened = o; chain = chain_up j l h c; fit = refl }
chain_reduced w rest j l (after_colon a b ∷ fs) t from h f o c = record { from = from; opened = o; chain = chain_up j l h c; fit = refl }

-- ---- signs

same_kind : (r s : UnaryOperator) → same_sign r s ≡ true → s ≡ r
same_kind u.Not u.Not h = refl
same_kind u.Not u.Negate h = absurd (cc)
same_kind u.Negate u.Not h = absurd (cc)
same_kind u.Negate u.Negate h = refl

begin_chain : {s : UnaryOperator} {ts rest : List Placed} {t : Tree} → Signed s ts rest t → Chain 0 ts rest t
begin_chain d = g.operand (g.signed d)

signs_reduced : (w rest : List Placed) (l : ℕ) (s : UnaryOperator) (fs : List Frame) (t : Tree) (from : List Placed) → allows s fs ≡ true → Opened w fs from
    → Signed s from rest t → Reduced w l (reduced l fs t) rest
signs_reduced w rest l s (after_sign r p ∷ fs) t from a (far.sign_before {k = k} e b here o) d =
    let d : Signed r from rest t = subst (λ z. Signed z from rest t) (same_kind r s a) d in
    signs_reduced w rest l r fs (signed r p t) (k ∷ from) here o (g.one_sign e b d)
signs_reduced w rest l s [] t from a o d = chain_reduced w rest 0 l [] t from (omega arith) refl o (begin_chain d)
signs_reduced w rest l s (after_operator b op zero ∷ fs) t from a o d = absurd (no_level o)
  where
    no_level : {b : Tree} {op : BinaryOperator} {fs : List Frame} {ts : List Placed} → Opened w (after_operator b op zero ∷ fs) ts → ⊥
    no_level o = elim o [ ]
signs_reduced w rest l s (after_operator b op (suc k) ∷ fs) t from a o d =
    chain_reduced w rest 0 l (after_operator b op (suc k) ∷ fs) t from (omega arith) (grind (arith, nat_tests)) o (begin_chain d)
signs_reduced w rest l s (in_round p ∷ fs) t from a o d = chain_reduced w rest 0 l (in_round p ∷ fs) t from (omega arith) refl o (begin_chain d)
signs_reduced w rest l s (in_list p is b ∷ fs) t from a o d = chain_reduced w rest 0 l (in_list p is b ∷ fs) t from (omega arith) refl o (begin_chain d)
signs_reduced w rest l s (in_key p es b ∷ fs) t from a o d = chain_reduced w rest 0 l (in_key p es b ∷ fs) t from (omega arith) refl o (begin_chain d)
signs_reduced w rest l s (in_value p es b c ∷ fs) t from a o d = chain_reduced w rest 0 l (in_value p es b c ∷ fs) t from (omega arith) refl o (begin_chain d)
signs_reduced w rest l s (in_arguments p b x us ∷ fs) t from a o d = chain_reduced w rest 0 l (in_arguments p b x us ∷ fs) t from (omega arith) refl o (begin_chain d)
signs_reduced w rest l s (in_index b c ∷ fs) t from a o d = chain_reduced w rest 0 l (in_index b c ∷ fs) t from (omega arith) refl o (begin_chain d)
signs_reduced w rest l s (after_question c ∷ fs) t from a o d = chain_reduced w rest 0 l (after_question c ∷ fs) t from (omega arith) refl o (begin_chain d)
signs_reduced w rest l s (after_colon c b ∷ fs) t from a o d = chain_reduced w rest 0 l (after_colon c b ∷ fs) t from (omega arith) refl o (begin_chain d)

-- a sign that may stand before these frames' operand
sign_for : List Frame → UnaryOperator
sign_for (after_sign s p ∷ fs) = s
sign_for _ = u.Not

itself : (s : UnaryOperator) → same_sign s s ≡ true
itself u.Not = refl
itself u.Negate = refl

sign_allowed : (fs : List Frame) → allows (sign_for fs) fs ≡ true
unfolding sign_for
sign_allowed [] = refl
sign_allowed (after_sign s p ∷ fs) = itself s
sign_allowed (after_operator b op k ∷ fs) = refl
sign_allowed (in_round p ∷ fs) = refl
sign_allowed (in_list p is b ∷ fs) = refl
sign_allowed (in_key p es b ∷ fs) = refl
sign_allowed (in_value p es b c ∷ fs) = refl
sign_allowed (in_arguments p b x us ∷ fs) = refl
sign_allowed (in_index b c ∷ fs) = refl
sign_allowed (after_question c ∷ fs) = refl
sign_allowed (after_colon c b ∷ fs) = refl

had_reduced : (w rest : List Placed) (l : ℕ) (fs : List Frame) (t : Tree) → Had w fs t rest → Reduced w l (reduced l fs t) rest
had_reduced w rest l fs t h = signs_reduced w rest l (sign_for fs) fs t h.from (sign_allowed fs) h.opened (g.unsigned h.member)

-- ---- the end of an expression

-- an expression, if it isn't the first branch of a condition
abbrev Closed : List Placed → Tree × List Frame → List Placed → Type 0
Closed w r rest = opens r.1 ≡ true → (from : List Placed) × Opened w r.1 from × Expression from rest r.0

expression_closed : (w rest : List Placed) (fs : List Frame) (t : Tree) (from : List Placed) → opens fs ≡ true → Opened w fs from
    → Expression from rest t → Closed w (closed fs t) rest
expression_closed w rest [] t from f o d = λ _. (from, o, d)
expression_closed w rest (after_sign s p ∷ fs) t from f o d = absurd (cc)
expression_closed w rest (after_operator b op k ∷ fs) t from f o d = absurd (cc)
expression_closed w rest (after_question c ∷ fs) t from f o d = absurd (cc)
expression_closed w rest (after_colon c a ∷ fs) t from f (far.colon {from = start} dc q da k here o) d =
    expression_closed w rest fs (chosen c a t) start here o (g.conditional dc q da k d)
expression_closed w rest (in_round p ∷ fs) t from f o d = λ _. (from, o, d)
expression_closed w rest (in_list p is b ∷ fs) t from f o d = λ _. (from, o, d)
expression_closed w rest (in_key p es b ∷ fs) t from f o d = λ _. (from, o, d)
expression_closed w rest (in_value p es b a ∷ fs) t from f o d = λ _. (from, o, d)
expression_closed w rest (in_arguments p a x us ∷ fs) t from f o d = λ _. (from, o, d)
expression_closed w rest (in_index a b ∷ fs) t from f o d = λ _. (from, o, d)

chain_closed : (w rest : List Placed) (j : ℕ) (fs : List Frame) (t : Tree) (from : List Placed) → j ≤ 5 → fits j fs ≡ true → Opened w fs from
    → Chain j from rest t → Closed w (closed fs t) rest
chain_closed w rest j [] t from h f o c = expression_closed w rest [] t from refl o (g.plain (chain_up j 5 h c))
chain_closed w rest j (after_sign s p ∷ fs) t from h f o c = absurd (cc)
chain_closed w rest j (after_operator a op zero ∷ fs) t from h f o c = absurd (grind (arith, nat_tests))
chain_closed w rest j (after_operator a op (suc k) ∷ fs) t from h f (far.operator_before {o = z} {from = start} left e g o) c =
    chain_closed w rest (suc k) fs (operated a op t) start (operator_level z.token (suc k) op e) g o
    (operator_joined left e (chain_up j k (grind (arith, nat_tests)) c))
chain_closed w rest j (after_question a ∷ fs) t from h f o c = λ is. absurd (cc)
chain_closed w rest j (after_colon a b ∷ fs) t from h f o c = expression_closed w rest (after_colon a b ∷ fs) t from refl o (g.plain (chain_up j 5 h c))
chain_closed w rest j (in_round p ∷ fs) t from h f o c = expression_closed w rest (in_round p ∷ fs) t from refl o (g.plain (chain_up j 5 h c))
chain_closed w rest j (in_list p is b ∷ fs) t from h f o c = expression_closed w rest (in_list p is b ∷ fs) t from refl o (g.plain (chain_up j 5 h c))
chain_closed w rest j (in_key p es b ∷ fs) t from h f o c = expression_closed w rest (in_key p es b ∷ fs) t from refl o (g.plain (chain_up j 5 h c))
chain_closed w rest j (in_value p es b a ∷ fs) t from h f o c = expression_closed w rest (in_value p es b a ∷ fs) t from refl o (g.plain (chain_up j 5 h c))
chain_closed w rest j (in_arguments p a x us ∷ fs) t from h f o c = expression_closed w rest (in_arguments p a x us ∷ fs) t from refl o (g.plain (chain_up j 5 h c))
chain_closed w rest j (in_index a b ∷ fs) t from h f o c = expression_closed w rest (in_index a b ∷ fs) t from refl o (g.plain (chain_up j 5 h c))

signs_closed : (w rest : List Placed) (s : UnaryOperator) (fs : List Frame) (t : Tree) (from : List Placed) → allows s fs ≡ true → Opened w fs from
    → Signed s from rest t → Closed w (closed fs t) rest
signs_closed w rest s (after_sign r p ∷ fs) t from a (far.sign_before {k = k} e b here o) d =
    let d : Signed r from rest t = subst (λ z. Signed z from rest t) (same_kind r s a) d in
    signs_closed w rest r fs (signed r p t) (k ∷ from) here o (g.one_sign e b d)
signs_closed w rest s [] t from a o d = chain_closed w rest 0 [] t from (omega arith) refl o (begin_chain d)
signs_closed w rest s (after_operator b op zero ∷ fs) t from a o d = absurd (no_level o)
  where
    no_level : {b : Tree} {op : BinaryOperator} {fs : List Frame} {ts : List Placed} → Opened w (after_operator b op zero ∷ fs) ts → ⊥
    no_level o = elim o [ ]
signs_closed w rest s (after_operator b op (suc k) ∷ fs) t from a o d =
    chain_closed w rest 0 (after_operator b op (suc k) ∷ fs) t from (omega arith) (grind (arith, nat_tests)) o (begin_chain d)
signs_closed w rest s (in_round p ∷ fs) t from a o d = chain_closed w rest 0 (in_round p ∷ fs) t from (omega arith) refl o (begin_chain d)
signs_closed w rest s (in_list p is b ∷ fs) t from a o d = chain_closed w rest 0 (in_list p is b ∷ fs) t from (omega arith) refl o (begin_chain d)
signs_closed w rest s (in_key p es b ∷ fs) t from a o d = chain_closed w rest 0 (in_key p es b ∷ fs) t from (omega arith) refl o (begin_chain d)
signs_closed w rest s (in_value p es b c ∷ fs) t from a o d = chain_closed w rest 0 (in_value p es b c ∷ fs) t from (omega arith) refl o (begin_chain d)
signs_closed w rest s (in_arguments p b x us ∷ fs) t from a o d = chain_closed w rest 0 (in_arguments p b x us ∷ fs) t from (omega arith) refl o (begin_chain d)
signs_closed w rest s (in_index b c ∷ fs) t from a o d = chain_closed w rest 0 (in_index b c ∷ fs) t from (omega arith) refl o (begin_chain d)
signs_closed w rest s (after_question c ∷ fs) t from a o d = chain_closed w rest 0 (after_question c ∷ fs) t from (omega arith) refl o (begin_chain d)
signs_closed w rest s (after_colon c b ∷ fs) t from a o d = chain_closed w rest 0 (after_colon c b ∷ fs) t from (omega arith) refl o (begin_chain d)

had_closed : (w rest : List Placed) (fs : List Frame) (t : Tree) → Had w fs t rest → Closed w (closed fs t) rest
had_closed w rest fs t h = signs_closed w rest (sign_for fs) fs t h.from (sign_allowed fs) h.opened (g.unsigned h.member)

-- ---- what holds between two tokens

-- after the first token of a bracket
pub data JustOpened (w : List Placed) : List Frame → List Placed → Type 0 where
  new_list : {b : Placed} {fs : List Frame} {ts : List Placed} → is_mark m.OpenSquare b → Opened w fs (b ∷ ts)
      → JustOpened w (in_list b.place [] false ∷ fs) ts
  new_map : {b : Placed} {fs : List Frame} {ts : List Placed} → is_mark m.OpenBrace b → Opened w fs (b ∷ ts)
      → JustOpened w (in_key b.place [] false ∷ fs) ts
  new_call : {f r : Placed} {x : List ℕ} {fs : List Frame} {ts : List Placed} → f.token ≡ word x → is_identifier x ≡ true
      → is_mark m.OpenRound r → Opened w fs (f ∷ r ∷ ts) → JustOpened w (in_arguments f.place tree.no_trees x [] ∷ fs) ts
  new_method : {d f r : Placed} {t : Tree} {x : List ℕ} {fs : List Frame} {from ts : List Placed} → Member from (d ∷ f ∷ r ∷ ts) t
      → is_mark m.Dot d → f.token ≡ word x → is_selector x ≡ true → is_mark m.OpenRound r → Opened w fs from
      → JustOpened w (in_arguments (place_of t) (tree.tree_and t tree.no_trees) x [] ∷ fs) ts

-- after a comma
pub data AfterComma (w : List Placed) : List Frame → List Placed → Type 0 where
  in_items : {b c : Placed} {is : List (Bool × Tree)} {o : Bool} {t : Tree} {fs : List Frame} {items mark from ts : List Placed}
      → is_mark m.OpenSquare b → ItemsSoFar is items mark → OptionalMark o mark from → Expression from (c ∷ ts) t → is_mark m.Comma c
      → Opened w fs (b ∷ items) → AfterComma w (in_list b.place (is ++ (o, t) ∷ []) false ∷ fs) ts
  in_entries : {b c k : Placed} {es : List (Bool × Tree × Tree)} {o : Bool} {a v : Tree} {fs : List Frame} {entries mark from values ts : List Placed}
      → is_mark m.OpenBrace b → EntriesSoFar es entries mark → OptionalMark o mark from → Expression from (k ∷ values) a → is_mark m.Colon k
      → Expression values (c ∷ ts) v → is_mark m.Comma c → Opened w fs (b ∷ entries)
      → AfterComma w (in_key b.place (es ++ (o, a, v) ∷ []) false ∷ fs) ts

-- after a comma that is all that a list or a map holds
pub data OnlyComma (w : List Placed) : List Frame → List Placed → Type 0 where
  only_in_list : {b c : Placed} {fs : List Frame} {ts : List Placed} → is_mark m.OpenSquare b → is_mark m.Comma c → Opened w fs (b ∷ c ∷ ts)
      → OnlyComma w (in_list b.place [] false ∷ fs) ts
  only_in_map : {b c : Placed} {fs : List Frame} {ts : List Placed} → is_mark m.OpenBrace b → is_mark m.Comma c → Opened w fs (b ∷ c ∷ ts)
      → OnlyComma w (in_key b.place [] false ∷ fs) ts

pub data AfterMinus (w : List Placed) (fs : List Frame) (ts : List Placed) : Place → Type 0 where
  minus_read : {k : Placed} → is_mark m.Minus k → Opened w fs (k ∷ ts) → AfterMinus w fs ts k.place

pub data AfterName (w : List Placed) (fs : List Frame) (ts : List Placed) (x : List ℕ) : Place → Type 0 where
  name_read : {k : Placed} → k.token ≡ word x → is_identifier x ≡ true → Opened w fs (k ∷ ts) → AfterName w fs ts x k.place

pub data AfterDot (w : List Placed) (fs : List Frame) (ts : List Placed) (t : Tree) : Type 0 where
  dot_read : {d : Placed} → is_mark m.Dot d → Had w fs t (d ∷ ts) → AfterDot w fs ts t

pub data AfterMarkedDot (w : List Placed) (fs : List Frame) (ts : List Placed) (t : Tree) : Type 0 where
  marked_dot_read : {d q : Placed} → is_mark m.Dot d → is_mark m.Question q → Had w fs t (d ∷ q ∷ ts) → AfterMarkedDot w fs ts t

pub data AfterField (w : List Placed) (fs : List Frame) (ts : List Placed) (t : Tree) (x : List ℕ) : Place → Type 0 where
  field_read : {d k : Placed} → is_mark m.Dot d → k.token ≡ word x → is_selector x ≡ true → Had w fs t (d ∷ k ∷ ts) → AfterField w fs ts t x k.place

pub data AfterSquare (w : List Placed) (fs : List Frame) (ts : List Placed) (t : Tree) : Type 0 where
  square_read : {b : Placed} → is_mark m.OpenSquare b → Had w fs t (b ∷ ts) → AfterSquare w fs ts t

abbrev pub Holds : List Placed → Mode → List Frame → List Placed → Type 0
Holds w machine.needs fs ts = Opened w fs ts
Holds w machine.opened fs ts = JustOpened w fs ts
Holds w machine.more fs ts = AfterComma w fs ts
Holds w machine.ended fs ts = OnlyComma w fs ts
Holds w (machine.minus p) fs ts = AfterMinus w fs ts p
Holds w (machine.named p x) fs ts = AfterName w fs ts x p
Holds w (machine.has t) fs ts = Had w fs t ts
Holds w (machine.dotted t) fs ts = AfterDot w fs ts t
Holds w (machine.dot_marked t) fs ts = AfterMarkedDot w fs ts t
Holds w (machine.fielded t p x) fs ts = AfterField w fs ts t x p
Holds w (machine.indexed t) fs ts = AfterSquare w fs ts t

-- the same of a state, if there is one
abbrev pub HoldsIf : List Placed → Option State → List Placed → Type 0
HoldsIf w None ts = Unit {0}
HoldsIf w (Some s) ts = Holds w s.0 s.1 ts

-- ---- tokens

mark_token : (t : Token) (n : Punctuator) → machine.mark_of t ≡ Some n → t ≡ punctuator n
mark_token (word x) n h = absurd (cc)
mark_token (number s) n h = absurd (cc)
mark_token (quoted s) n h = absurd (cc)
mark_token (punctuator k) n h = ap punctuator (some_same h)
  where
    some_same : {A : Type 0} {a b : A} → Some a ≡ Some b → a ≡ b
    some_same e = cc

-- a member that is a primary
had : {w : List Placed} {fs : List Frame} {from rest : List Placed} {t : Tree} → Opened w fs from → g.Primary from rest t → Had w fs t rest
had {from = from} o d = record { from = from; opened = o; member = g.member d g.no_link }

-- one with another link
had_link : {w : List Placed} {fs : List Frame} {mid rest : List Placed} {t u : Tree} → Had w fs t mid → Links t mid rest u → Had w fs u rest
had_link h l = record { from = h.from; opened = h.opened; member = linked h.member l }

by_same : (r s : UnaryOperator) (o : Option Frame) → same_sign r s ≡ false → machine.by_sign r s o ≡ None
by_same u.Not u.Not o h = absurd (cc)
by_same u.Not u.Negate o h = refl
by_same u.Negate u.Not o h = refl
by_same u.Negate u.Negate o h = absurd (cc)

pub sign_refused : (s : UnaryOperator) (fs : List Frame) (p : Place) → allows s fs ≡ false → machine.sign_after fs s p ≡ None
sign_refused s [] p h = absurd (cc)
sign_refused s (after_sign r q ∷ fs) p h = by_same r s (Some (after_sign s p)) h
sign_refused s (in_round q ∷ fs) p h = absurd (cc)
sign_refused s (in_list q is b ∷ fs) p h = absurd (cc)
sign_refused s (in_key q es b ∷ fs) p h = absurd (cc)
sign_refused s (in_value q es b a ∷ fs) p h = absurd (cc)
sign_refused s (in_arguments q a x us ∷ fs) p h = absurd (cc)
sign_refused s (in_index a b ∷ fs) p h = absurd (cc)
sign_refused s (after_operator a op k ∷ fs) p h = absurd (cc)
sign_refused s (after_question c ∷ fs) p h = absurd (cc)
sign_refused s (after_colon c a ∷ fs) p h = absurd (cc)

-- ---- operands

begin_keeps : (w : List Placed) (fs : List Frame) (k : Placed) (ts : List Placed) → Opened w fs (k ∷ ts) → HoldsIf w (machine.begin fs k) ts
begin_keeps w fs k ts o = by_literal (literal_value false k.token) refl
  where
    by_allowed : (b : Bool) → allows u.Not fs ≡ b → is_mark m.Not k
        → HoldsIf w (option_map (λ (f : Frame). (machine.needs, f ∷ fs)) (machine.sign_after fs u.Not k.place)) ts
    by_allowed true a e = subst (λ (q : Option Frame). HoldsIf w (option_map (λ (f : Frame). (machine.needs, f ∷ fs)) q) ts)
        (sym (sign_there u.Not fs k.place a)) (far.sign_before {s = u.Not} e refl a o)
    by_allowed false a e = subst (λ (q : Option Frame). HoldsIf w (option_map (λ (f : Frame). (machine.needs, f ∷ fs)) q) ts)
        (sym (sign_refused u.Not fs k.place a)) tt

    by_mark : (n : Punctuator) → is_mark n k → HoldsIf w (machine.begin_by_mark n k.place fs) ts
    by_mark m.OpenRound e = far.round e o
    by_mark m.OpenSquare e = new_list e o
    by_mark m.OpenBrace e = new_map e o
    by_mark m.Not e = by_allowed (allows u.Not fs) refl e
    by_mark m.Minus e = minus_read e o
    by_mark _ e = tt

    by_name : (b : Bool) (x : List ℕ) → k.token ≡ word x → is_identifier x ≡ b
        → HoldsIf w (if b then Some (machine.named k.place x, fs) else None) ts
    by_name true x e i = name_read e i o
    by_name false x e i = tt

    by_token : (z : Token) → k.token ≡ z → HoldsIf w (machine.begin_by_token z k.place fs) ts
    by_token (word x) e = by_name (is_identifier x) x e refl
    by_token (number s) e = tt
    by_token (quoted s) e = tt
    by_token (punctuator n) e = by_mark n e

    by_literal : (v : Option Data) → literal_value false k.token ≡ v
        → HoldsIf w (machine.literal_or v k.place fs (machine.begin_by_token k.token k.place fs)) ts
    by_literal None e = by_token k.token refl
    by_literal (Some v) e = had o (g.literal e)

minus_keeps : (w : List Placed) (p : Place) (fs : List Frame) (k : Placed) (ts : List Placed) → AfterMinus w fs (k ∷ ts) p
    → HoldsIf w (machine.after_minus p fs k) ts
minus_keeps w p fs k ts (minus_read {k = n} e o) = by_number (takes_minus k.token) refl
  where
    by_value : (v : Option Data) → takes_minus k.token ≡ true → literal_value true k.token ≡ v
        → HoldsIf w (machine.literal_or v (across n.place k.place) fs None) ts
    by_value None h is = tt
    by_value (Some v) h is = had o (g.negative e h is)

    by_allowed : (b : Bool) → allows u.Negate fs ≡ b → not (takes_minus k.token) ≡ true
        → HoldsIf w (machine.begin_signed (machine.sign_after fs u.Negate n.place) fs k) ts
    by_allowed true a h = subst (λ (q : Option Frame). HoldsIf w (machine.begin_signed q fs k) ts) (sym (sign_there u.Negate fs n.place a))
        (begin_keeps w (after_sign u.Negate n.place ∷ fs) k ts (far.sign_before {s = u.Negate} e h a o))
    by_allowed false a h = subst (λ (q : Option Frame). HoldsIf w (machine.begin_signed q fs k) ts) (sym (sign_refused u.Negate fs n.place a)) tt

    by_number : (b : Bool) → takes_minus k.token ≡ b
        → HoldsIf w (if b then machine.literal_or (literal_value true k.token) (across n.place k.place) fs None
        else machine.begin_signed (machine.sign_after fs u.Negate n.place) fs k) ts
    by_number true h = by_value (literal_value true k.token) h refl
    by_number false h = by_allowed (allows u.Negate fs) refl (ap not h)

-- ---- brackets

abbrev opened_by : List Frame → Placed → Token → Option State
opened_by fs k z = machine.first_of (machine.if_mark (machine.mark_of z) (λ n. machine.first_of (machine.end_by_mark fs n k.place)
    (machine.first_of (machine.mark_by_mark fs n) (machine.comma_by_mark fs n)))) (machine.begin fs k)

opened_keeps : (w : List Placed) (fs : List Frame) (k : Placed) (ts : List Placed) → JustOpened w fs (k ∷ ts) → HoldsIf w (machine.step_opened fs k) ts
opened_keeps w _ k ts (new_list {b = b} {fs = fs} e o) = by_token k.token refl
  where
    others : HoldsIf w (machine.begin (in_list b.place [] false ∷ fs) k) ts
    others = begin_keeps w (in_list b.place [] false ∷ fs) k ts (far.list e far.no_item_yet g.unmarked o)

    by_token : (z : Token) → k.token ≡ z → HoldsIf w (opened_by (in_list b.place [] false ∷ fs) k z) ts
    by_token (word x) h = others
    by_token (number s) h = others
    by_token (quoted s) h = others
    by_token (punctuator m.CloseSquare) h = had o (g.list e g.no_items g.without h)
    by_token (punctuator m.Question) h = far.list e far.no_item_yet (g.marked h) o
    by_token (punctuator m.Comma) h = only_in_list e h o
    by_token (punctuator _) h = others
opened_keeps w _ k ts (new_map {b = b} {fs = fs} e o) = by_token k.token refl
  where
    others : HoldsIf w (machine.begin (in_key b.place [] false ∷ fs) k) ts
    others = begin_keeps w (in_key b.place [] false ∷ fs) k ts (far.key e far.no_entry_yet g.unmarked o)

    by_token : (z : Token) → k.token ≡ z → HoldsIf w (opened_by (in_key b.place [] false ∷ fs) k z) ts
    by_token (word x) h = others
    by_token (number s) h = others
    by_token (quoted s) h = others
    by_token (punctuator m.CloseBrace) h = had o (g.map e g.no_entries g.without h)
    by_token (punctuator m.Question) h = far.key e far.no_entry_yet (g.marked h) o
    by_token (punctuator m.Comma) h = only_in_map e h o
    by_token (punctuator _) h = others
opened_keeps w _ k ts (new_call {f = f} {x = x} {fs = fs} e i r o) = by_token k.token refl
  where
    others : HoldsIf w (machine.begin (in_arguments f.place tree.no_trees x [] ∷ fs) k) ts
    others = begin_keeps w (in_arguments f.place tree.no_trees x [] ∷ fs) k ts (far.function e i r far.no_argument_yet o)

    by_token : (z : Token) → k.token ≡ z → HoldsIf w (opened_by (in_arguments f.place tree.no_trees x [] ∷ fs) k z) ts
    by_token (word y) h = others
    by_token (number s) h = others
    by_token (quoted s) h = others
    by_token (punctuator m.CloseRound) h = had o (g.call e i r g.no_arguments h)
    by_token (punctuator _) h = others
opened_keeps w _ k ts (new_method {t = t} {x = x} {fs = fs} {from = from} d md e s r o) = by_token k.token refl
  where
    others : HoldsIf w (machine.begin (in_arguments (place_of t) (tree.tree_and t tree.no_trees) x [] ∷ fs) k) ts
    others = begin_keeps w (in_arguments (place_of t) (tree.tree_and t tree.no_trees) x [] ∷ fs) k ts (far.method d md e s r far.no_argument_yet o)

    by_token : (z : Token) → k.token ≡ z → HoldsIf w (opened_by (in_arguments (place_of t) (tree.tree_and t tree.no_trees) x [] ∷ fs) k z) ts
    by_token (word y) h = others
    by_token (number q) h = others
    by_token (quoted q) h = others
    by_token (punctuator m.CloseRound) h =
        record { from = from; opened = o; member = linked d (g.method md e s r g.no_arguments h g.no_link) }
    by_token (punctuator _) h = others

abbrev more_by : List Frame → Placed → Token → Option State
more_by fs k z = machine.first_of (machine.if_mark (machine.mark_of z) (λ n.
    if machine.ends_behind_comma fs then machine.first_of (machine.end_by_mark fs n k.place) (machine.mark_by_mark fs n) else None)) (machine.begin fs k)

more_keeps : (w : List Placed) (fs : List Frame) (k : Placed) (ts : List Placed) → AfterComma w fs (k ∷ ts) → HoldsIf w (machine.step_more fs k) ts
more_keeps w _ k ts (in_items {b = b} {is = is} {o = p} {t = t} {fs = fs} e so om d c o) = by_token k.token refl
  where
    others : HoldsIf w (machine.begin (in_list b.place (is ++ (p, t) ∷ []) false ∷ fs) k) ts
    others = begin_keeps w (in_list b.place (is ++ (p, t) ∷ []) false ∷ fs) k ts (far.list e (far.item_yet so om d c) g.unmarked o)

    by_token : (z : Token) → k.token ≡ z → HoldsIf w (more_by (in_list b.place (is ++ (p, t) ∷ []) false ∷ fs) k z) ts
    by_token (word x) h = others
    by_token (number s) h = others
    by_token (quoted s) h = others
    by_token (punctuator m.CloseSquare) h = had o (g.list e (items_whole so om d g.no_item) (g.with_comma c) h)
    by_token (punctuator m.Question) h = far.list e (far.item_yet so om d c) (g.marked h) o
    by_token (punctuator _) h = others
more_keeps w _ k ts (in_entries {b = b} {es = es} {o = p} {a = a} {v = v} {fs = fs} e so om da ek db c o) = by_token k.token refl
  where
    others : HoldsIf w (machine.begin (in_key b.place (es ++ (p, a, v) ∷ []) false ∷ fs) k) ts
    others = begin_keeps w (in_key b.place (es ++ (p, a, v) ∷ []) false ∷ fs) k ts (far.key e (far.entry_yet so om da ek db c) g.unmarked o)

    by_token : (z : Token) → k.token ≡ z → HoldsIf w (more_by (in_key b.place (es ++ (p, a, v) ∷ []) false ∷ fs) k z) ts
    by_token (word x) h = others
    by_token (number s) h = others
    by_token (quoted s) h = others
    by_token (punctuator m.CloseBrace) h = had o (g.map e (entries_whole so om da ek db g.no_entry) (g.with_comma c) h)
    by_token (punctuator m.Question) h = far.key e (far.entry_yet so om da ek db c) (g.marked h) o
    by_token (punctuator _) h = others

ended_keeps : (w : List Placed) (fs : List Frame) (k : Placed) (ts : List Placed) → OnlyComma w fs (k ∷ ts) → HoldsIf w (machine.step_ended fs k) ts
ended_keeps w _ k ts (only_in_list {b = b} {fs = fs} e c o) = by_token k.token refl
  where
    by_token : (z : Token) → k.token ≡ z
        → HoldsIf w (machine.if_mark (machine.mark_of z) (λ n. machine.end_by_mark (in_list b.place [] false ∷ fs) n k.place)) ts
    by_token (word x) h = tt
    by_token (number s) h = tt
    by_token (quoted s) h = tt
    by_token (punctuator m.CloseSquare) h = had o (g.list e g.no_items (g.with_comma c) h)
    by_token (punctuator _) h = tt
ended_keeps w _ k ts (only_in_map {b = b} {fs = fs} e c o) = by_token k.token refl
  where
    by_token : (z : Token) → k.token ≡ z
        → HoldsIf w (machine.if_mark (machine.mark_of z) (λ n. machine.end_by_mark (in_key b.place [] false ∷ fs) n k.place)) ts
    by_token (word x) h = tt
    by_token (number s) h = tt
    by_token (quoted s) h = tt
    by_token (punctuator m.CloseBrace) h = had o (g.map e g.no_entries (g.with_comma c) h)
    by_token (punctuator _) h = tt

-- ---- complete parts of brackets

round_part : {w from ts : List Placed} {p : Place} {fs : List Frame} {k : Placed} {t : Tree} → Opened w (in_round p ∷ fs) from
    → Expression from (k ∷ ts) t → is_mark m.CloseRound k → Had w fs (tree.round (across p k.place) t) ts
round_part (far.round e o) d c = had o (g.round e d c)

call_part : {w from ts : List Placed} {p : Place} {a : Trees} {x : List ℕ} {us : List Tree} {fs : List Frame} {k : Placed} {t : Tree}
    → Opened w (in_arguments p a x us ∷ fs) from → Expression from (k ∷ ts) t → is_mark m.CloseRound k
    → Had w fs (tree.call (across p k.place) a x (tree.trees_of (us ++ t ∷ []))) ts
call_part (far.function e i r so o) d c = had o (g.call e i r (arguments_whole so d g.no_argument) c)
call_part (far.method {from = start} md dot e s r so o) d c =
    record { from = start; opened = o; member = linked md (g.method dot e s r (arguments_whole so d g.no_argument) c g.no_link) }

next_argument : {w from ts : List Placed} {p : Place} {a : Trees} {x : List ℕ} {us : List Tree} {fs : List Frame} {k : Placed} {t : Tree}
    → Opened w (in_arguments p a x us ∷ fs) from → Expression from (k ∷ ts) t → is_mark m.Comma k
    → Opened w (in_arguments p a x (us ++ t ∷ []) ∷ fs) ts
next_argument (far.function e i r so o) d c = far.function e i r (far.argument_yet so d c) o
next_argument (far.method md dot e s r so o) d c = far.method md dot e s r (far.argument_yet so d c) o

index_part : {w from ts : List Placed} {a : Tree} {b : Bool} {fs : List Frame} {k : Placed} {t : Tree} → Opened w (in_index a b ∷ fs) from
    → Expression from (k ∷ ts) t → is_mark m.CloseSquare k → Had w fs (tree.index (across (place_of a) k.place) a b t) ts
index_part (far.index {from = start} md e om o) d c = record { from = start; opened = o; member = linked md (g.index e om d c g.no_link) }

list_part : {w from ts : List Placed} {p : Place} {is : List (Bool × Tree)} {b : Bool} {fs : List Frame} {k : Placed} {t : Tree}
    → Opened w (in_list p is b ∷ fs) from → Expression from (k ∷ ts) t → is_mark m.CloseSquare k
    → Had w fs (tree.list_of (across p k.place) (tree.items_of (is ++ (b, t) ∷ []))) ts
list_part (far.list e so om o) d c = had o (g.list e (items_whole so om d g.no_item) g.without c)

next_item : {w from ts : List Placed} {p : Place} {is : List (Bool × Tree)} {b : Bool} {fs : List Frame} {k : Placed} {t : Tree}
    → Opened w (in_list p is b ∷ fs) from → Expression from (k ∷ ts) t → is_mark m.Comma k
    → AfterComma w (in_list p (is ++ (b, t) ∷ []) false ∷ fs) ts
next_item (far.list e so om o) d c = in_items e so om d c o

key_part : {w from ts : List Placed} {p : Place} {es : List (Bool × Tree × Tree)} {b : Bool} {fs : List Frame} {k : Placed} {t : Tree}
    → Opened w (in_key p es b ∷ fs) from → Expression from (k ∷ ts) t → is_mark m.Colon k → Opened w (in_value p es b t ∷ fs) ts
key_part (far.key e so om o) d c = far.value e so om d c o

map_part : {w from ts : List Placed} {p : Place} {es : List (Bool × Tree × Tree)} {b : Bool} {a : Tree} {fs : List Frame} {k : Placed} {t : Tree}
    → Opened w (in_value p es b a ∷ fs) from → Expression from (k ∷ ts) t → is_mark m.CloseBrace k
    → Had w fs (tree.map_of (across p k.place) (tree.entries_of (es ++ (b, a, t) ∷ []))) ts
map_part (far.value e so om da ek o) d c = had o (g.map e (entries_whole so om da ek d g.no_entry) g.without c)

next_entry : {w from ts : List Placed} {p : Place} {es : List (Bool × Tree × Tree)} {b : Bool} {a : Tree} {fs : List Frame} {k : Placed} {t : Tree}
    → Opened w (in_value p es b a ∷ fs) from → Expression from (k ∷ ts) t → is_mark m.Comma k
    → AfterComma w (in_key p (es ++ (b, a, t) ∷ []) false ∷ fs) ts
next_entry (far.value e so om da ek o) d c = in_entries e so om da ek d c o

part_keeps : (w ts : List Placed) (k : Placed) (t : Tree) (fs : List Frame) (n : Punctuator) → Closed w (t, fs) (k ∷ ts) → is_mark n k
    → HoldsIf w (machine.part_by_mark (t, fs) n k.place) ts
part_keeps w ts k t (in_round p ∷ fs) m.CloseRound c e = let x = c refl in round_part x.1 x.2 e
part_keeps w ts k t (in_round p ∷ fs) _ c e = tt
part_keeps w ts k t (in_arguments p a x us ∷ fs) m.CloseRound c e = let y = c refl in call_part y.1 y.2 e
part_keeps w ts k t (in_arguments p a x us ∷ fs) m.Comma c e = let y = c refl in next_argument y.1 y.2 e
part_keeps w ts k t (in_arguments p a x us ∷ fs) _ c e = tt
part_keeps w ts k t (in_index a b ∷ fs) m.CloseSquare c e = let x = c refl in index_part x.1 x.2 e
part_keeps w ts k t (in_index a b ∷ fs) _ c e = tt
part_keeps w ts k t (in_list p is b ∷ fs) m.CloseSquare c e = let x = c refl in list_part x.1 x.2 e
part_keeps w ts k t (in_list p is b ∷ fs) m.Comma c e = let x = c refl in next_item x.1 x.2 e
part_keeps w ts k t (in_list p is b ∷ fs) _ c e = tt
part_keeps w ts k t (in_key p es b ∷ fs) m.Colon c e = let x = c refl in key_part x.1 x.2 e
part_keeps w ts k t (in_key p es b ∷ fs) _ c e = tt
part_keeps w ts k t (in_value p es b a ∷ fs) m.CloseBrace c e = let x = c refl in map_part x.1 x.2 e
part_keeps w ts k t (in_value p es b a ∷ fs) m.Comma c e = let x = c refl in next_entry x.1 x.2 e
part_keeps w ts k t (in_value p es b a ∷ fs) _ c e = tt
part_keeps w ts k t [] n c e = tt
part_keeps w ts k t (after_sign s p ∷ fs) n c e = tt
part_keeps w ts k t (after_operator a op j ∷ fs) n c e = tt
part_keeps w ts k t (after_question a ∷ fs) n c e = tt
part_keeps w ts k t (after_colon a b ∷ fs) n c e = tt

-- ---- what follows a member

no_operator_left : {w from : List Placed} {a : Tree} {op : BinaryOperator} {j : ℕ} {fs : List Frame} → Opened w (after_operator a op j ∷ fs) from
    → nat_lt 5 j ≡ true → ⊥
no_operator_left (far.operator_before {k = k} {o = z} {op = op} left e f o) h =
    let within : suc k ≤ 5 = operator_level z.token (suc k) op e in absurd (grind (arith, nat_tests))

question_keeps : (w ts : List Placed) (k : Placed) (t : Tree) (fs : List Frame) → Reduced w 5 (t, fs) (k ∷ ts) → is_mark m.Question k
    → HoldsIf w (machine.question_by (t, fs)) ts
question_keeps w ts k t [] r e = far.question r.chain e refl r.opened
question_keeps w ts k t (after_sign s p ∷ fs) r e = absurd (cc (r.fit))
question_keeps w ts k t (after_operator a op j ∷ fs) r e = absurd (no_operator_left r.opened r.fit)
question_keeps w ts k t (after_question c ∷ fs) r e = tt
question_keeps w ts k t (after_colon c a ∷ fs) r e = far.question r.chain e refl r.opened
question_keeps w ts k t (in_round p ∷ fs) r e = far.question r.chain e refl r.opened
question_keeps w ts k t (in_list p is b ∷ fs) r e = far.question r.chain e refl r.opened
question_keeps w ts k t (in_key p es b ∷ fs) r e = far.question r.chain e refl r.opened
question_keeps w ts k t (in_value p es b a ∷ fs) r e = far.question r.chain e refl r.opened
question_keeps w ts k t (in_arguments p a x us ∷ fs) r e = far.question r.chain e refl r.opened
question_keeps w ts k t (in_index a b ∷ fs) r e = far.question r.chain e refl r.opened

branch_read : {w from ts : List Placed} {c a : Tree} {fs : List Frame} {k : Placed} → Opened w (after_question c ∷ fs) from
    → Chain 5 from (k ∷ ts) a → is_mark m.Colon k → Opened w (after_colon c a ∷ fs) ts
branch_read (far.question dc q op o) da e = far.colon dc q da e op o

colon_keeps : (w ts : List Placed) (k : Placed) (t : Tree) (fs : List Frame) → Reduced w 5 (t, fs) (k ∷ ts) → is_mark m.Colon k
    → HoldsIf w (machine.colon_by (t, fs) k.place) ts
colon_keeps w ts k t fs r e = by_frames fs r
  where
    others : (fs : List Frame) → Reduced w 5 (t, fs) (k ∷ ts) → HoldsIf w (machine.part_by_mark (closed fs t) m.Colon k.place) ts
    others fs r = part_keeps w ts k (closed fs t).0 (closed fs t).1 m.Colon
        (chain_closed w (k ∷ ts) 5 fs t r.from (omega arith) r.fit r.opened r.chain) e

    by_frames : (fs : List Frame) → Reduced w 5 (t, fs) (k ∷ ts) → HoldsIf w (machine.colon_by (t, fs) k.place) ts
    by_frames [] r = others [] r
    by_frames (after_sign s p ∷ fs) r = others (after_sign s p ∷ fs) r
    by_frames (after_operator a op j ∷ fs) r = others (after_operator a op j ∷ fs) r
    by_frames (after_question c ∷ fs) r = branch_read r.opened r.chain e
    by_frames (after_colon c a ∷ fs) r = others (after_colon c a ∷ fs) r
    by_frames (in_round p ∷ fs) r = others (in_round p ∷ fs) r
    by_frames (in_list p is b ∷ fs) r = others (in_list p is b ∷ fs) r
    by_frames (in_key p es b ∷ fs) r = others (in_key p es b ∷ fs) r
    by_frames (in_value p es b a ∷ fs) r = others (in_value p es b a ∷ fs) r
    by_frames (in_arguments p a x us ∷ fs) r = others (in_arguments p a x us ∷ fs) r
    by_frames (in_index a b ∷ fs) r = others (in_index a b ∷ fs) r

positive : (t : Token) (op : BinaryOperator) → operator t ≡ Some (zero, op) → ⊥
positive t op e = let h : 1 ≤ 0 = (operator_levels t zero op e).0 in absurd (omega arith)

member_keeps : (w ts : List Placed) (fs : List Frame) (t : Tree) (k : Placed) → Had w fs t (k ∷ ts) → HoldsIf w (machine.after_member fs t k) ts
member_keeps w ts fs t k h = by_link (machine.mark_of k.token) refl
  where
    part : (n : Punctuator) → is_mark n k → HoldsIf w (machine.part_by_mark (closed fs t) n k.place) ts
    part n e = part_keeps w ts k (closed fs t).0 (closed fs t).1 n (had_closed w (k ∷ ts) fs t h) e

    by_end : (n : Punctuator) → is_mark n k → HoldsIf w (machine.end_of_part fs t n k.place) ts
    by_end m.Question e = question_keeps w ts k (reduced 5 fs t).0 (reduced 5 fs t).1 (had_reduced w (k ∷ ts) 5 fs t h) e
    by_end m.Colon e = colon_keeps w ts k (reduced 5 fs t).0 (reduced 5 fs t).1 (had_reduced w (k ∷ ts) 5 fs t h) e
    by_end m.OpenRound e = part m.OpenRound e
    by_end m.CloseRound e = part m.CloseRound e
    by_end m.OpenSquare e = part m.OpenSquare e
    by_end m.CloseSquare e = part m.CloseSquare e
    by_end m.OpenBrace e = part m.OpenBrace e
    by_end m.CloseBrace e = part m.CloseBrace e
    by_end m.Comma e = part m.Comma e
    by_end m.Dot e = part m.Dot e
    by_end m.Not e = part m.Not e
    by_end m.Minus e = part m.Minus e
    by_end m.Plus e = part m.Plus e
    by_end m.Star e = part m.Star e
    by_end m.Slash e = part m.Slash e
    by_end m.Percent e = part m.Percent e
    by_end m.Less e = part m.Less e
    by_end m.LessOrEqual e = part m.LessOrEqual e
    by_end m.Greater e = part m.Greater e
    by_end m.GreaterOrEqual e = part m.GreaterOrEqual e
    by_end m.Equal e = part m.Equal e
    by_end m.NotEqual e = part m.NotEqual e
    by_end m.And e = part m.And e
    by_end m.Or e = part m.Or e

    by_mark : (z : Option Punctuator) → machine.mark_of k.token ≡ z → HoldsIf w (machine.if_mark z (λ n. machine.end_of_part fs t n k.place)) ts
    by_mark None e = tt
    by_mark (Some n) e = by_end n (mark_token k.token n e)

    by_operator : (o : Option (ℕ × BinaryOperator)) → operator k.token ≡ o → HoldsIf w (machine.operand_by o fs t k) ts
    by_operator None e = by_mark (machine.mark_of k.token) refl
    by_operator (Some (zero, op)) e = absurd (positive k.token op e)
    by_operator (Some (suc l, op)) e =
        let r = had_reduced w (k ∷ ts) (suc l) fs t h in far.operator_before r.chain e r.fit r.opened

    others : HoldsIf w (machine.operand_by (operator k.token) fs t k) ts
    others = by_operator (operator k.token) refl

    by_link : (z : Option Punctuator) → machine.mark_of k.token ≡ z → HoldsIf w (machine.link_by z fs t k) ts
    by_link None e = others
    by_link (Some m.Dot) e = dot_read (mark_token k.token m.Dot e) h
    by_link (Some m.OpenSquare) e = square_read (mark_token k.token m.OpenSquare e) h
    by_link (Some _) e = others

-- ---- names

named_keeps : (w ts : List Placed) (fs : List Frame) (p : Place) (x : List ℕ) (k : Placed) → AfterName w fs (k ∷ ts) x p
    → HoldsIf w (machine.step (machine.named p x) fs k) ts
named_keeps w ts fs _ x k (name_read {k = f} e i o) = by_mark (machine.mark_of k.token) refl
  where
    others : HoldsIf w (machine.after_member fs (tree.ident f.place x) k) ts
    others = member_keeps w ts fs (tree.ident f.place x) k (had o (g.ident e i))

    by_mark : (z : Option Punctuator) → machine.mark_of k.token ≡ z
        → HoldsIf w (machine.round_by z (machine.opened, in_arguments f.place tree.no_trees x [] ∷ fs) (machine.after_member fs (tree.ident f.place x) k)) ts
    by_mark None h = others
    by_mark (Some m.OpenRound) h = new_call e i (mark_token k.token m.OpenRound h) o
    by_mark (Some _) h = others

field_keeps : (w ts : List Placed) (fs : List Frame) (t : Tree) (p : Place) (x : List ℕ) (k : Placed) → AfterField w fs (k ∷ ts) t x p
    → HoldsIf w (machine.step (machine.fielded t p x) fs k) ts
field_keeps w ts fs t _ x k (field_read {k = f} md e s h) = by_mark (machine.mark_of k.token) refl
  where
    others : HoldsIf w (machine.after_member fs (selected t false f.place x) k) ts
    others = member_keeps w ts fs (selected t false f.place x) k (had_link h (g.select md g.unmarked e s g.no_link))

    by_mark : (z : Option Punctuator) → machine.mark_of k.token ≡ z
        → HoldsIf w (machine.round_by z (machine.opened, in_arguments (place_of t) (tree.tree_and t tree.no_trees) x [] ∷ fs)
        (machine.after_member fs (selected t false f.place x) k)) ts
    by_mark None q = others
    by_mark (Some m.OpenRound) q = new_method h.member md e s (mark_token k.token m.OpenRound q) h.opened
    by_mark (Some _) q = others

dot_keeps : (w ts : List Placed) (fs : List Frame) (t : Tree) (k : Placed) → AfterDot w fs (k ∷ ts) t → HoldsIf w (machine.step (machine.dotted t) fs k) ts
dot_keeps w ts fs t k (dot_read md h) = by_mark (machine.mark_of k.token) refl
  where
    by_selector : (b : Bool) (x : List ℕ) → k.token ≡ word x → is_selector x ≡ b
        → HoldsIf w (if b then Some (machine.fielded t k.place x, fs) else None) ts
    by_selector true x e s = field_read md e s h
    by_selector false x e s = tt

    by_token : (z : Token) → k.token ≡ z → HoldsIf w (machine.field_by z k.place (λ x. (machine.fielded t k.place x, fs))) ts
    by_token (word x) e = by_selector (is_selector x) x e refl
    by_token (number q) e = tt
    by_token (quoted q) e = tt
    by_token (punctuator n) e = tt

    by_mark : (z : Option Punctuator) → machine.mark_of k.token ≡ z → HoldsIf w (machine.dot_by z fs t k) ts
    by_mark None e = by_token k.token refl
    by_mark (Some m.Question) e = marked_dot_read md (mark_token k.token m.Question e) h
    by_mark (Some _) e = by_token k.token refl

marked_dot_keeps : (w ts : List Placed) (fs : List Frame) (t : Tree) (k : Placed) → AfterMarkedDot w fs (k ∷ ts) t
    → HoldsIf w (machine.step (machine.dot_marked t) fs k) ts
marked_dot_keeps w ts fs t k (marked_dot_read md mq h) = by_token k.token refl
  where
    by_selector : (b : Bool) (x : List ℕ) → k.token ≡ word x → is_selector x ≡ b
        → HoldsIf w (if b then Some (machine.has (selected t true k.place x), fs) else None) ts
    by_selector true x e s = had_link h (g.select md (g.marked mq) e s g.no_link)
    by_selector false x e s = tt

    by_token : (z : Token) → k.token ≡ z → HoldsIf w (machine.field_by z k.place (λ x. (machine.has (selected t true k.place x), fs))) ts
    by_token (word x) e = by_selector (is_selector x) x e refl
    by_token (number q) e = tt
    by_token (quoted q) e = tt
    by_token (punctuator n) e = tt

square_keeps : (w ts : List Placed) (fs : List Frame) (t : Tree) (k : Placed) → AfterSquare w fs (k ∷ ts) t
    → HoldsIf w (machine.step (machine.indexed t) fs k) ts
square_keeps w ts fs t k (square_read mb h) = by_mark (machine.mark_of k.token) refl
  where
    others : HoldsIf w (machine.begin (in_index t false ∷ fs) k) ts
    others = begin_keeps w (in_index t false ∷ fs) k ts (far.index h.member mb g.unmarked h.opened)

    by_mark : (z : Option Punctuator) → machine.mark_of k.token ≡ z
        → HoldsIf w (machine.mark_by z (machine.needs, in_index t true ∷ fs) (machine.begin (in_index t false ∷ fs) k)) ts
    by_mark None e = others
    by_mark (Some m.Question) e = far.index h.member mb (g.marked (mark_token k.token m.Question e)) h.opened
    by_mark (Some _) e = others

-- ---- whole texts

pub step_keeps : (w ts : List Placed) (x : Mode) (fs : List Frame) (k : Placed) → Holds w x fs (k ∷ ts) → HoldsIf w (machine.step x fs k) ts
step_keeps w ts machine.needs fs k h = begin_keeps w fs k ts h
step_keeps w ts machine.opened fs k h = opened_keeps w fs k ts h
step_keeps w ts machine.more fs k h = more_keeps w fs k ts h
step_keeps w ts machine.ended fs k h = ended_keeps w fs k ts h
step_keeps w ts (machine.minus p) fs k h = minus_keeps w p fs k ts h
step_keeps w ts (machine.named p x) fs k h = named_keeps w ts fs p x k h
step_keeps w ts (machine.has t) fs k h = member_keeps w ts fs t k h
step_keeps w ts (machine.dotted t) fs k h = dot_keeps w ts fs t k h
step_keeps w ts (machine.dot_marked t) fs k h = marked_dot_keeps w ts fs t k h
step_keeps w ts (machine.fielded t p x) fs k h = field_keeps w ts fs t p x k h
step_keeps w ts (machine.indexed t) fs k h = square_keeps w ts fs t k h

some_same : {A : Type 0} {a b : A} → Some a ≡ Some b → a ≡ b
some_same e = cc

from_start : {w from : List Placed} {t : Tree} → Opened w [] from → Expression from [] t → Expression w [] t
from_start far.whole d = d

whole_by : (w : List Placed) (t u : Tree) (fs : List Frame) → Closed w (t, fs) [] → machine.if_whole (t, fs) ≡ Some u → Expression w [] u
whole_by w t u [] c e = let x = c refl in subst (λ z. Expression w [] z) (some_same e) (from_start x.1 x.2)
whole_by w t u (f ∷ fs) c e = absurd (cc)

member_whole : (w : List Placed) (fs : List Frame) (t u : Tree) → Had w fs t [] → machine.if_whole (closed fs t) ≡ Some u → Expression w [] u
member_whole w fs t u h e = whole_by w (closed fs t).0 u (closed fs t).1 (had_closed w [] fs t h) e

named_whole : (w : List Placed) (fs : List Frame) (p : Place) (x : List ℕ) (u : Tree) → AfterName w fs [] x p
    → machine.if_whole (closed fs (tree.ident p x)) ≡ Some u → Expression w [] u
named_whole w fs _ x u (name_read {k = f} e i o) h = member_whole w fs (tree.ident f.place x) u (had o (g.ident e i)) h

field_whole : (w : List Placed) (fs : List Frame) (t : Tree) (p : Place) (x : List ℕ) (u : Tree) → AfterField w fs [] t x p
    → machine.if_whole (closed fs (selected t false p x)) ≡ Some u → Expression w [] u
field_whole w fs t _ x u (field_read {k = f} md e s o) h =
    member_whole w fs (selected t false f.place x) u (had_link o (g.select md g.unmarked e s g.no_link)) h

end_whole : (w : List Placed) (x : Mode) (fs : List Frame) (u : Tree) → Holds w x fs [] → machine.end x fs ≡ Some u → Expression w [] u
end_whole w machine.needs fs u h e = absurd (cc)
end_whole w machine.opened fs u h e = absurd (cc)
end_whole w machine.more fs u h e = absurd (cc)
end_whole w machine.ended fs u h e = absurd (cc)
end_whole w (machine.minus p) fs u h e = absurd (cc)
end_whole w (machine.named p x) fs u h e = named_whole w fs p x u h e
end_whole w (machine.has t) fs u h e = member_whole w fs t u h e
end_whole w (machine.dotted t) fs u h e = absurd (cc)
end_whole w (machine.dot_marked t) fs u h e = absurd (cc)
end_whole w (machine.fielded t p x) fs u h e = field_whole w fs t p x u h e
end_whole w (machine.indexed t) fs u h e = absurd (cc)

run_sound : (w ts : List Placed) (x : Mode) (fs : List Frame) (u : Tree) → Holds w x fs ts → runs x fs ts ≡ Some u → Expression w [] u
run_sound w [] x fs u h e = end_whole w x fs u h e
run_sound w (k ∷ ts) x fs u h e = by_state (λ s. run_sound w ts s.0 s.1 u) (machine.step x fs k) (step_keeps w ts x fs k h) e
  where
    by_state : ((s : State) → Holds w s.0 s.1 ts → runs s.0 s.1 ts ≡ Some u → Expression w [] u)
        → (o : Option State) → HoldsIf w o ts → ends o ts ≡ Some u → Expression w [] u
    by_state go None h e = absurd (cc)
    by_state go (Some s) h e = go s h e

-- The tree that is read from tokens is one that they derive.
pub sound : (ts : List Placed) (t : Tree) → machine.read ts ≡ Some t → Expression ts [] t
sound ts t e = run_sound ts ts machine.needs [] t far.whole e
