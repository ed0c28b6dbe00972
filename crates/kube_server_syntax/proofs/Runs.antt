-- The steps of the machine by the tokens that it meets.
use Rattle.std.proofs.Common.{◌≡◌, ◌∙◌, ℕ, suc, ◌≤◌, refl, sym, ap, arith, Bool, true, false, ◌&&◌, if◌then◌else◌, Option, Some, None, List, [], ◌∷◌}
use Rattle.std.specs.Prelude.{nat_le, nat_lt, codes}
use Rattle.std.specs.Str.{bytes_eq}
use Rattle.std.proofs.lemmas.Bool.Decides.{nat_tests}
use Rattle.cel_syntax.specs.Token.{Token, word, number, quoted, punctuator}
use Rattle.cel_syntax.specs.Punctuator.{Punctuator}
use Rattle.cel_syntax.specs.Punctuator.TheVariants as m
use Rattle.cel_syntax.specs.BinaryOperator.{BinaryOperator}
use Rattle.cel_syntax.specs.BinaryOperator.TheVariants as b
use Rattle.cel_syntax.specs.UnaryOperator.{UnaryOperator}
use Rattle.cel_syntax.specs.Operator.{operator}
use Rattle.kube_server_syntax.specs.Machine.{Frame, in_round, in_list, in_key, in_value, in_arguments, in_index, after_sign, after_operator, after_question, after_colon, Mode, needs, named, has, fielded, State, step, steps, goes, tree_at_end, closed, reduced, signed, operated, chosen, selected, mark_of, link_by, operand_by, operator_by, after_member, round_by, end_of_part, question_by, colon_by, part_by_mark, if_mark}
use Rattle.kube_server_syntax.specs.Placed.{Placed}
use Rattle.kube_server_syntax.specs.Tree as tree
use Rattle.kube_server_syntax.specs.Tree.{Tree}
use Rattle.kube_server_syntax.specs.declared.node.Place.{Place}

-- ---- runs

-- the tree at the end of some tokens
abbrev pub ends : Option State → List Placed → Option Tree
ends o ts = tree_at_end (goes o (steps ts))

abbrev pub runs : Mode → List Frame → List Placed → Option Tree
runs m fs ts = ends (Some (m, fs)) ts

abbrev pub at : Token → Place → Placed
at z p = record { token = z; place = p }

-- A token that is z steps as z.
pub goes_to : (m : Mode) (fs : List Frame) (k : Placed) (ts : List Placed) (z : Token) (o : Option State) → k.token ≡ z
    → step m fs (at z k.place) ≡ o → runs m fs (k ∷ ts) ≡ ends o ts
goes_to m fs k ts z o e h = ap (λ (w : Token). ends (step m fs (at w k.place)) ts) e ∙ ap (λ p. ends p ts) h

-- ---- what may follow

abbrev pub link_free : Option Punctuator → Bool
link_free (Some m.Dot) = false
link_free (Some m.OpenSquare) = false
link_free (Some m.OpenRound) = false
link_free _ = true

abbrev pub round_free : Option Punctuator → Bool
round_free (Some m.OpenRound) = false
round_free _ = true

abbrev pub looser : ℕ → Option (ℕ × BinaryOperator) → Bool
looser l None = true
looser l (Some o) = nat_lt l o.0

abbrev pub token_follows : ℕ → Token → Bool
token_follows l t = link_free (mark_of t) && looser l (operator t)

-- neither a link nor an operator of this level or below comes next
abbrev pub follows : ℕ → List Placed → Bool
follows l [] = true
follows l (k ∷ ts) = token_follows l k.token

abbrev pub no_round : List Placed → Bool
no_round [] = true
no_round (k ∷ ts) = round_free (mark_of k.token)

abbrev pub is_stop : Option Punctuator → Bool
is_stop (Some m.CloseRound) = true
is_stop (Some m.CloseSquare) = true
is_stop (Some m.CloseBrace) = true
is_stop (Some m.Comma) = true
is_stop (Some m.Colon) = true
is_stop _ = false

-- the end of an expression comes next
abbrev pub stops : List Placed → Bool
stops [] = true
stops (k ∷ ts) = is_stop (mark_of k.token)

pub first_true : (a b : Bool) → (a && b) ≡ true → a ≡ true
first_true true b h = refl
first_true false b h = h

pub second_true : (a b : Bool) → (a && b) ≡ true → b ≡ true
second_true true b h = h
second_true false b h = absurd (cc)

pub both_true : (a b : Bool) → a ≡ true → b ≡ true → (a && b) ≡ true
both_true a b h g = ap (λ c. c && b) h ∙ g

looser_less : (k l : ℕ) (o : Option (ℕ × BinaryOperator)) → k ≤ l → looser l o ≡ true → looser k o ≡ true
looser_less k l None h g = refl
looser_less k l (Some o) h g = grind (arith, nat_tests)

pub follows_less : (k l : ℕ) (ts : List Placed) → k ≤ l → follows l ts ≡ true → follows k ts ≡ true
follows_less k l [] h g = refl
follows_less k l (t ∷ ts) h g = both_true (link_free (mark_of t.token)) (looser k (operator t.token))
    (first_true (link_free (mark_of t.token)) (looser l (operator t.token)) g)
    (looser_less k l (operator t.token) h (second_true (link_free (mark_of t.token)) (looser l (operator t.token)) g))

stop_follows : (l : ℕ) (t : Token) → is_stop (mark_of t) ≡ true → token_follows l t ≡ true
stop_follows l (word x) h = absurd (cc)
stop_follows l (number s) h = absurd (cc)
stop_follows l (quoted s) h = absurd (cc)
stop_follows l (punctuator m.CloseRound) h = refl
stop_follows l (punctuator m.CloseSquare) h = refl
stop_follows l (punctuator m.CloseBrace) h = refl
stop_follows l (punctuator m.Comma) h = refl
stop_follows l (punctuator m.Colon) h = refl
stop_follows l (punctuator _) h = absurd (cc)

pub stops_follow : (l : ℕ) (ts : List Placed) → stops ts ≡ true → follows l ts ≡ true
stops_follow l [] h = refl
stops_follow l (k ∷ ts) h = stop_follows l k.token h

free_round : (o : Option Punctuator) → link_free o ≡ true → round_free o ≡ true
free_round None h = refl
free_round (Some m.OpenRound) h = h
free_round (Some _) h = refl

pub follows_no_round : (l : ℕ) (ts : List Placed) → follows l ts ≡ true → no_round ts ≡ true
follows_no_round l [] h = refl
follows_no_round l (k ∷ ts) h = free_round (mark_of k.token) (first_true (link_free (mark_of k.token)) (looser l (operator k.token)) h)

-- an operator is no link, and of a level up to 5
pub operator_free : (t : Token) (l : ℕ) (op : BinaryOperator) → operator t ≡ Some (l, op) → link_free (mark_of t) ≡ true
operator_free (word x) l op h = refl
operator_free (number s) l op h = refl
operator_free (quoted s) l op h = refl
operator_free (punctuator m.Dot) l op h = absurd (cc)
operator_free (punctuator m.OpenSquare) l op h = absurd (cc)
operator_free (punctuator m.OpenRound) l op h = absurd (cc)
operator_free (punctuator _) l op h = refl

same_level : (j l : ℕ) (o op : BinaryOperator) → ◌≡◌ {A = Option (ℕ × BinaryOperator)} (Some (j, o)) (Some (l, op)) → j ≡ l
same_level j l o op h = ap (λ (q : Option (ℕ × BinaryOperator)). level_in q) h
  where
    level_in : Option (ℕ × BinaryOperator) → ℕ
    level_in None = 0
    level_in (Some p) = p.0

level_of_word : (is : Bool) (l : ℕ) (op : BinaryOperator)
    → ◌≡◌ {A = Option (ℕ × BinaryOperator)} (if is then Some (3, b.In) else None) (Some (l, op)) → (1 ≤ l) × (l ≤ 5)
level_of_word true l op h = let e : 3 ≡ l = same_level 3 l _ op h in (omega arith, omega arith)
level_of_word false l op h = absurd (cc)

-- The levels of operators are 1 to 5.
pub operator_levels : (t : Token) (l : ℕ) (op : BinaryOperator) → operator t ≡ Some (l, op) → (1 ≤ l) × (l ≤ 5)
operator_levels (word x) l op h = level_of_word (bytes_eq x (codes "in")) l op h
operator_levels (number s) l op h = absurd (cc)
operator_levels (quoted s) l op h = absurd (cc)
operator_levels (punctuator m.Star) l op h = let e : 1 ≡ l = same_level 1 l _ op h in (omega arith, omega arith)
operator_levels (punctuator m.Slash) l op h = let e : 1 ≡ l = same_level 1 l _ op h in (omega arith, omega arith)
operator_levels (punctuator m.Percent) l op h = let e : 1 ≡ l = same_level 1 l _ op h in (omega arith, omega arith)
operator_levels (punctuator m.Plus) l op h = let e : 2 ≡ l = same_level 2 l _ op h in (omega arith, omega arith)
operator_levels (punctuator m.Minus) l op h = let e : 2 ≡ l = same_level 2 l _ op h in (omega arith, omega arith)
operator_levels (punctuator m.Less) l op h = let e : 3 ≡ l = same_level 3 l _ op h in (omega arith, omega arith)
operator_levels (punctuator m.LessOrEqual) l op h = let e : 3 ≡ l = same_level 3 l _ op h in (omega arith, omega arith)
operator_levels (punctuator m.Greater) l op h = let e : 3 ≡ l = same_level 3 l _ op h in (omega arith, omega arith)
operator_levels (punctuator m.GreaterOrEqual) l op h = let e : 3 ≡ l = same_level 3 l _ op h in (omega arith, omega arith)
operator_levels (punctuator m.Equal) l op h = let e : 3 ≡ l = same_level 3 l _ op h in (omega arith, omega arith)
operator_levels (punctuator m.NotEqual) l op h = let e : 3 ≡ l = same_level 3 l _ op h in (omega arith, omega arith)
operator_levels (punctuator m.And) l op h = let e : 4 ≡ l = same_level 4 l _ op h in (omega arith, omega arith)
operator_levels (punctuator m.Or) l op h = let e : 5 ≡ l = same_level 5 l _ op h in (omega arith, omega arith)
operator_levels (punctuator _) l op h = absurd (cc)

pub operator_level : (t : Token) (l : ℕ) (op : BinaryOperator) → operator t ≡ Some (l, op) → l ≤ 5
operator_level t l op h = (operator_levels t l op h).1

-- ---- names

round_by_free : (o : Option Punctuator) (s : State) (p : Option State) → round_free o ≡ true → round_by o s p ≡ p
round_by_free None s p h = refl
round_by_free (Some m.OpenRound) s p h = absurd (cc)
round_by_free (Some _) s p h = refl

-- An identifier without a bracket behind it is a member.
pub named_runs : (p : Place) (x : List ℕ) (fs : List Frame) (ts : List Placed) → no_round ts ≡ true
    → runs (named p x) fs ts ≡ runs (has (tree.ident p x)) fs ts
named_runs p x fs [] h = refl
named_runs p x fs (k ∷ ts) h = ap (λ o. ends o ts) (round_by_free (mark_of k.token) _ (after_member fs (tree.ident p x) k) h)

-- and so is a selection
pub fielded_runs : (t : Tree) (p : Place) (x : List ℕ) (fs : List Frame) (ts : List Placed) → no_round ts ≡ true
    → runs (fielded t p x) fs ts ≡ runs (has (selected t false p x)) fs ts
fielded_runs t p x fs [] h = refl
fielded_runs t p x fs (k ∷ ts) h = ap (λ o. ends o ts) (round_by_free (mark_of k.token) _ (after_member fs (selected t false p x) k) h)

-- ---- what waits for an operand

-- what follows a member that isn't a link
pub link_by_free : (o : Option Punctuator) (fs : List Frame) (t : Tree) (k : Placed) → link_free o ≡ true
    → link_by o fs t k ≡ operand_by (operator k.token) fs t k
link_by_free None fs t k h = refl
link_by_free (Some m.Dot) fs t k h = absurd (cc)
link_by_free (Some m.OpenSquare) fs t k h = absurd (cc)
link_by_free (Some _) fs t k h = refl

-- whether an operand with the operators up to a level stays, in front of what waits
abbrev pub fits : ℕ → List Frame → Bool
fits l [] = true
fits l (after_sign s p ∷ fs) = false
fits l (after_operator a op k ∷ fs) = nat_lt l k
fits l (f ∷ fs) = true

stays_by : (b : Bool) (r s : Tree × List Frame) → b ≡ false → (if b then r else s) ≡ s
stays_by true r s h = absurd (cc)
stays_by false r s h = refl

pub stays : (l : ℕ) (fs : List Frame) (t : Tree) → fits l fs ≡ true → reduced l fs t ≡ (t, fs)
stays l [] t h = refl
stays l (after_sign s p ∷ fs) t h = absurd (cc)
stays l (after_operator a op k ∷ fs) t h =
    stays_by (nat_le k l) (reduced l fs (operated a op t)) (t, after_operator a op k ∷ fs) (grind (arith, nat_tests))
stays l (in_round p ∷ fs) t h = refl
stays l (in_list p is o ∷ fs) t h = refl
stays l (in_key p es o ∷ fs) t h = refl
stays l (in_value p es o a ∷ fs) t h = refl
stays l (in_arguments p a x us ∷ fs) t h = refl
stays l (in_index a o ∷ fs) t h = refl
stays l (after_question c ∷ fs) t h = refl
stays l (after_colon c a ∷ fs) t h = refl

pub fits_less : (k l : ℕ) (fs : List Frame) → k ≤ l → fits l fs ≡ true → fits k fs ≡ true
fits_less k l [] h g = refl
fits_less k l (after_sign s p ∷ fs) h g = g
fits_less k l (after_operator a op j ∷ fs) h g = grind (arith, nat_tests)
fits_less k l (in_round p ∷ fs) h g = refl
fits_less k l (in_list p is o ∷ fs) h g = refl
fits_less k l (in_key p es o ∷ fs) h g = refl
fits_less k l (in_value p es o a ∷ fs) h g = refl
fits_less k l (in_arguments p a x us ∷ fs) h g = refl
fits_less k l (in_index a o ∷ fs) h g = refl
fits_less k l (after_question c ∷ fs) h g = refl
fits_less k l (after_colon c a ∷ fs) h g = refl

-- whether an expression may stand there
abbrev pub opens : List Frame → Bool
opens [] = true
opens (after_sign s p ∷ fs) = false
opens (after_operator a op k ∷ fs) = false
opens (after_question c ∷ fs) = false
opens (f ∷ fs) = true

pub opens_fits : (l : ℕ) (fs : List Frame) → opens fs ≡ true → fits l fs ≡ true
opens_fits l [] h = refl
opens_fits l (after_sign s p ∷ fs) h = h
opens_fits l (after_operator a op k ∷ fs) h = absurd (cc)
opens_fits l (after_question c ∷ fs) h = refl
opens_fits l (in_round p ∷ fs) h = refl
opens_fits l (in_list p is o ∷ fs) h = refl
opens_fits l (in_key p es o ∷ fs) h = refl
opens_fits l (in_value p es o a ∷ fs) h = refl
opens_fits l (in_arguments p a x us ∷ fs) h = refl
opens_fits l (in_index a o ∷ fs) h = refl
opens_fits l (after_colon c a ∷ fs) h = refl

pub asks : (fs : List Frame) (t : Tree) → opens fs ≡ true → question_by (t, fs) ≡ Some (needs, after_question t ∷ fs)
asks [] t h = refl
asks (after_sign s p ∷ fs) t h = absurd (cc)
asks (after_operator a op k ∷ fs) t h = absurd (cc)
asks (after_question c ∷ fs) t h = absurd (cc)
asks (in_round p ∷ fs) t h = refl
asks (in_list p is o ∷ fs) t h = refl
asks (in_key p es o ∷ fs) t h = refl
asks (in_value p es o a ∷ fs) t h = refl
asks (in_arguments p a x us ∷ fs) t h = refl
asks (in_index a o ∷ fs) t h = refl
asks (after_colon c a ∷ fs) t h = refl

pub separates : (fs : List Frame) (t : Tree) (q : Place) → opens fs ≡ true → colon_by (t, fs) q ≡ part_by_mark (closed fs t) m.Colon q
separates [] t q h = refl
separates (after_sign s p ∷ fs) t q h = absurd (cc)
separates (after_operator a op k ∷ fs) t q h = absurd (cc)
separates (after_question c ∷ fs) t q h = absurd (cc)
separates (in_round p ∷ fs) t q h = refl
separates (in_list p is o ∷ fs) t q h = refl
separates (in_key p es o ∷ fs) t q h = refl
separates (in_value p es o a ∷ fs) t q h = refl
separates (in_arguments p a x us ∷ fs) t q h = refl
separates (in_index a o ∷ fs) t q h = refl
separates (after_colon c a ∷ fs) t q h = refl

-- ---- operands that take in what waits for them

-- a sign
pub sign_taken : (s : UnaryOperator) (p : Place) (fs : List Frame) (t : Tree) (ts : List Placed) → follows 0 ts ≡ true
    → runs (has t) (after_sign s p ∷ fs) ts ≡ runs (has (signed s p t)) fs ts
sign_taken s p fs t [] h = refl
sign_taken s p fs t (k ∷ ts) h =
    let free = first_true (link_free (mark_of k.token)) (looser 0 (operator k.token)) h in
    ap (λ o. ends o ts) (link_by_free (mark_of k.token) (after_sign s p ∷ fs) t k free
    ∙ by_operator (operator k.token) ∙ sym (link_by_free (mark_of k.token) fs (signed s p t) k free))
  where
    by_mark : (n : Punctuator) → end_of_part (after_sign s p ∷ fs) t n k.place ≡ end_of_part fs (signed s p t) n k.place
    by_mark m.Question = refl
    by_mark m.Colon = refl
    by_mark _ = refl

    by_token : (z : Option Punctuator) → if_mark z (λ n. end_of_part (after_sign s p ∷ fs) t n k.place)
        ≡ if_mark z (λ n. end_of_part fs (signed s p t) n k.place)
    by_token None = refl
    by_token (Some n) = by_mark n

    by_operator : (o : Option (ℕ × BinaryOperator)) → operand_by o (after_sign s p ∷ fs) t k ≡ operand_by o fs (signed s p t) k
    by_operator None = by_token (mark_of k.token)
    by_operator (Some o) = refl

-- an operator, if no operator that binds more tightly follows
pub operator_taken : (a : Tree) (op : BinaryOperator) (l : ℕ) (fs : List Frame) (t : Tree) (ts : List Placed) → suc l ≤ 5
    → follows l ts ≡ true → runs (has t) (after_operator a op (suc l) ∷ fs) ts ≡ runs (has (operated a op t)) fs ts
operator_taken a op l fs t [] within h = refl
operator_taken a op l fs t (k ∷ ts) within h =
    let free = first_true (link_free (mark_of k.token)) (looser l (operator k.token)) h in
    let loose = second_true (link_free (mark_of k.token)) (looser l (operator k.token)) h in
    ap (λ o. ends o ts) (link_by_free (mark_of k.token) (after_operator a op (suc l) ∷ fs) t k free
    ∙ by_operator (operator k.token) loose ∙ sym (link_by_free (mark_of k.token) fs (operated a op t) k free))
  where
    taken_by : (c : Bool) (r s : Tree × List Frame) → c ≡ true → (if c then r else s) ≡ r
    taken_by true r s h = refl
    taken_by false r s h = absurd (cc)

    taken : (j : ℕ) → suc l ≤ j → reduced j (after_operator a op (suc l) ∷ fs) t ≡ reduced j fs (operated a op t)
    taken j g = taken_by (nat_le (suc l) j) (reduced j fs (operated a op t)) (t, after_operator a op (suc l) ∷ fs) (grind (arith, nat_tests))

    by_mark : (n : Punctuator) → end_of_part (after_operator a op (suc l) ∷ fs) t n k.place ≡ end_of_part fs (operated a op t) n k.place
    by_mark m.Question = ap question_by (taken 5 within)
    by_mark m.Colon = ap (λ r. colon_by r k.place) (taken 5 within)
    by_mark _ = refl

    by_token : (z : Option Punctuator) → if_mark z (λ n. end_of_part (after_operator a op (suc l) ∷ fs) t n k.place)
        ≡ if_mark z (λ n. end_of_part fs (operated a op t) n k.place)
    by_token None = refl
    by_token (Some n) = by_mark n

    by_operator : (o : Option (ℕ × BinaryOperator)) → looser l o ≡ true
        → operand_by o (after_operator a op (suc l) ∷ fs) t k ≡ operand_by o fs (operated a op t) k
    by_operator None g = by_token (mark_of k.token)
    by_operator (Some o) g =
        let less : suc l ≤ o.0 = grind (arith, nat_tests) in
        ap (λ (r : Tree × List Frame). Some (operator_by o.0 o.1 r)) (taken o.0 less)

-- a condition with its first branch, at the end of an expression
pub colon_taken : (c a : Tree) (fs : List Frame) (t : Tree) (ts : List Placed) → opens fs ≡ true → stops ts ≡ true
    → runs (has t) (after_colon c a ∷ fs) ts ≡ runs (has (chosen c a t)) fs ts
colon_taken c a fs t [] o h = refl
colon_taken c a fs t (k ∷ ts) o h = ap (λ p. ends p ts) (by_token k.token h)
  where
    by_colon : colon_by (reduced 5 (after_colon c a ∷ fs) t) k.place ≡ colon_by (reduced 5 fs (chosen c a t)) k.place
    by_colon = sym (ap (λ r. colon_by r k.place) (stays 5 fs (chosen c a t) (opens_fits 5 fs o)) ∙ separates fs (chosen c a t) k.place o)

    by_token : (z : Token) → is_stop (mark_of z) ≡ true → after_member (after_colon c a ∷ fs) t (at z k.place) ≡ after_member fs (chosen c a t) (at z k.place)
    by_token (word x) g = absurd (cc)
    by_token (number s) g = absurd (cc)
    by_token (quoted s) g = absurd (cc)
    by_token (punctuator m.CloseRound) g = refl
    by_token (punctuator m.CloseSquare) g = refl
    by_token (punctuator m.CloseBrace) g = refl
    by_token (punctuator m.Comma) g = refl
    by_token (punctuator m.Colon) g = by_colon
    by_token (punctuator _) g = absurd (cc)
