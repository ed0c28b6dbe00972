-- The grammar derives whatever the parser reads.
use Rattle.std.proofs.Common.{◌≡◌, ℕ, suc, zero, ◌+◌, ◌≤◌, refl, sym, subst, arith, Bool, true, false, Option, Some, None, List, [], ◌∷◌, drop, cond, ◌&&◌, ◌⊎◌, inl, inr, add-one, add-zero}
use Rattle.std.specs.Prelude.{nat_le, nat_eq, max, if◌then◌else◌}
use Rattle.std.proofs.lemmas.Bool.{leb-true}
use Rattle.std.proofs.lemmas.Bool.Decides.{nat_tests}
use Rattle.cel_value.specs.Data.{Data}
use Rattle.cel_syntax_lexer.specs.declared.punctuator.Punctuator.{Punctuator}
use Rattle.cel_syntax_lexer.specs.declared.punctuator.Punctuator.TheVariants as m
use Rattle.cel_syntax_lexer.specs.Token.{Token, word, number, quoted, punctuator}
use Rattle.cel_syntax_ast.specs.Term as tree
use Rattle.cel_syntax_ast.specs.Term.{Term, terms_of, pairs_of}
use Rattle.cel_syntax_ast.specs.declared.expr.UnaryOperator.{UnaryOperator}
use Rattle.cel_syntax_ast.specs.declared.expr.UnaryOperator.TheVariants as u
use Rattle.cel_syntax_ast.specs.declared.expr.BinaryOperator.{BinaryOperator}
use Rattle.cel_syntax_lexer.specs.Literal.{takes_minus, literal_value}
use Rattle.cel_syntax_ast.specs.Words.{is_identifier, is_selector}
use Rattle.cel_syntax.specs.Operator.{sign, is_operator_before}
use Rattle.cel_syntax_ast.specs.Calls.{call_of, method_of, parts_level}
use Rattle.cel_syntax.specs.Grammar as g
use Rattle.cel_syntax.specs.Grammar.{OptionalComma, Expression, Chain, Prefixed, Signed, Member, Primary, Items, SomeItems, Entries, SomeEntries, Pair, Derives}
use Rattle.cel_syntax.specs.Ahead as ahead
use Rattle.cel_syntax.specs.Parser as p
use Rattle.cel_syntax.specs.Ahead.{sees, sees_sign, operator_at}
use Rattle.cel_syntax.specs.Parser.{Outcome, Parser, Found, and_then, slack, above}
use Rattle.cel_syntax.proofs.Steps.{and_then_some, sees_punctuator, above_some, operator_at_token}
use Rattle.cel_syntax.proofs.Rows.{Rows, last_row, more_rows, sound_items}

some_same : {A : Type 0} {a b : A} → Some a ≡ Some b → a ≡ b
some_same e = cc

pure_gives : {A : Type 0} (R : List Token → A → Type 0) (a x : A) (ts rest : List Token) → ◌≡◌ {A = Outcome A} (Some (a, ts)) (Some (x, rest)) → R ts a → R rest x
pure_gives {A} R a x ts rest e r = subst (λ (q : A × List Token). R q.1 q.0) (some_same e) r

above_gives : (R : List Token → Term → ℕ → Type 0) (limit l : ℕ) (t : Term) (ts : List Token) (x : Found) (rest : List Token)
    → above limit l t ts ≡ Some (x, rest) → R ts t (l + 1) → R rest x.0 x.1 × (x.1 ≤ limit + slack x.0)
above_gives R limit l t ts x rest e r =
    let h = above_some {t = t} limit l ts e in
    rw (h.0, ← h.1) (r, h.2)

with_branches : {A : Type 0} {y : A} (b : Bool) (o q : Option A) → cond b o q ≡ Some y → ((b ≡ true) × (o ≡ Some y)) ⊎ ((b ≡ false) × (q ≡ Some y))
with_branches true o q e = inl (refl, e)
with_branches false o q e = inr (refl, e)

both : (a b : Bool) → (a && b) ≡ true → (a ≡ true) × (b ≡ true)
both true b e = (refl, e)
both false b e = absurd (cc)

some_above : {x : Found} {rest : List Token} (limit l : ℕ) (o : Option Term) (ts : List Token) → p.above_if limit l o ts ≡ Some (x, rest)
    → (t : Term) × (o ≡ Some t) × (above limit l t ts ≡ Some (x, rest))
some_above limit l None ts e = absurd (cc)
some_above limit l (Some t) ts e = (t, refl, e)

some_call : {x : Found} {rest : List Token} (limit l : ℕ) (o : Option Term) (ts : List Token) → p.above_call limit l o ts ≡ Some (x, rest)
    → (t : Term) × (o ≡ Some t) × (above limit (parts_level t l) t ts ≡ Some (x, rest))
some_call limit l None ts e = absurd (cc)
some_call limit l (Some t) ts e = (t, refl, e)

-- a test that has to hold
when : {A : Type 0} {x : A} {rest : List Token} (b : Bool) (f : Parser A) (ts : List Token) → (if b then f else p.refuse) ts ≡ Some (x, rest)
    → (b ≡ true) × (f ts ≡ Some (x, rest))
when true f ts e = (refl, e)
when false f ts e = absurd (cc)

unless_none : {A : Type 0} {y : A} (b : Bool) (o : Option A) → cond b None o ≡ Some y → (b ≡ false) × (o ≡ Some y)
unless_none true o e = absurd (cc)
unless_none false o e = (refl, e)

when_some : {A : Type 0} {y : A} (b : Bool) (o : Option A) → cond b o None ≡ Some y → (b ≡ true) × (o ≡ Some y)
when_some true o e = (refl, e)
when_some false o e = absurd (cc)

with_operand : {A : Type 0} {y : A} (o : Option BinaryOperator) (a : Option A) (f : BinaryOperator → Option A) → p.by_operator o a f ≡ Some y
    → (a ≡ Some y) ⊎ ((op : BinaryOperator) × (o ≡ Some op) × (f op ≡ Some y))
with_operand None a f e = inl e
with_operand (Some op) a f e = inr (op, refl, e)

move_signed : {s : UnaryOperator} {ts us rest : List Token} {t v : Term} {l k : ℕ} → Signed s ts rest t l → ts ≡ us → t ≡ v → l ≡ k → Signed s us rest v k
move_signed d a b c = rw (← a, ← b, ← c) d

eaten_by : {A : Type 0} {x : A} {rest : List Token} (b : Bool) (f h : Parser A) (ts : List Token)
    → (if b then f else h) (if b then drop 1 ts else ts) ≡ Some (x, rest)
    → ((b ≡ true) × (f (drop 1 ts) ≡ Some (x, rest))) ⊎ ((b ≡ false) × (h ts ≡ Some (x, rest)))
eaten_by true f h ts e = inl (refl, e)
eaten_by false f h ts e = inr (refl, e)

-- a punctuator that may come, with one continuation for each case
eaten : {A : Type 0} {x : A} {rest : List Token} (k : Punctuator) (f h : Parser A) (ts : List Token)
    → (if sees k ts then f else h) (if sees k ts then drop 1 ts else ts) ≡ Some (x, rest)
    → ((mid : List Token) × (ts ≡ punctuator k ∷ mid) × (f mid ≡ Some (x, rest))) ⊎ (h ts ≡ Some (x, rest))
eaten k f h ts e = elim (eaten_by (sees k ts) f h ts e) [
  | inl y ↦ inl (drop 1 ts, sees_punctuator k ts y.0, y.1)
  | inr n ↦ inr n.1
]

expected_by : {A B : Type 0} {x : B} {rest : List Token} (b : Bool) (a : A) (f : A → Parser B) (ts : List Token)
    → and_then (cond b (Some (a, ts)) None) f ≡ Some (x, rest) → (b ≡ true) × (f a ts ≡ Some (x, rest))
expected_by true a f ts e = (refl, e)
expected_by false a f ts e = absurd (cc)

-- a punctuator that has to come
expected : {A : Type 0} {x : A} {rest : List Token} (k : Punctuator) (f : Parser A) (ts : List Token) → p.◌>>◌ (p.expect k) f ts ≡ Some (x, rest)
    → (mid : List Token) × (ts ≡ punctuator k ∷ mid) × (f mid ≡ Some (x, rest))
expected k f ts e = let h = expected_by (sees k ts) tt (λ _. f) (drop 1 ts) e in (drop 1 ts, sees_punctuator k ts h.0, h.1)

-- an optional comma
optional : (ts : List Token) → OptionalComma ts (ahead.after m.Comma ts)
optional ts = by_test (sees m.Comma ts) refl
  where
    by_test : (b : Bool) → sees m.Comma ts ≡ b → OptionalComma ts (if b then drop 1 ts else ts)
    by_test true is = rw (sees_punctuator m.Comma ts is) g.with_comma
    by_test false is = g.without

up_to_mark : {x : Found} {rest : List Token} (limit : ℕ) (k : Punctuator) (t : Term) (l : ℕ) (ts : List Token) → p.up_to_mark limit k t l ts ≡ Some (x, rest)
    → (end : List Token) × (ts ≡ punctuator k ∷ end) × (above limit l t end ≡ Some (x, rest))
unfolding p.up_to_mark
up_to_mark limit k t l ts e = expected k _ ts e

up_to_comma_and_mark : {x : Found} {rest : List Token} (limit : ℕ) (k : Punctuator) (t : Term) (l : ℕ) (ts : List Token) → p.up_to_comma_and_mark limit k t l ts ≡ Some (x, rest)
    → (end : List Token) × OptionalComma ts (punctuator k ∷ end) × (above limit l t end ≡ Some (x, rest))
unfolding p.up_to_comma_and_mark
up_to_comma_and_mark limit k t l ts e =
    let c = up_to_mark limit k t l (ahead.after m.Comma ts) e in
    (c.0, subst (λ z. OptionalComma ts z) c.1 (optional ts), c.2)

wrapped_some : {x : Found} {rest : List Token} (limit : ℕ) (s : UnaryOperator) (n : ℕ) (t : Term) (l : ℕ) (ts : List Token) → p.with_signs limit s n (t, l) ts ≡ Some (x, rest)
    → l ≤ limit + slack t → (◌≡◌ {A = Outcome Found} (Some ((p.wrap s n t, l + n), ts)) (Some (x, rest))) × (l + n ≤ limit + slack (p.wrap s n t))
unfolding p.with_signs p.wrap
wrapped_some limit s zero t l ts e h = rw add-zero (e, h)
wrapped_some limit s (suc n) t l ts e h =
    let no : nat_eq (suc n) 0 ≡ false = grind (arith, nat_tests) in
    let r = when_some (nat_le (l + suc n) limit) _ (rw no at e) in
    let fits : l + suc n ≤ limit = leb-true _ _ r.0 in
    (r.1, omega arith)

seen : (s : UnaryOperator) (k : Token) (ts : List Token) → sees_sign s (k ∷ ts) ≡ true → (k ∷ ts ≡ punctuator (sign s) ∷ ts) × (is_operator_before s ts ≡ true)
unfolding sees_sign
seen s k ts is = let h = both (sees (sign s) (k ∷ ts)) (is_operator_before s ts) is in (sees_punctuator (sign s) (k ∷ ts) h.0, h.1)

module _ (limit : ℕ) (sub : Parser Found)
    (below : (ts rest : List Token) (x : Found) → sub ts ≡ Some (x, rest) → Expression ts rest x.0 x.1) where
  items_of_rows : {ts rest : List Token} {us : List Term} {l : ℕ} → Rows sub ts rest us l → SomeItems ts rest us l
  items_of_rows (last_row e) = g.last_item (below _ _ _ e)
  items_of_rows (more_rows e first d) = g.more_items (below _ _ _ e) (items_of_rows d)

  items_sound : (ts rest : List Token) (x : List Term × ℕ) → p.items limit sub ts ≡ Some (x, rest) → Items ts rest x.0 x.1
  unfolding p.items
  items_sound ts rest x e = elim (sound_items sub ts rest x e) [
    | inl h ↦ pure_gives (λ rest x. Items ts rest x.0 x.1) ([], 0) x ts rest h g.no_items
    | inr d ↦ g.items (items_of_rows d)
  ]

  pair_sound : (ts rest : List Token) (x : (Term × Term) × ℕ) → p.pair limit sub ts ≡ Some (x, rest) → Pair ts rest x.0.0 x.0.1 x.1
  unfolding p.pair
  pair_sound ts rest x e =
      let a = and_then_some (sub ts) e in
      let colon = expected m.Colon _ a.1 a.3 in
      let b = and_then_some (sub colon.0) colon.2 in
      pure_gives (λ rest x. Pair ts rest x.0.0 x.0.1 x.1) ((a.0.0, b.0.0), max a.0.1 b.0.1) x b.1 rest b.3
      (g.pair (subst (λ z. Expression ts z a.0.0 a.0.1) colon.1 (below ts a.1 a.0 a.2)) (below colon.0 b.1 b.0 b.2))

  entries_of_rows : {ts rest : List Token} {ps : List (Term × Term)} {l : ℕ} → Rows (p.pair limit sub) ts rest ps l → SomeEntries ts rest ps l
  entries_of_rows (last_row e) = g.last_entry (pair_sound _ _ _ e)
  entries_of_rows (more_rows e first d) = g.more_entries (pair_sound _ _ _ e) (entries_of_rows d)

  entries_sound : (ts rest : List Token) (x : List (Term × Term) × ℕ) → p.entries limit sub ts ≡ Some (x, rest) → Entries ts rest x.0 x.1
  unfolding p.entries
  entries_sound ts rest x e = elim (sound_items (p.pair limit sub) ts rest x e) [
    | inl h ↦ pure_gives (λ rest x. Entries ts rest x.0 x.1) ([], 0) x ts rest h g.no_entries
    | inr d ↦ g.entries (entries_of_rows d)
  ]

  arguments_sound : (ts rest : List Token) (x : List Term × ℕ) → p.arguments limit sub ts ≡ Some (x, rest) → Items ts (punctuator m.CloseRound ∷ rest) x.0 x.1
  unfolding p.arguments
  arguments_sound ts rest x e =
      let r = and_then_some (p.items limit sub ts) e in
      let close = expected m.CloseRound _ r.1 r.3 in
      pure_gives (λ rest x. Items ts (punctuator m.CloseRound ∷ rest) x.0 x.1) r.0 x close.0 rest close.2
      (subst (λ z. Items ts z r.0.0 r.0.1) close.1 (items_sound ts r.1 r.0 r.2))

  -- the relation R holds of what a parser of trees reads
  abbrev Sound : (List Token → List Token → Term → ℕ → Type 0) → List Token → Outcome Found → Type 0
  Sound R ts o = (rest : List Token) (x : Found) → o ≡ Some (x, rest) → R ts rest x.0 x.1 × (x.1 ≤ limit + slack x.0)

  sound_pure : (R : List Token → List Token → Term → ℕ → Type 0) (ts rest : List Token) (t : Term) (l : ℕ) → R ts rest t l → l ≤ limit + slack t → Sound R ts (Some ((t, l), rest))
  sound_pure R ts rest t l d h end x e = pure_gives (λ end x. R ts end x.0 x.1 × (x.1 ≤ limit + slack x.0)) (t, l) x rest end e (d, h)

  sound_called : (w : List ℕ) (ts : List Token) → is_identifier w ≡ true → Sound (λ _. Primary (word w ∷ punctuator m.OpenRound ∷ ts)) ts (p.call_arguments limit sub w ts)
  unfolding p.call_arguments
  sound_called w ts free rest x e =
      let r = and_then_some (p.arguments limit sub ts) e in
      let t = some_call limit r.0.1 (call_of w r.0.0) r.1 r.3 in
      above_gives (λ end. Primary (word w ∷ punctuator m.OpenRound ∷ ts) end) limit (parts_level t.0 r.0.1) t.0 r.1 x rest t.2
      (g.call free (arguments_sound ts r.1 r.0 r.2) t.1)

  sound_named : (w : List ℕ) (ts : List Token) → Sound Primary (word w ∷ ts) (p.name_or_call limit sub w ts)
  unfolding p.name_or_call
  sound_named w ts rest x e =
      let free = when (is_identifier w) _ ts e in
      elim (eaten m.OpenRound _ _ ts free.1) [
        | inl y ↦ rw (y.1) (sound_called w y.0 free.0 rest x y.2)
        | inr h ↦ sound_pure Primary (word w ∷ ts) ts (tree.ident w) 0 (g.ident free.0) (omega arith) rest x h
      ]

  sound_round : (ts : List Token) → Sound Primary (punctuator m.OpenRound ∷ ts) (p.round limit sub ts)
  unfolding p.round
  sound_round ts rest x e =
      let r = and_then_some (sub ts) e in
      let close = up_to_mark limit m.CloseRound r.0.0 r.0.1 r.1 r.3 in
      above_gives (λ end. Primary (punctuator m.OpenRound ∷ ts) end) limit r.0.1 r.0.0 close.0 x rest close.2
      (g.round (subst (λ z. Expression ts z r.0.0 r.0.1) close.1 (below ts r.1 r.0 r.2)))

  sound_list : (ts : List Token) → Sound Primary (punctuator m.OpenSquare ∷ ts) (p.list limit sub ts)
  unfolding p.list
  sound_list ts rest x e =
      let r = and_then_some (p.items limit sub ts) e in
      let close = up_to_comma_and_mark limit m.CloseSquare (tree.list_of (terms_of r.0.0)) r.0.1 r.1 r.3 in
      above_gives (λ end. Primary (punctuator m.OpenSquare ∷ ts) end) limit r.0.1 (tree.list_of (terms_of r.0.0)) close.0 x rest close.2
      (g.list (items_sound ts r.1 r.0 r.2) close.1)

  sound_map : (ts : List Token) → Sound Primary (punctuator m.OpenBrace ∷ ts) (p.map limit sub ts)
  unfolding p.map
  sound_map ts rest x e =
      let r = and_then_some (p.entries limit sub ts) e in
      let close = up_to_comma_and_mark limit m.CloseBrace (tree.map_with (pairs_of r.0.0)) r.0.1 r.1 r.3 in
      above_gives (λ end. Primary (punctuator m.OpenBrace ∷ ts) end) limit r.0.1 (tree.map_with (pairs_of r.0.0)) close.0 x rest close.2
      (g.map (entries_sound ts r.1 r.0 r.2) close.1)

  negative_value : (k : Token) (ts : List Token) (v : Option Data) → takes_minus k ≡ true → literal_value true k ≡ v
      → Sound Primary (punctuator m.Minus ∷ k ∷ ts) (p.value_or limit sub v p.refuse ts)
  negative_value k ts None takes is rest x e = absurd (cc)
  negative_value k ts (Some v) takes is rest x e =
      sound_pure Primary (punctuator m.Minus ∷ k ∷ ts) ts (tree.literal v) 0 (g.negative takes is) (omega arith) rest x e

  sound_negative : (ts : List Token) → Sound Primary (punctuator m.Minus ∷ ts) (p.negative limit sub ts)
  unfolding p.negative
  sound_negative [] rest x e = absurd (cc)
  sound_negative (k ∷ ts) rest x e =
      let takes = when (takes_minus k) _ ts e in
      negative_value k ts (literal_value true k) takes.0 refl rest x takes.1

  sound_by : (k : Token) (ts : List Token) → Sound Primary (k ∷ ts) (p.primary_by limit sub k ts)
  sound_by (word w) ts rest x e = sound_named w ts rest x e
  sound_by (number ds) ts rest x e = absurd (cc)
  sound_by (quoted s) ts rest x e = absurd (cc)
  sound_by (punctuator m.OpenRound) ts rest x e = sound_round ts rest x e
  sound_by (punctuator m.OpenSquare) ts rest x e = sound_list ts rest x e
  sound_by (punctuator m.OpenBrace) ts rest x e = sound_map ts rest x e
  sound_by (punctuator m.Minus) ts rest x e = sound_negative ts rest x e
  sound_by (punctuator k) ts rest x e = absurd (cc)

  sound_value : (k : Token) (ts : List Token) (v : Option Data) → literal_value false k ≡ v → Sound Primary (k ∷ ts) (p.value_or limit sub v (p.primary_by limit sub k) ts)
  sound_value k ts None is rest x e = sound_by k ts rest x e
  sound_value k ts (Some v) is rest x e = sound_pure Primary (k ∷ ts) ts (tree.literal v) 0 (g.literal is) (omega arith) rest x e

  sound_primary : (ts : List Token) → Sound Primary ts (p.primary limit sub ts)
  unfolding p.primary
  sound_primary [] rest x e = absurd (cc)
  sound_primary (k ∷ ts) rest x e = sound_value k ts (literal_value false k) refl rest x e

  sound_method : (from ts : List Token) (t : Term) (l : ℕ) (w : List ℕ) → Member from (punctuator m.Dot ∷ word w ∷ punctuator m.OpenRound ∷ ts) t l → is_selector w ≡ true
      → Sound (λ _. Member from) from (p.method limit sub t l w ts)
  unfolding p.method
  sound_method from ts t l w d free rest x e =
      let r = and_then_some (p.arguments limit sub ts) e in
      let u = some_above limit (max l r.0.1) (method_of t w r.0.0) r.1 r.3 in
      above_gives (Member from) limit (max l r.0.1) u.0 r.1 x rest u.2 (g.method d free (arguments_sound ts r.1 r.0 r.2) u.1)

  sound_selected : (from ts : List Token) (t : Term) (l : ℕ) (w : List ℕ) → Member from (punctuator m.Dot ∷ word w ∷ ts) t l
      → Sound (λ _. Member from) from (p.selection_or_method limit sub t l w ts)
  unfolding p.selection_or_method
  sound_selected from ts t l w d rest x e =
      let free = when (is_selector w) _ ts e in
      elim (eaten m.OpenRound _ _ ts free.1) [
        | inl y ↦ sound_method from y.0 t l w (subst (λ z. Member from (punctuator m.Dot ∷ word w ∷ z) t l) y.1 d) free.0 rest x y.2
        | inr h ↦ above_gives (Member from) limit l (tree.select t w) ts x rest h (g.select d free.0)
      ]

  sound_field : (from ts : List Token) (t : Term) (l : ℕ) → Member from (punctuator m.Dot ∷ ts) t l → Sound (λ _. Member from) from (p.field limit sub t l ts)
  unfolding p.field
  sound_field from [] t l d rest x e = absurd (cc)
  sound_field from (word w ∷ ts) t l d rest x e = sound_selected from ts t l w d rest x e
  sound_field from (_ ∷ ts) t l d rest x e = absurd (cc)

  sound_index : (from ts : List Token) (t : Term) (l : ℕ) → Member from (punctuator m.OpenSquare ∷ ts) t l → Sound (λ _. Member from) from (p.index limit sub t l ts)
  unfolding p.index
  sound_index from ts t l d rest x e =
      let r = and_then_some (sub ts) e in
      let close = up_to_mark limit m.CloseSquare (tree.index t r.0.0) (max l r.0.1) r.1 r.3 in
      above_gives (Member from) limit (max l r.0.1) (tree.index t r.0.0) close.0 x rest close.2
      (g.index d (subst (λ z. Expression ts z r.0.0 r.0.1) close.1 (below ts r.1 r.0 r.2)))

  sound_links : (n : ℕ) (from ts : List Token) (t : Term) (l : ℕ) → Member from ts t l → l ≤ limit + slack t → Sound (λ _. Member from) from (p.links limit sub n t l ts)
  unfolding p.links
  sound_links zero from ts t l d h rest x e =
      let no_dot = unless_none (sees m.Dot ts) _ e in
      let no_square = unless_none (sees m.OpenSquare ts) _ no_dot.1 in
      sound_pure (λ _. Member from) from ts t l d h rest x no_square.1
  sound_links (suc n) from ts t l d h rest x e = elim (eaten m.Dot _ _ ts e) [
    | inl y ↦
        let r = and_then_some (p.field limit sub t l y.0) y.2 in
        let s = sound_field from y.0 t l (subst (λ z. Member from z t l) y.1 d) r.1 r.0 r.2 in
        sound_links n from r.1 r.0.0 r.0.1 s.0 s.1 rest x r.3
    | inr none ↦ elim (eaten m.OpenSquare _ _ ts none) [
      | inl y ↦
          let r = and_then_some (p.index limit sub t l y.0) y.2 in
          let s = sound_index from y.0 t l (subst (λ z. Member from z t l) y.1 d) r.1 r.0 r.2 in
          sound_links n from r.1 r.0.0 r.0.1 s.0 s.1 rest x r.3
      | inr end ↦ sound_pure (λ _. Member from) from ts t l d h rest x end
    ]
  ]

  sound_member : (ts : List Token) → Sound Member ts (p.member limit sub ts)
  unfolding p.member
  sound_member ts rest x e =
      let r = and_then_some (p.primary limit sub ts) e in
      let s = sound_primary ts r.1 r.0 r.2 in
      sound_links (limit + 1) ts r.1 r.0.0 r.0.1 (g.primary s.0) s.1 rest x r.3

  sound_signs : (s : UnaryOperator) (ts rest : List Token) (t : Term) (l : ℕ) → Member (ahead.signs s ts).1 rest t l → Signed s ts rest (p.wrap s (ahead.signs s ts).0 t) (l + (ahead.signs s ts).0)
  unfolding ahead.signs p.wrap
  sound_signs s [] rest t l d = rw add-zero (g.unsigned d)
  sound_signs s (k ∷ ts) rest t l d = by_test (sees_sign s (k ∷ ts)) refl (sound_signs s ts rest t l) d
    where
      by_test : (b : Bool) → sees_sign s (k ∷ ts) ≡ b
          → (Member (ahead.signs s ts).1 rest t l → Signed s ts rest (p.wrap s (ahead.signs s ts).0 t) (l + (ahead.signs s ts).0))
          → Member (if◌then◌else◌ {A = ℕ × List Token} b ((ahead.signs s ts).0 + 1, (ahead.signs s ts).1) (0, k ∷ ts)).1 rest t l
          → Signed s (k ∷ ts) rest (p.wrap s (if◌then◌else◌ {A = ℕ × List Token} b ((ahead.signs s ts).0 + 1, (ahead.signs s ts).1) (0, k ∷ ts)).0 t)
          (l + (if◌then◌else◌ {A = ℕ × List Token} b ((ahead.signs s ts).0 + 1, (ahead.signs s ts).1) (0, k ∷ ts)).0)
      by_test true is again d =
          let h = seen s k ts is in
          move_signed (g.signed_member h.1 (again d)) (sym h.0) (rw add-one) (omega arith)
      by_test false is again d = rw add-zero (g.unsigned d)

  sound_signed : (s : UnaryOperator) (ts : List Token) → Sound (Signed s) ts (p.signed_member limit sub s ts)
  unfolding p.signed_member
  sound_signed s ts rest x e =
      let r = and_then_some (p.member limit sub (ahead.signs s ts).1) e in
      let inside = sound_member (ahead.signs s ts).1 r.1 r.0 r.2 in
      let d = sound_signs s ts r.1 r.0.0 r.0.1 inside.0 in
      let w = wrapped_some limit s (ahead.signs s ts).0 r.0.0 r.0.1 r.1 r.3 inside.1 in
      sound_pure (Signed s) ts r.1 _ _ d w.1 rest x w.0

  sound_prefixed : (ts : List Token) → Sound Prefixed ts (p.unary_expression limit sub ts)
  unfolding p.unary_expression
  sound_prefixed ts rest x e = elim (with_branches (sees m.Not ts) (p.signed_member limit sub u.Not ts) (p.signed_member limit sub u.Negate ts) e) [
    | inl y ↦ let d = sound_signed u.Not ts rest x y.1 in (g.unary_expression d.0, d.1)
    | inr n ↦ let d = sound_signed u.Negate ts rest x n.1 in (g.unary_expression d.0, d.1)
  ]

  module _ (k : ℕ) (tighter : (ts : List Token) → Sound (Chain k) ts (p.chain limit sub k ts)) where
    sound_turns : (n : ℕ) (from ts : List Token) (t : Term) (l : ℕ) → Chain (suc k) from ts t l → l ≤ limit + slack t
        → Sound (λ _. Chain (suc k) from) from (p.turns limit sub (p.chain limit sub k) (suc k) n t l ts)
    unfolding p.turns
    sound_turns zero from ts t l d h rest x e = elim (with_operand (operator_at (suc k) ts) _ _ e) [
      | inl end ↦ sound_pure (λ _. Chain (suc k) from) from ts t l d h rest x end
      | inr y ↦ absurd (cc (y.2))
    ]
    sound_turns (suc n) from ts t l d h rest x e = elim (with_operand (operator_at (suc k) ts) _ _ e) [
      | inl end ↦ sound_pure (λ _. Chain (suc k) from) from ts t l d h rest x end
      | inr y ↦
          let o = operator_at_token (suc k) ts y.0 y.1 in
          let r = and_then_some (and_then (p.chain limit sub k (drop 1 ts)) (λ b. above limit (max l b.1) (tree.binary y.0 t b.0))) y.2 in
          let b = and_then_some (p.chain limit sub k (drop 1 ts)) r.2 in
          let longer = above_gives (Chain (suc k) from) limit (max l b.0.1) (tree.binary y.0 t b.0.0) b.1 r.0 r.1 b.3
          (g.binary (subst (λ z. Chain (suc k) from z t l) o.1 d) o.2 (tighter (drop 1 ts) b.1 b.0 b.2).0) in
          sound_turns n from r.1 r.0.0 r.0.1 longer.0 longer.1 rest x r.3
    ]

  sound_chain : (k : ℕ) (ts : List Token) → Sound (Chain k) ts (p.chain limit sub k ts)
  unfolding p.chain
  sound_chain zero ts rest x e = let d = sound_prefixed ts rest x e in (g.operand d.0, d.1)
  sound_chain (suc k) ts rest x e =
      let r = and_then_some (p.chain limit sub k ts) e in
      let s = sound_chain k ts r.1 r.0 r.2 in
      sound_turns k (sound_chain k) limit ts r.1 r.0.0 r.0.1 (g.tighter s.0) s.1 rest x r.3

  sound_branches : (from ts : List Token) (c : Term) (l : ℕ) → Chain 5 from (punctuator m.Question ∷ ts) c l → Sound (λ _. Expression from) from (p.branches limit sub c l ts)
  unfolding p.branches
  sound_branches from ts c l d rest x e =
      let a = and_then_some (p.chain limit sub 5 ts) e in
      let colon = expected m.Colon _ a.1 a.3 in
      let b = and_then_some (sub colon.0) colon.2 in
      let da = sound_chain 5 ts a.1 a.0 a.2 in
      above_gives (Expression from) limit (max l (max a.0.1 b.0.1)) (tree.conditional c a.0.0 b.0.0) b.1 x rest b.3
      (g.conditional d (subst (λ z. Chain 5 ts z a.0.0 a.0.1) colon.1 da.0) (below colon.0 b.1 b.0 b.2))

  sound_expression : (ts : List Token) → Sound Expression ts (p.expression limit sub ts)
  unfolding p.expression
  sound_expression ts rest x e =
      let c = and_then_some (p.chain limit sub 5 ts) e in
      let dc = sound_chain 5 ts c.1 c.0 c.2 in
      elim (eaten m.Question _ _ c.1 c.3) [
        | inl y ↦ sound_branches ts y.0 c.0.0 c.0.1 (subst (λ z. Chain 5 ts z c.0.0 c.0.1) y.1 dc.0) rest x y.2
        | inr h ↦ sound_pure Expression ts c.1 c.0.0 c.0.1 (g.plain dc.0) dc.1 rest x h
      ]

-- What is read is an expression of a level within the limit.
pub sound : (limit : ℕ) (ts rest : List Token) (x : Found) → p.expr limit ts ≡ Some (x, rest) → Expression ts rest x.0 x.1 × (x.1 ≤ limit + slack x.0)
unfolding p.expr
sound zero ts rest x e = sound_expression zero p.refuse (λ ts rest x e. absurd (cc)) ts rest x e
sound (suc limit) ts rest x e = sound_expression (suc limit) (p.expr limit) (λ ts rest x e. (sound limit ts rest x e).0) ts rest x e

pub sound_parse : (ts : List Token) (t : Term) → p.tree_of_tokens ts ≡ Some t → Derives ts t
unfolding p.tree_of_tokens
sound_parse ts t e = last_some (p.expr p.max_level ts) refl e
  where
    last_some : (o : Outcome Found) → p.expr p.max_level ts ≡ o → p.if_last o ≡ Some t → Derives ts t
    last_some None is e = absurd (cc)
    last_some (Some (x, [])) is e =
        let d = sound p.max_level ts [] x is in
        let fits = when_some (nat_le x.1 250) (Some x.0) e in
        let same : x.0 ≡ t = some_same fits.1 in
        rw (← same) (x.1, d.0, leb-true x.1 250 fits.0)
    last_some (Some (x, k ∷ ks)) is e = absurd (cc)
