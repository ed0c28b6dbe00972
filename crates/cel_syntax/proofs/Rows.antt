-- Items separated by commas, given a parser for one item.
use Rattle.std.proofs.Common.{◌≡◌, ℕ, suc, zero, ◌≤◌, refl, sym, ◌∙◌, ap, arith, Bool, true, false, Option, Some, List, [], ◌∷◌, ◌++◌, drop, cond, length, ◌&&◌, ◌⊎◌, inl, inr, append_assoc}
use Rattle.std.specs.Prelude.{max, not}
use Rattle.cel_syntax_lexer.specs.declared.punctuator.Punctuator.TheVariants as m
use Rattle.cel_syntax_lexer.specs.Token.{Token, punctuator}
use Rattle.cel_syntax.specs.Ahead.{same_punctuator, sees, sees_end, goes_on}
use Rattle.cel_syntax.specs.Parser.{Outcome, Parser, items_from, items_of}
use Rattle.cel_syntax.proofs.Steps.{and_then_some, sees_punctuator}

pub data Rows {A : Type 0} (item : Parser (A × ℕ)) : List Token → List Token → List A → ℕ → Type 0 where
  last_row : {ts rest : List Token} {a : A} {l : ℕ} → item ts ≡ Some ((a, l), rest) → Rows item ts rest (a ∷ []) l
  more_rows : {ts next rest : List Token} {a : A} {us : List A} {l lm : ℕ}
      → item ts ≡ Some ((a, l), punctuator m.Comma ∷ next) → sees_end next ≡ false → Rows item next rest us lm → Rows item ts rest (a ∷ us) (max l lm)

max_zero : (n : ℕ) → max 0 n ≡ n
max_zero n = omega arith

complete_rows : {A : Type 0} {item : Parser (A × ℕ)} {ts rest : List Token} {us : List A} {l : ℕ} → Rows item ts rest us l → goes_on rest ≡ false
    → (n : ℕ) (front : List A) (high : ℕ) → length us ≤ n → items_from item n front high ts ≡ Some ((front ++ us, max high l), rest)
unfolding items_from same_punctuator
complete_rows (last_row e) ends zero front high few = absurd (omega arith)
complete_rows (more_rows e first d) ends zero front high few = absurd (omega arith)
complete_rows (last_row e) ends (suc n) front high few = rw (e, ends)
complete_rows (more_rows {a = a} {us = us} {l = l} {lm = lm} e first d) ends (suc n) front high few =
    let there = complete_rows d ends n (front ++ a ∷ []) (max high l) (omega arith) in
    let m : max (max high l) lm ≡ max high (max l lm) = omega arith in
    rw (e, first) (there ∙ rw (append_assoc, m))

pub complete_items : {A : Type 0} {item : Parser (A × ℕ)} {ts rest : List Token} {us : List A} {l : ℕ} → Rows item ts rest us l → sees_end ts ≡ false
    → goes_on rest ≡ false → length us ≤ length ts → items_of item ts ≡ Some ((us, l), rest)
unfolding items_of
complete_items {ts} {l} d first ends few = rw (first, complete_rows d ends (length ts) [] 0 few, max_zero l)

pub no_items : {A : Type 0} (item : Parser (A × ℕ)) (ts : List Token) → sees_end ts ≡ true → items_of item ts ≡ Some (([], 0), ts)
unfolding items_of
no_items item ts h = rw h

pub start_items : {A : Type 0} (item : Parser (A × ℕ)) (ts : List Token) (n : ℕ) (us : List A) → sees_end ts ≡ false → n ≡ length ts → us ≡ []
    → items_of item ts ≡ items_from item n us 0 ts
unfolding items_of
start_items item ts n us h e z = rw (h, e, z)

record Listed {A : Type 0} (item : Parser (A × ℕ)) (ts rest : List Token) (front : List A) (high : ℕ) (x : List A × ℕ) : Type 0 where
  us : List A
  level : ℕ
  rows : Rows item ts rest us level
  all : front ++ us ≡ x.0
  highest : max high level ≡ x.1

some_same : {A : Type 0} {a b : A} → Some a ≡ Some b → a ≡ b
some_same e = cc

with_branches : {A : Type 0} {y : A} (b : Bool) (o q : Option A) → cond b o q ≡ Some y → ((b ≡ true) × (o ≡ Some y)) ⊎ ((b ≡ false) × (q ≡ Some y))
with_branches true o q e = inl (refl, e)
with_branches false o q e = inr (refl, e)

both_no : (a b : Bool) → (a && not b) ≡ true → (a ≡ true) × (b ≡ false)
both_no true false e = (refl, refl)
both_no true true e = absurd (cc)
both_no false b e = absurd (cc)

listed_last : {A : Type 0} (item : Parser (A × ℕ)) (front : List A) (high : ℕ) (a : A) (l : ℕ) (ts mid rest : List Token) (x : List A × ℕ)
    → item ts ≡ Some ((a, l), mid) → ◌≡◌ {A = Outcome (List A × ℕ)} (Some ((front ++ a ∷ [], max high l), mid)) (Some (x, rest)) → Listed item ts rest front high x
listed_last {A} item front high a l ts mid rest x e h =
    let s = some_same h in
    let end : mid ≡ rest = ap (λ (p : (List A × ℕ) × List Token). p.1) s in
    record {
      us = a ∷ [];
      level = l;
      rows = last_row (rw (← end) e);
      all = ap (λ (p : (List A × ℕ) × List Token). p.0.0) s;
      highest = ap (λ (p : (List A × ℕ) × List Token). p.0.1) s;
    }

sound_rows : {A : Type 0} (item : Parser (A × ℕ)) (n : ℕ) (front : List A) (high : ℕ) (ts rest : List Token) (x : List A × ℕ)
    → items_from item n front high ts ≡ Some (x, rest) → Listed item ts rest front high x
unfolding items_from
sound_rows item zero front high ts rest x e = absurd (cc)
sound_rows item (suc n) front high ts rest x e =
    let r = and_then_some (item ts) e in
    elim (with_branches (goes_on r.1) _ _ r.3) [
      | inl y ↦
          let comma = both_no (sees m.Comma r.1) (sees_end (drop 1 r.1)) y.0 in
          let q = sound_rows item n (front ++ r.0.0 ∷ []) (max high r.0.1) (drop 1 r.1) rest x y.1 in
          let here : item ts ≡ Some (r.0, punctuator m.Comma ∷ drop 1 r.1) = rw (← (sees_punctuator m.Comma r.1 comma.0)) (r.2) in
          record {
            us = r.0.0 ∷ q.us;
            level = max r.0.1 q.level;
            rows = more_rows here comma.1 q.rows;
            all = sym (append_assoc front (r.0.0 ∷ []) q.us) ∙ q.all;
            highest = omega (arith, q.highest);
          }
      | inr h ↦ listed_last item front high r.0.0 r.0.1 ts r.1 rest x r.2 h.1
    ]

move_rows : {A : Type 0} {item : Parser (A × ℕ)} {ts rest : List Token} {us vs : List A} {l k : ℕ} → Rows item ts rest us l → us ≡ vs → l ≡ k → Rows item ts rest vs k
move_rows d b c = rw (← b, ← c) d

pub sound_items : {A : Type 0} (item : Parser (A × ℕ)) (ts rest : List Token) (x : List A × ℕ) → items_of item ts ≡ Some (x, rest)
    → (◌≡◌ {A = Outcome (List A × ℕ)} (Some (([], 0), ts)) (Some (x, rest))) ⊎ Rows item ts rest x.0 x.1
unfolding items_of
sound_items item ts rest x e = elim (with_branches (sees_end ts) _ _ e) [
  | inl y ↦ inl (y.1)
  | inr h ↦
      let all = sound_rows item (length ts) [] 0 ts rest x h.1 in
      let level : all.level ≡ x.1 = omega (arith, all.highest) in
      inr (move_rows all.rows all.all level)
]
