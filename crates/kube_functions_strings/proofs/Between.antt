-- The text around an offset, and the first and last offset of a part in a text.
use Rattle.std.proofs.Common.{◌≡◌, ℕ, zero, suc, ◌+◌, ◌<◌, ◌≤◌, min, arith, List, [], ◌∷◌, length, take, drop, Bool, true, false, cond, Option, Some, None, ℤ, pos, refl, sym, ap, ◌∙◌, subst, leb-true, leb-false, eqb-true}
use Rattle.std.specs.Prelude.{nat_le, ◌==◌}
use Rattle.std.specs.Option.{unwrap_or}
use Rattle.std.specs.Str.{chars, encode_utf8_all, IsUtf8}
use Rattle.std.proofs.lemmas.List.{nil_from_length}
use Rattle.std.proofs.lemmas.Str.{encodes-chars, length-le-encodes}
use Rattle.kube_functions_strings.specs.Cuts.{around_offset, StandsFirst, StandsLast, StandsNowhere}
use Rattle.kube_functions_strings.specs.Offsets.{stands_at, offset_from, greatest_below, at_least_zero, offsets_up_to, or_no_offset, first_index, last_index}
use Rattle.kube_functions_strings.proofs.Standing.{found_behind, nowhere_behind, last_found, last_nowhere}

pub is_around : (cs xs ys : List ℕ) (k : ℕ) → Some (xs, ys) ≡ around_offset cs k → (k ≤ length cs) × (xs ≡ take k cs) × (ys ≡ drop k cs)
is_around cs xs ys k h = at (nat_le k (length cs)) refl
  where
    at : (b : Bool) → nat_le k (length cs) ≡ b → (k ≤ length cs) × (xs ≡ take k cs) × (ys ≡ drop k cs)
    at true e =
        let same : Some (xs, ys) ≡ Some (take k cs, drop k cs) = h ∙ ap (λ b. cond b (Some (take k cs, drop k cs)) None) e in
        let both : (xs, ys) ≡ (take k cs, drop k cs) = ap (λ o. unwrap_or o (xs, ys)) same in
        (leb-true k (length cs) e, ap (λ p. p.0) both, ap (λ p. p.1) both)
    at false e = let none : ◌≡◌ {A = Option (List ℕ × List ℕ)} (Some (xs, ys)) None = h ∙ ap (λ b. cond b (Some (take k cs, drop k cs)) None) e in absurd (cc)

pub none_around : (cs : List ℕ) (k : ℕ) → None ≡ around_offset cs k → length cs < k
none_around cs k h = at (nat_le k (length cs)) refl
  where
    at : (b : Bool) → nat_le k (length cs) ≡ b → length cs < k
    at true e = let some : ◌≡◌ {A = Option (List ℕ × List ℕ)} None (Some (take k cs, drop k cs)) = h ∙ ap (λ b. cond b (Some (take k cs, drop k cs)) None) e in absurd (cc)
    at false e = leb-false k (length cs) e

-- ---- the length of a text

pub few_characters : (s : List ℕ) → IsUtf8 s → length (chars s) ≤ length s
few_characters s u = omega (arith, length-le-encodes (chars s), ap length (encodes-chars s u))

pub some_characters : (s : List ℕ) → IsUtf8 s → 0 < length s → 0 < length (chars s)
some_characters s u some = at (chars s) refl
  where
    at : (cs : List ℕ) → chars s ≡ cs → 0 < length (chars s)
    at [] e = let none : [] ≡ s = sym (ap encode_utf8_all e) ∙ encodes-chars s u in absurd (omega (arith, ap length none))
    at (c ∷ cs) e = omega (arith, ap length e)

pub no_characters : (s : List ℕ) → IsUtf8 s → length s ≡ 0 → chars s ≡ []
no_characters s u none = nil_from_length (chars s) (omega (arith, few_characters s u))

pub no_bytes : (b : Bool) (n : ℕ) → b ≡ (n == 0) → b ≡ true → n ≡ 0
no_bytes b n e h = eqb-true n 0 (sym e ∙ h)

pub some_bytes : (b : Bool) (n : ℕ) → b ≡ (n == 0) → b ≡ false → 0 < n
some_bytes b zero e h = absurd (cc)
some_bytes b (suc n) e h = omega arith

-- ---- the first offset of a part and the last one

pub offset_found : (cs part rs xs before behind : List ℕ) (k count : ℕ) → Some (xs, rs) ≡ around_offset cs k → StandsFirst 0 rs part before behind → count ≡ length before → (Some (k + count) ≡ offset_from cs part k) × (k + count ≤ length cs)
offset_found cs part rs xs before behind k count is h e =
    let around = is_around cs xs rs k is in
    let found = found_behind cs part before behind k around.0 (subst (λ l. StandsFirst 0 l part before behind) around.2 h) in
    (ap (λ n. Some (k + n)) e ∙ found.0, omega (arith, found.1))

pub offset_missing : (cs part rs xs : List ℕ) (k : ℕ) → Some (xs, rs) ≡ around_offset cs k → StandsNowhere 0 rs part → None ≡ offset_from cs part k
offset_missing cs part rs xs k is h = nowhere_behind cs part k (subst (λ l. StandsNowhere 0 l part) (is_around cs xs rs k is).2 h)

pub last_offset_found : (cs part ts before behind : List ℕ) (most n count : ℕ) → ts ≡ take (most + n) cs → n ≡ length part → 0 < length part → StandsLast ts part before behind → count ≡ length before
    → (Some count ≡ greatest_below (stands_at cs part) (suc (min most (length cs)))) × (count ≤ length cs)
last_offset_found cs part ts before behind most n count front e some h same =
    let found = last_found cs part before behind most some (subst (λ l. StandsLast l part before behind) (front ∙ ap (λ j. take (most + j) cs) e) h) in
    (ap Some same ∙ found.0, omega (arith, found.1))

pub last_offset_missing : (cs part ts : List ℕ) (most n : ℕ) → ts ≡ take (most + n) cs → n ≡ length part → StandsNowhere 0 ts part → None ≡ greatest_below (stands_at cs part) (suc (min most (length cs)))
last_offset_missing cs part ts most n front e h = last_nowhere cs part most (subst (λ l. StandsNowhere 0 l part) (front ∙ ap (λ j. take (most + j) cs) e) h)

-- ---- an empty part, and one that isn't empty

pub first_of_none : (cs part : List ℕ) (i x : ℤ) → part ≡ [] → x ≡ pos (at_least_zero i) → x ≡ first_index cs part i
first_of_none cs part i x none e = e ∙ sym (ap (λ l. first_index cs l i) none)

pub first_of_some : (cs part : List ℕ) (i x : ℤ) → 0 < length part → x ≡ or_no_offset (offset_from cs part (at_least_zero i)) → x ≡ first_index cs part i
first_of_some cs [] i x some e = absurd (omega arith)
first_of_some cs (c ∷ part) i x some e = e

pub last_of_none : (cs part : List ℕ) (i x : ℤ) → part ≡ [] → x ≡ pos (min (at_least_zero i) (length cs)) → x ≡ last_index cs part i
last_of_none cs part i x none e = e ∙ sym (ap (λ l. last_index cs l i) none)

pub last_of_some : (cs part : List ℕ) (i x : ℤ) → 0 < length part → x ≡ or_no_offset (greatest_below (stands_at cs part) (offsets_up_to (length cs) i)) → x ≡ last_index cs part i
last_of_some cs [] i x some e = absurd (omega arith)
last_of_some cs (c ∷ part) i x some e = e
