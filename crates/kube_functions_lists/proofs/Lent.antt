-- The views of slices and lists.
use Rattle.std.proofs.Common.{◌≡◌, ℕ, zero, suc, ◌+◌, ◌-◌, ◌≤◌, pos, List, [], ◌∷◌, ◌++◌, Option, None, Some, Bor, map, take, drop, reverse, length, get_or, take_at, option_map, refl, ap, sym, ◌∙◌, arith}
use Rattle.std.specs.Slice.{IsGetResult}
use Rattle.std.proofs.lemmas.List.{take-map, drop-map, map_push, reverse-append}
use Rattle.std.proofs.lemmas.List.FromFn.{map-range_with_len_more}
use Rattle.cel_value.specs.Data.{int, list, Items}
use Rattle.cel_value.specs.View.{view}
use Rattle.cel_value.specs.declared.value.Value.{Value}
use Rattle.kube_functions_lists.specs.Lists.{last_of, flat_item, flat_items, first_ints}

pub part_seen : (xs : List Value) (a b : ℕ) → map view (drop a (take b xs)) ≡ drop a (take b (map view xs))
part_seen xs a b = sym (drop-map view a (take b xs)) ∙ ap (drop a) (sym (take-map view b xs))

reverse_seen : (xs : List Value) → map view (reverse xs) ≡ reverse (map view xs)
reverse_seen [] = refl
reverse_seen (x ∷ xs) =
    ap (map view) (reverse-append (x ∷ []) xs) ∙ map_push view (reverse xs) x ∙ ap (λ ds. ds ++ view x ∷ []) (reverse_seen xs)
    ∙ sym (reverse-append (view x ∷ []) (map view xs))

-- the list after a slice of it was reversed in place
pub reversed_seen : (vs us xs ws : List Value) (n : ℕ) → ws ≡ reverse us → us ≡ vs → length ws ≡ n → map view vs ≡ map view xs
    → map view (take n (ws ++ drop (length ws) vs)) ≡ reverse (map view xs)
reversed_seen vs us xs ws n after is long h =
    ap (map view) (take_at ws (drop (length ws) vs) n long ∙ after ∙ ap reverse is) ∙ reverse_seen vs ∙ ap reverse h

-- ---- the last item

none_last : (xs : List Value) → length xs ≤ 0 → None ≡ last_of (map view xs)
none_last [] h = refl
none_last (x ∷ xs) h = absurd (omega (arith, h))

some_last : (xs : List Value) (i : ℕ) (x : Value) → length xs ≡ suc i → x ≡ get_or xs i x → Some (view x) ≡ last_of (map view xs)
some_last [] i x e h = absurd (omega (arith, e))
some_last (y ∷ []) zero x e h = ap (λ v. Some (view v)) h
some_last (y ∷ []) (suc i) x e h = absurd (omega (arith, e))
some_last (y ∷ z ∷ zs) zero x e h = absurd (omega (arith, e))
some_last (y ∷ z ∷ zs) (suc i) x e h = some_last (z ∷ zs) i x (omega (arith, e)) h

pub lent_last : (xs : List Value) (r : Option (Bor Value)) → IsGetResult xs 0 (length xs - 1) r → option_map (λ v. view v.now) r ≡ last_of (map view xs)
lent_last xs None h = none_last xs h.3
lent_last xs (Some x) h = some_last xs (length xs - 1) x.now (omega (arith, h.3.0)) h.1

-- ---- levels and numbers

pub flat_deeper : (ds : Items) (n : ℕ) → (n ≡ 0 → ⊥) → flat_items ds (n - 1) ≡ flat_item (list ds) n
flat_deeper ds zero h = absurd (h refl)
flat_deeper ds (suc n) h = ap (flat_items ds) (omega arith)

pub one_more_int : (n : ℕ) → first_ints (n + 1) ≡ first_ints n ++ int (pos n) ∷ []
one_more_int n = map-range_with_len_more (λ k. int (pos k)) 0 n n (omega arith)
