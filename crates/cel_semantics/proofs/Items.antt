-- Items of lists: joined, found, and at an index.
use Rattle.std.proofs.Common.{◌≡◌, ℕ, zero, suc, ◌<◌, ◌≤◌, List, [], ◌∷◌, ◌++◌, Option, Some, None, Bor, map, length, get_or, refl, ap, sym, ◌∙◌, arith, option_map}
use Rattle.std.specs.Slice.{IsItemAt}
use Rattle.cel_value.specs.Data.{Data, item}
use Rattle.cel_value.specs.View.{view, items_of, items_view}
use Rattle.cel_value.specs.declared.value.Value.{Value}
use Rattle.cel_semantics.specs.Arithmetic.{items_joined}
use Rattle.cel_semantics.specs.Members.{nth_item}

items_of-append : (ds es : List Data) → items_of (ds ++ es) ≡ items_joined (items_of ds) (items_of es)
items_of-append [] es = refl
items_of-append (d ∷ ds) es = ap (item d) (items_of-append ds es)

-- the items of two joined lists of copies
pub joined_items : (xs ys zs : List Value) → map view zs ≡ map view xs ++ map view ys → items_view zs ≡ items_joined (items_view xs) (items_view ys)
joined_items xs ys zs h = ap items_of h ∙ items_of-append (map view xs) (map view ys)

nth_past : (xs : List Value) (n : ℕ) → length xs ≤ n → nth_item n (items_view xs) ≡ None
nth_past [] n h = refl
nth_past (x ∷ xs) zero h = absurd (omega arith)
nth_past (x ∷ xs) (suc n) h = nth_past xs n (omega arith)

nth_here : (xs : List Value) (n : ℕ) (x : Value) → n < length xs → x ≡ get_or xs n x → nth_item n (items_view xs) ≡ Some (view x)
nth_here [] n x lt is = absurd (omega arith)
nth_here (y ∷ xs) zero x lt is = ap (λ z. Some (view z)) (sym is)
nth_here (y ∷ xs) (suc n) x lt is = nth_here xs n x (omega arith) is

-- the item that a slice has at an index
pub lent_item : (xs : List Value) (n : ℕ) (r : Option (Bor Value)) → IsItemAt xs n r → option_map (λ v. view v.now) r ≡ nth_item n (items_view xs)
lent_item xs n None h = sym (nth_past xs n h.3)
lent_item xs n (Some x) h = sym (nth_here xs n x.now h.3.0 h.1)
