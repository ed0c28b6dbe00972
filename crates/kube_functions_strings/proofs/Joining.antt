-- The texts of a list's items, one item at a time.
use Rattle.std.proofs.Common.{◌≡◌, ℕ, ◌+◌, ◌<◌, ◌≤◌, List, [], ◌∷◌, ◌++◌, length, map, take, drop, get_or, option_map, Some, None, Ok, Err, refl, ap, sym, ◌∙◌, append_assoc}
use Rattle.std.specs.Prelude.{Result}
use Rattle.std.specs.List.{flat_map, join_by}
use Rattle.std.specs.Option.{option_map_or}
use Rattle.std.proofs.lemmas.List.{drop_more, drop_all, append-nil, map_push, take_more}
use Rattle.cel_value.specs.Data.{Data, Items, text}
use Rattle.cel_value.specs.Parts.{text_in, items_in}
use Rattle.cel_value.specs.View.{view, items_view, kind_of}
use Rattle.cel_value.specs.declared.kind.Kind.{Kind}
use Rattle.cel_value.specs.declared.value.Value.{Value}
use Rattle.cel_semantics.specs.Ranges.{items_list}
use Rattle.cel_semantics.proofs.Lookups.{items_list-items_of}
use Rattle.kube_functions_strings.specs.Joins.{one_before, texts_of, listed_in}
use Rattle.kube_functions_strings.specs.Pieces.{text_with_separators}
use denote.Ref.{Bor}

-- texts put before the others, unless those are an error
abbrev pub all_before : List (List ℕ) → Result (List (List ℕ)) Kind → Result (List (List ℕ)) Kind
all_before ts (Ok us) = Ok (ts ++ us)
all_before ts (Err k) = Err k

pub all_begun : (r : Result (List (List ℕ)) Kind) → r ≡ all_before [] r
all_begun (Ok us) = refl
all_begun (Err k) = refl

pushed_before : (ts : List (List ℕ)) (t : List ℕ) (r : Result (List (List ℕ)) Kind) → all_before ts (one_before t r) ≡ all_before (ts ++ t ∷ []) r
pushed_before ts t (Ok us) = ap Ok (sym (append_assoc ts (t ∷ []) us))
pushed_before ts t (Err k) = refl

from_item : (xs : List Value) (i : ℕ) (x : Value) → i < length xs → x ≡ get_or xs i x → texts_of (map view (drop i xs)) ≡ option_map_or (λ t. one_before t (texts_of (map view (drop (i + 1) xs)))) (text_in (view x)) (Err (kind_of (view x)))
from_item xs i x lt is = ap (λ ys. texts_of (map view ys)) (drop_more xs i x lt ∙ ap (λ y. y ∷ drop (i + 1) xs) (sym is))

-- the next item is a string
pub text_more : (xs : List Value) (i : ℕ) (x : Value) (ts : List (List ℕ)) (t : List ℕ) → i < length xs → x ≡ get_or xs i x → Some t ≡ text_in (view x) → all_before ts (texts_of (map view (drop i xs))) ≡ all_before (ts ++ t ∷ []) (texts_of (map view (drop (i + 1) xs)))
text_more xs i x ts t lt is h =
    ap (all_before ts) (from_item xs i x lt is ∙ ap (λ o. option_map_or (λ u. one_before u (texts_of (map view (drop (i + 1) xs)))) o (Err (kind_of (view x)))) (sym h))
    ∙ pushed_before ts t (texts_of (map view (drop (i + 1) xs)))

-- the next item isn't a string
pub text_missing : (xs : List Value) (i : ℕ) (x : Value) (ts : List (List ℕ)) → i < length xs → x ≡ get_or xs i x → None ≡ text_in (view x) → all_before ts (texts_of (map view (drop i xs))) ≡ Err (kind_of (view x))
text_missing xs i x ts lt is h =
    ap (all_before ts) (from_item xs i x lt is ∙ ap (λ o. option_map_or (λ u. one_before u (texts_of (map view (drop (i + 1) xs)))) o (Err (kind_of (view x)))) (sym h))

-- no item is left
pub text_last : (xs : List Value) (i : ℕ) (ts : List (List ℕ)) → length xs ≤ i → all_before ts (texts_of (map view (drop i xs))) ≡ Ok ts
text_last xs i ts h = ap (λ ys. all_before ts (texts_of (map view ys))) (drop_all i xs h) ∙ ap Ok (append-nil ts)

pub listed : (v : Data) (xs : List Value) (ds : Items) → items_view xs ≡ ds → Some ds ≡ items_in v → Some (map view xs) ≡ listed_in v
listed v xs ds e h = ap Some (sym (items_list-items_of (map view xs))) ∙ ap (λ es. Some (items_list es)) e ∙ ap (option_map items_list) h

between_lent : (sep : List ℕ) (xs : List (Bor (List ℕ))) → flat_map (λ y. sep ++ y.now) xs ≡ flat_map (λ y. sep ++ y) (map (λ s. s.now) xs)
between_lent sep [] = refl
between_lent sep (x ∷ xs) = ap (λ r. (sep ++ x.now) ++ r) (between_lent sep xs)

pub join-lent : (sep : List ℕ) (xs : List (Bor (List ℕ))) → join_by (λ y. y.now) sep xs ≡ text_with_separators sep (map (λ s. s.now) xs)
join-lent sep [] = refl
join-lent sep (x ∷ xs) = ap (λ r. x.now ++ r) (between_lent sep xs)

-- one more text has become a value
pub values_more : (vs new : List Value) (v : Value) (ts : List (Bor (List ℕ))) (i : ℕ) (d : Bor (List ℕ)) (t : List ℕ) → i < length ts → new ≡ vs ++ v ∷ [] → view v ≡ text t → t ≡ (get_or ts i d).now
    → map view vs ≡ map text (map (λ s. s.now) (take i ts)) → map view new ≡ map text (map (λ s. s.now) (take (i + 1) ts))
values_more vs new v ts i d t lt pushed seen same before =
    ap (map view) pushed ∙ map_push view vs v ∙ ap (λ ds. ds ++ view v ∷ []) before
    ∙ ap (λ x. map text (map (λ s. s.now) (take i ts)) ++ x ∷ []) (seen ∙ ap text same)
    ∙ sym (ap (λ ss. map text (map (λ s. s.now) ss)) (take_more ts i d lt) ∙ ap (map text) (map_push (λ s. s.now) (take i ts) (get_or ts i d)) ∙ map_push text (map (λ s. s.now) (take i ts)) (get_or ts i d).now)
