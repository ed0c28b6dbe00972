-- The parts of a list's items as rows.
use Rattle.std.proofs.Common.{◌≡◌, ◌≤◌, ◌<◌, ◌+◌, ◌*◌, ℕ, zero, suc, List, [], ◌∷◌, ◌++◌, map, length, take, drop, get_or, refl, sym, ap, ◌∙◌, subst, arith}
use Rattle.std.proofs.lemmas.List.{map-append, take_more}
use Rattle.std.specs.Prelude.{zip}
use Rattle.serde_json.specs.declared.value.Value.{Value as Json}
use Rattle.cel_demand.specs.Alike.{ListsAlike}
use Rattle.cel_value.specs.Data.{Data, map_of}
use Rattle.cel_value.specs.Rows.{row_maps, row_values}
use Rattle.cel_value.specs.View.{view, entries_view}
use Rattle.cel_value.specs.declared.key.Key.{Key}
use Rattle.cel_value.specs.declared.value.Value.{Value}
use Rattle.kube_schema_parts.proofs.Bound.{lists_last}

-- ---- rows stay where values are added behind them

joined_length : (vs ws : List Value) → length (vs ++ ws) ≡ length vs + length ws
joined_length [] ws = omega arith
joined_length (v ∷ vs) ws = omega (arith, joined_length vs ws)

drop_joined : (n : ℕ) (vs ws : List Value) → n ≤ length vs → drop n (vs ++ ws) ≡ drop n vs ++ ws
drop_joined zero vs ws h = refl
drop_joined (suc n) [] ws h = absurd (omega (arith, h))
drop_joined (suc n) (v ∷ vs) ws h = drop_joined n vs ws (omega (arith, h))

take_joined : (n : ℕ) (vs ws : List Value) → n ≤ length vs → take n (vs ++ ws) ≡ take n vs
take_joined zero vs ws h = refl
take_joined (suc n) [] ws h = absurd (omega (arith, h))
take_joined (suc n) (v ∷ vs) ws h = ap (λ l. v ∷ l) (take_joined n vs ws (omega (arith, h)))

drop_length : (n m : ℕ) (vs : List Value) → n + m ≤ length vs → m ≤ length (drop n vs)
drop_length zero m vs h = omega (arith, h)
drop_length (suc n) m [] h = absurd (omega (arith, h))
drop_length (suc n) m (v ∷ vs) h = drop_length n m vs (omega (arith, h))

row_joined : (w i : ℕ) (vs ws : List Value) → suc i * w ≤ length vs → row_values w i (vs ++ ws) ≡ row_values w i vs
row_joined w i vs ws h =
    ap (take w) (drop_joined (i * w) vs ws (omega (arith, h)))
    ∙ take_joined w (drop (i * w) vs) ws (drop_length (i * w) w vs (omega (arith, h)))

fewer_rows : (w n m : ℕ) → suc n * w ≤ m → n * w ≤ m
fewer_rows w n m h = omega (arith, h)

rows_joined : (ks : List Key) (n : ℕ) (vs ws : List Value) → n * length ks ≤ length vs → row_maps ks (vs ++ ws) n ≡ row_maps ks vs n
rows_joined ks zero vs ws h = refl
rows_joined ks (suc n) vs ws h =
    (λ i. rows_joined ks n vs ws (fewer_rows (length ks) n (length vs) h) i ++ map_of (entries_view (zip ks (row_joined (length ks) n vs ws h i))) ∷ [])

-- ---- the last row

take_whole : (n : ℕ) (vs : List Value) → length vs ≡ n → take n vs ≡ vs
take_whole zero [] h = refl
take_whole zero (v ∷ vs) h = absurd (omega (arith, h))
take_whole (suc n) [] h = refl
take_whole (suc n) (v ∷ vs) h = ap (λ l. v ∷ l) (take_whole n vs (omega (arith, h)))

drop_whole : (n : ℕ) (vs ws : List Value) → length vs ≡ n → drop n (vs ++ ws) ≡ ws
drop_whole zero [] ws h = refl
drop_whole zero (v ∷ vs) ws h = absurd (omega (arith, h))
drop_whole (suc n) [] ws h = absurd (omega (arith, h))
drop_whole (suc n) (v ∷ vs) ws h = drop_whole n vs ws (omega (arith, h))

last_row : (w i : ℕ) (vs ws : List Value) → length vs ≡ i * w → length ws ≡ w → row_values w i (vs ++ ws) ≡ ws
last_row w i vs ws h k = ap (take w) (drop_whole (i * w) vs ws h) ∙ take_whole w ws k

pub more_length : (w n : ℕ) (vs ws : List Value) → length vs ≡ n * w → length ws ≡ w → length (vs ++ ws) ≡ suc n * w
more_length w n vs ws h k = omega (arith, joined_length vs ws, h, k)

pub still_rows : (w n : ℕ) (vs ws : List Value) → n * w ≤ length vs → n * w ≤ length (vs ++ ws)
still_rows w n vs ws h = omega (arith, joined_length vs ws, h)

pub row_added : (R : Data → Data → Type 0) (ks : List Key) (n : ℕ) (vs ws : List Value) (f : Json → Data) (ds : List Json) (d : Json) → n < length ds → d ≡ get_or ds n d → length vs ≡ n * length ks → length ws ≡ length ks
    → ListsAlike R (row_maps ks vs n) (map f (take n ds)) → R (map_of (entries_view (zip ks ws))) (f d) → ListsAlike R (row_maps ks (vs ++ ws) (suc n)) (map f (take (n + 1) ds))
row_added R ks n vs ws f ds d lt is h k a r =
    let w = length ks in
    let within : n * w ≤ length vs = omega (arith, h) in
    let next : map f (take (n + 1) ds) ≡ map f (take n ds) ++ f d ∷ [] = ap (map f) (take_more ds n d lt ∙ ap (λ y. take n ds ++ y ∷ []) (sym is)) ∙ map-append f (take n ds) (d ∷ []) in
    subst (λ ys. ListsAlike R (row_maps ks (vs ++ ws) (suc n)) ys) (sym next)
    (subst (λ xs. ListsAlike R xs (map f (take n ds) ++ f d ∷ [])) (sym (λ i. rows_joined ks n vs ws within i ++ map_of (entries_view (zip ks (last_row w n vs ws h k i))) ∷ []))
    (lists_last R (row_maps ks vs n) (map f (take n ds)) (map_of (entries_view (zip ks ws))) (f d) a r))

pub rows_kept : (R : Data → Data → Type 0) (ks : List Key) (n : ℕ) (vs ws : List Value) (ys : List Data) → n * length ks ≤ length vs → ListsAlike R (row_maps ks vs n) ys → ListsAlike R (row_maps ks (vs ++ ws) n) ys
rows_kept R ks n vs ws ys h a = subst (λ xs. ListsAlike R xs ys) (sym (rows_joined ks n vs ws h)) a

last_length : (ds : List Data) (d : Data) → length (ds ++ d ∷ []) ≡ suc (length ds)
last_length [] d = refl
last_length (e ∷ ds) d = ap suc (last_length ds d)

pub rows_count : (ks : List Key) (vs : List Value) (n : ℕ) → length (row_maps ks vs n) ≡ n
rows_count ks vs zero = refl
rows_count ks vs (suc n) = omega (arith, last_length (row_maps ks vs n) (map_of (entries_view (zip ks (row_values (length ks) n vs)))), rows_count ks vs n)

pub view_count : (vs : List Value) → length (map view vs) ≡ length vs
view_count [] = refl
view_count (v ∷ vs) = ap suc (view_count vs)

-- ---- rows and further values behind them

pub no_further : (vs : List Value) → vs ≡ vs ++ []
no_further [] = refl
no_further (v ∷ vs) = ap (λ l. v ∷ l) (no_further vs)

pub rows_still : (R : Data → Data → Type 0) (ks ls : List Key) (n : ℕ) (vs row ws : List Value) (ys : List Data) → ls ≡ ks → ws ≡ vs ++ row → n * length ks ≤ length vs → ListsAlike R (row_maps ks vs n) ys
    → (n * length ls ≤ length ws) × ListsAlike R (row_maps ls ws n) ys
rows_still R ks ls n vs row ws ys p q h a =
    subst (λ us. (n * length ls ≤ length us) × ListsAlike R (row_maps ls us n) ys) (sym q)
    (subst (λ l. (n * length l ≤ length (vs ++ row)) × ListsAlike R (row_maps l (vs ++ row) n) ys) (sym p) (still_rows (length ks) n vs row h, rows_kept R ks n vs row ys h a))

abbrev Grown : (Data → Data → Type 0) → List Key → ℕ → List Value → (Json → Data) → List Json → Type 0
Grown R ks n vs f ds =
    (length vs ≡ (n + 1) * length ks) × (n + 1 ≤ length ds) × ((n + 1) * length ks ≤ length vs)
    × ListsAlike R (row_maps ks vs (n + 1)) (map f (take (n + 1) ds))

one_more : (R : Data → Data → Type 0) (ks : List Key) (n m : ℕ) (vs : List Value) (ys : List Data) → m ≡ suc n → ListsAlike R (row_maps ks vs (suc n)) ys → ListsAlike R (row_maps ks vs m) ys
one_more R ks n m vs ys e a = subst (λ i. ListsAlike R (row_maps ks vs i) ys) (sym e) a

pub rows_more : (R : Data → Data → Type 0) (ks ls : List Key) (n : ℕ) (vs row ws : List Value) (f : Json → Data) (ds : List Json) (d : Json) → n < length ds → d ≡ get_or ds n d → ls ≡ ks → ws ≡ vs ++ row
    → length vs ≡ n * length ks → length row ≡ length ks → ListsAlike R (row_maps ks vs n) (map f (take n ds)) → R (map_of (entries_view (zip ks row))) (f d) → Grown R ls n ws f ds
rows_more R ks ls n vs row ws f ds d lt is p q h k a r =
    let count : length (vs ++ row) ≡ (n + 1) * length ks = omega (arith, more_length (length ks) n vs row h k) in
    subst (λ us. Grown R ls n us f ds) (sym q)
    (subst (λ l. Grown R l n (vs ++ row) f ds) (sym p) (
      count,
      omega (arith, lt),
      omega (arith, count),
      one_more R ks n (n + 1) (vs ++ row) (map f (take (n + 1) ds)) (omega arith) (row_added R ks n vs row f ds d lt is h k a r),
    ))
