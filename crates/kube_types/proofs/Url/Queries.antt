-- The values of a name among pairs, added one by one.
use Rattle.std.proofs.Common.{◌≡◌, ℕ, Bool, ◌||◌, List, [], ◌∷◌, ◌++◌, map, take, get_or, filter, ltb, ◌<◌, ◌+◌, Bor, arith, cond, true, false, Some, refl, sym, ◌∙◌, ap, inl, inr}
use Rattle.std.proofs.lemmas.Bool.{cases_Bool, eqb-true, eqb-false, lt-ltb}
use Rattle.std.proofs.lemmas.List.{map-append, nil_from_length, take_more}
use Rattle.std.specs.List.{list_any}
use Rattle.std.specs.Str.{bytes_eq}
use Rattle.std.specs.Prelude.{length, ◌==◌}
use Rattle.std.specs.BTreeMap.{BTreeMap, get_by_text}
use Rattle.std.specs.Option.{option_map}
use Rattle.std.specs.Prelude.{Option, Vec, String, string_bytes}
use Rattle.std.specs.declared.alloc.Global.{Global}
use Rattle.kube_types.specs.Url.Shown.{pair_texts, texts}
use Rattle.kube_types.specs.Url.Query.{decoded_text, name_of, value_of, pairs_of_pieces, values_of, values_or_none}

abbrev Pair : Type 0
Pair = List ℕ × List ℕ

-- the last element decides if no other one does
any_more : (p : Pair → Bool) (xs : List Pair) (y : Pair) → list_any p (xs ++ y ∷ []) ≡ (list_any p xs || p y)
any_more p [] y = elim (p y) as (λ b. (b || false) ≡ (false || b)) [ true ↦ refl | false ↦ refl ]
any_more p (x ∷ xs) y = elim (p x) as (λ b. (b || list_any p (xs ++ y ∷ [])) ≡ ((b || list_any p xs) || p y)) [ true ↦ refl | false ↦ any_more p xs y ]

kept_more : (p : Pair → Bool) (xs : List Pair) (y : Pair) → p y ≡ true → map (λ x. x.1) (filter p (xs ++ y ∷ [])) ≡ map (λ x. x.1) (filter p xs) ++ y.1 ∷ []
kept_more p [] y e = rw e refl
kept_more p (x ∷ xs) y e = elim (cases_Bool (p x)) [
  | inl kept ↦ rw kept (ap (λ l. x.1 ∷ l) (kept_more p xs y e))
  | inr left ↦ rw left (kept_more p xs y e)
]

kept_same : (p : Pair → Bool) (xs : List Pair) (y : Pair) → p y ≡ false → filter p (xs ++ y ∷ []) ≡ filter p xs
kept_same p [] y e = rw e refl
kept_same p (x ∷ xs) y e = elim (cases_Bool (p x)) [
  | inl kept ↦ rw kept (ap (λ l. x ∷ l) (kept_same p xs y e))
  | inr left ↦ rw left (kept_same p xs y e)
]

none_kept : (p : Pair → Bool) (xs : List Pair) → list_any p xs ≡ false → filter p xs ≡ []
none_kept p [] e = refl
none_kept p (x ∷ xs) e = elim (cases_Bool (p x)) [
  | inl kept ↦ cc (rw kept at e)
  | inr left ↦ rw left (none_kept p xs (rw left at e))
]

or_true : (a : Bool) → (a || true) ≡ true
or_true true = refl
or_true false = refl

or_false : (a : Bool) → (a || false) ≡ a
or_false true = refl
or_false false = refl

pub values_more : (pairs : List Pair) (name value other : List ℕ) → values_of (pairs ++ (name, value) ∷ []) other
    ≡ cond (bytes_eq other name) (Some (values_or_none (values_of pairs other) ++ value ∷ [])) (values_of pairs other)
unfolding values_of
values_more pairs name value other =
    let test : Pair → Bool = λ pair. bytes_eq other pair.0 in
    elim (cases_Bool (bytes_eq other name)) [
      | inl same ↦
          let any : list_any test (pairs ++ (name, value) ∷ []) ≡ true = any_more test pairs (name, value) ∙ ap (λ b. list_any test pairs || b) same ∙ or_true (list_any test pairs) in
          let kept = kept_more test pairs (name, value) same in
          elim (cases_Bool (list_any test pairs)) [
            | inl some ↦ rw (any, same, some, kept) refl
            | inr none ↦ rw (any, same, none, kept, none_kept test pairs none) refl
          ]
      | inr differs ↦
          let any : list_any test (pairs ++ (name, value) ∷ []) ≡ list_any test pairs = any_more test pairs (name, value) ∙ ap (λ b. list_any test pairs || b) differs ∙ or_false (list_any test pairs) in
          rw (any, differs, kept_same test pairs (name, value) differs) refl
    ]

-- a map without entries has no values
pub no_values : (query : BTreeMap (String Global) (Vec (String Global) Global)) (other : List ℕ) → query.entries ≡ []
    → option_map texts (get_by_text query other) ≡ values_of [] other
unfolding values_of
no_values query other empty = rw empty refl

-- the values of a name after one more pair
pub values_step : (pairs : List (String Global × String Global)) (name value : String Global) (other : List ℕ) (before after : Option (List (List ℕ)))
    → before ≡ values_of (map pair_texts pairs) other
    → after ≡ cond (bytes_eq other (string_bytes name)) (Some (values_or_none before ++ string_bytes value ∷ [])) before
    → after ≡ values_of (map pair_texts (pairs ++ (name, value) ∷ [])) other
values_step pairs name value other before after was step =
    step ∙ ap (λ b. cond (bytes_eq other (string_bytes name)) (Some (values_or_none b ++ string_bytes value ∷ [])) b) was
    ∙ sym (values_more (map pair_texts pairs) (string_bytes name) (string_bytes value) other)
    ∙ ap (λ l. values_of l other) (sym (map-append pair_texts pairs ((name, value) ∷ [])))

-- one more piece
pub piece_more : (pieces : List (List ℕ)) (piece : List ℕ) → 0 < length piece
    → pairs_of_pieces (pieces ++ piece ∷ []) ≡ pairs_of_pieces pieces ++ (decoded_text (name_of piece), decoded_text (value_of piece)) ∷ []
unfolding pairs_of_pieces
piece_more [] piece some = rw (lt-ltb 0 (length piece) some) refl
piece_more (p ∷ pieces) piece some = elim (cases_Bool (ltb 0 (length p))) [
  | inl here ↦ rw here (ap (λ l. (decoded_text (name_of p), decoded_text (value_of p)) ∷ l) (piece_more pieces piece some))
  | inr empty ↦ rw empty (piece_more pieces piece some)
]

pub piece_empty : (pieces : List (List ℕ)) (piece : List ℕ) → length piece ≡ 0 → pairs_of_pieces (pieces ++ piece ∷ []) ≡ pairs_of_pieces pieces
unfolding pairs_of_pieces
piece_empty [] piece none = let e : piece ≡ [] = nil_from_length piece none in rw e refl
piece_empty (p ∷ pieces) piece none = elim (cases_Bool (ltb 0 (length p))) [
  | inl here ↦ rw here (ap (λ l. (decoded_text (name_of p), decoded_text (value_of p)) ∷ l) (piece_empty pieces piece none))
  | inr empty ↦ rw empty (piece_empty pieces piece none)
]

pub no_pieces : [] ≡ pairs_of_pieces []
unfolding pairs_of_pieces
no_pieces = refl

-- the next piece of the list
pub piece_taken : (items : List (Bor (List ℕ))) (i : ℕ) (d : Bor (List ℕ)) → i < length items
    → map (λ (p : Bor (List ℕ)). p.now) (take (i + 1) items) ≡ map (λ (p : Bor (List ℕ)). p.now) (take i items) ++ (get_or items i d).now ∷ []
piece_taken items i d low =
    ap (map (λ (p : Bor (List ℕ)). p.now)) (take_more items i d low) ∙ map-append (λ (p : Bor (List ℕ)). p.now) (take i items) (get_or items i d ∷ [])

-- a piece adds a pair
pub pair_pushed : (old new : List (String Global × String Global)) (p : String Global × String Global) (piece : List ℕ) (pieces : List (List ℕ))
    → new ≡ old ++ p ∷ [] → pair_texts p ≡ (decoded_text (name_of piece), decoded_text (value_of piece))
    → map pair_texts old ≡ pairs_of_pieces pieces → (length piece == 0) ≡ false → map pair_texts new ≡ pairs_of_pieces (pieces ++ piece ∷ [])
pair_pushed old new p piece pieces pushed is was some =
    let differs = eqb-false (length piece) 0 some in
    let long : 0 < length piece = omega arith in
    ap (map pair_texts) pushed ∙ map-append pair_texts old (p ∷ [])
    ∙ (λ i. was i ++ is i ∷ []) ∙ sym (piece_more pieces piece long)

-- an empty piece adds no pair
pub piece_skipped : (old new : List (String Global × String Global)) (piece : List ℕ) (pieces : List (List ℕ))
    → new ≡ old → map pair_texts old ≡ pairs_of_pieces pieces → (length piece == 0) ≡ true → map pair_texts new ≡ pairs_of_pieces (pieces ++ piece ∷ [])
piece_skipped old new piece pieces same was none =
    ap (map pair_texts) same ∙ was ∙ sym (piece_empty pieces piece (eqb-true (length piece) 0 none))
