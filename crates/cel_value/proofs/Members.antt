-- The parts of lists and maps, as contracts see them.
use Rattle.std.specs.Prelude.{◌≡◌, ℕ, zero, suc, max, List, [], ◌∷◌, ◌++◌, Bool, true, false, ◌||◌, if◌then◌else◌, Some, None, refl, length, slice_get, option_map}
use Rattle.std.proofs.Common.{arith, ap, ◌∙◌}
use Rattle.std.specs.declared.cmp.Ordering.{Ordering}
use Rattle.std.specs.declared.cmp.Ordering.TheVariants.{Less, Equal, Greater}
use Rattle.std.specs.Ordering.{is_eq, match_ordering}
use Rattle.cel_value.specs.Data.{KeyData, Data, Entries, no_entries, entry}
use Rattle.cel_value.specs.Find.{list_of_items, list_of_entries, find}
use Rattle.cel_value.specs.Keys.{key_order, put}
use Rattle.cel_value.specs.Levels.{levels, entries_levels}
use Rattle.cel_value.specs.Same.{has_double, entries_have_double}
use Rattle.cel_value.specs.View.{view, items_view, entries_view}
use Rattle.cel_value.specs.declared.key.Key.{Key}
use Rattle.cel_value.specs.declared.value.Value.{Value}

pub listed_length : (vs : List Value) → length (list_of_items (items_view vs)) ≡ length vs
listed_length [] = refl
listed_length (v ∷ vs) = rw (listed_length vs)

pub entries_length : (es : List (Key × Value)) → length (list_of_entries (entries_view es)) ≡ length es
entries_length [] = refl
entries_length (e ∷ es) = rw (entries_length es)

pub listed_get : (vs : List Value) (i : ℕ) → slice_get (list_of_items (items_view vs)) i ≡ option_map view (slice_get vs i)
listed_get [] zero = refl
listed_get [] (suc i) = refl
listed_get (v ∷ vs) zero = refl
listed_get (v ∷ vs) (suc i) = listed_get vs i

or_false : (a : Bool) → (if a then true else false) ≡ (false || a)
or_false true = refl
or_false false = refl

or_after : (a b c : Bool) → (if a then true else (b || c)) ≡ ((if a then true else b) || c)
or_after true b c = refl
or_after false b c = refl

or_before : (a b : Bool) → (if a then true else b) ≡ (b || a)
or_before true true = refl
or_before true false = refl
or_before false true = refl
or_before false false = refl

doubles_put : (o : Ordering) (k l : KeyData) (d e : Data) (es rest : Entries) → (if is_eq o then Some e else find k es) ≡ None → (find k es ≡ None → entries_have_double rest ≡ (entries_have_double es || has_double d))
    → entries_have_double (match_ordering o (entry k d (entry l e es)) (entry l d es) (entry l e rest)) ≡ (entries_have_double (entry l e es) || has_double d)
doubles_put Less k l d e es rest h f = or_before (has_double d) (entries_have_double (entry l e es))
doubles_put Equal k l d e es rest h f = cc
doubles_put Greater k l d e es rest h f = rw (f h, or_after (has_double e) (entries_have_double es) (has_double d))

pub more_doubles : (k : KeyData) (d : Data) (es : Entries) → find k es ≡ None → entries_have_double (put k d es) ≡ (entries_have_double es || has_double d)
more_doubles k d no_entries h = or_false (has_double d)
more_doubles k d (entry l e es) h = doubles_put (key_order k l) k l d e es (put k d es) h (more_doubles k d es)

levels_put : (o : Ordering) (k l : KeyData) (d e : Data) (es rest : Entries) → (if is_eq o then Some e else find k es) ≡ None → (find k es ≡ None → entries_levels rest ≡ max (entries_levels es) (levels d))
    → entries_levels (match_ordering o (entry k d (entry l e es)) (entry l d es) (entry l e rest)) ≡ max (entries_levels (entry l e es)) (levels d)
levels_put Less k l d e es rest h f = omega arith
levels_put Equal k l d e es rest h f = cc
levels_put Greater k l d e es rest h f = omega (arith, f h)

pub more_levels : (k : KeyData) (d : Data) (es : Entries) → find k es ≡ None → entries_levels (put k d es) ≡ max (entries_levels es) (levels d)
more_levels k d no_entries h = omega arith
more_levels k d (entry l e es) h = levels_put (key_order k l) k l d e es (put k d es) h (more_levels k d es)

or_assoc : (a b c : Bool) → ((if a then true else b) || c) ≡ (if a then true else (b || c))
or_assoc true b c = refl
or_assoc false b c = refl

pub doubles_append : (es fs : List (Key × Value)) → (entries_have_double (entries_view es) || entries_have_double (entries_view fs)) ≡ entries_have_double (entries_view (es ++ fs))
doubles_append [] fs = refl
doubles_append (e ∷ es) fs = rw (or_assoc (has_double (view e.1)) (entries_have_double (entries_view es)) (entries_have_double (entries_view fs)), doubles_append es fs)

pub levels_append : (es fs : List (Key × Value)) → max (entries_levels (entries_view es)) (entries_levels (entries_view fs)) ≡ entries_levels (entries_view (es ++ fs))
levels_append [] fs = omega arith
levels_append (e ∷ es) fs = omega (arith, levels_append es fs)

or_three : (a b c d : Bool) → (b || c) ≡ d → ((a || b) || c) ≡ (if a then true else d)
or_three true b c d h = refl
or_three false b c d h = h

-- an entry, some others and those behind them, joined one after another
pub joined_all : (e : Key × Value) (rest tail : List (Key × Value)) (a b c : Bool × ℕ) → a ≡ (has_double (view e.1), max 0 (levels (view e.1)))
    → b ≡ (a.0 || entries_have_double (entries_view rest), max a.1 (entries_levels (entries_view rest)))
    → c ≡ (b.0 || entries_have_double (entries_view tail), max b.1 (entries_levels (entries_view tail)))
    → c ≡ (entries_have_double (entries_view (e ∷ rest ++ tail)), entries_levels (entries_view (e ∷ rest ++ tail)))
joined_all e rest tail a b c p q r =
    let first = ap (λ x. (x || entries_have_double (entries_view rest)) || entries_have_double (entries_view tail)) (ap (λ x. x.0) p) in
    let others = ap (λ x. x || entries_have_double (entries_view tail)) (ap (λ x. x.0) q) in
    let doubles : c.0 ≡ entries_have_double (entries_view (e ∷ rest ++ tail)) = ap (λ x. x.0) r ∙ others ∙ first
    ∙ or_three (has_double (view e.1)) (entries_have_double (entries_view rest)) (entries_have_double (entries_view tail)) (entries_have_double (entries_view (rest ++ tail))) (doubles_append rest tail) in
    let most : c.1 ≡ entries_levels (entries_view (e ∷ rest ++ tail)) = omega (arith, ap (λ x. x.1) p, ap (λ x. x.1) q, ap (λ x. x.1) r, levels_append rest tail) in
    λ i. (doubles i, most i)
