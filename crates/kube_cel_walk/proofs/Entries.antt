-- The entries of a map, in the order in which the walk visits them.
use Rattle.kube_schema_rules.proofs.Sorted.{key_cmp, ordered_already}
use Rattle.kube_schema_rules.specs.Inside.{keys_in, keys_at, in_order}
use Rattle.serde_json.proofs.Views.{Entry}
use Rattle.serde_json.specs.Data.{Data, no_members}
use Rattle.serde_json.specs.Find.{get_member, as_object}
use Rattle.serde_json.specs.View.{view, members_view}
use Rattle.std.proofs.Common.{◌≡◌, ℕ, List, [], ◌∷◌, ◌++◌, map, Option, Some, None, option_and_then, unwrap_or, Less, Greater, string_bytes, string_cmp, nat_cmp, refl, sym, ap, ◌∙◌}
use Rattle.std.proofs.lemmas.Cmp.{nat_list_cmp_total, tied_itself}
use Rattle.std.specs.Cmp.Lexicographic.{slice_cmp}
use Rattle.std.specs.List.{AllByRecursion}
use Rattle.std.specs.List.Sorted.{IsStrictlySortedBy}
use Rattle.std.specs.Map.{keys_of}
use Rattle.std.specs.Ordering.{ordering_reverse}

below_middle : (first : Entry) (es : List Entry) (e : Entry) (more : List Entry) → AllByRecursion (λ y. string_cmp first.0 y ≡ Less) (keys_of (es ++ e ∷ more)) → string_cmp first.0 e.0 ≡ Less
below_middle first [] e more h = h.0
below_middle first (x ∷ es) e more h = below_middle first es e more h.1

above : (first : Entry) (es : List Entry) (e : Entry) (more : List Entry) → AllByRecursion (λ y. string_cmp first.0 y ≡ Less) (keys_of (es ++ e ∷ more)) → slice_cmp nat_cmp (string_bytes e.0) (string_bytes first.0) ≡ Greater
above first es e more h = nat_list_cmp_total.antisymm (string_bytes e.0) (string_bytes first.0) ∙ ap ordering_reverse (below_middle first es e more h)

-- the member at a key is the value of its entry
pub member_in_order : (done : List Entry) (e : Entry) (more : List Entry) → IsStrictlySortedBy string_cmp (keys_of (done ++ e ∷ more))
    → get_member (string_bytes e.0) (members_view (done ++ e ∷ more)) ≡ Some (view e.1)
unfolding IsStrictlySortedBy
member_in_order [] e more h = rw (tied_itself nat_list_cmp_total (string_bytes e.0))
member_in_order (first ∷ done) e more h = rw (above first done e more h.0) (member_in_order done e more h.1)

abbrev pub names_of : List Entry → List (List ℕ)
names_of es = map (λ e. string_bytes e.0) es

pub names_more : (done : List Entry) (e : Entry) → names_of (done ++ e ∷ []) ≡ names_of done ++ string_bytes e.0 ∷ []
names_more [] e = refl
names_more (x ∷ done) e = ap (λ r. string_bytes x.0 ∷ r) (names_more done e)

-- the keys of a map are in order

keys_named : (es : List Entry) → keys_in (members_view es) ≡ names_of es
keys_named [] = refl
keys_named (e ∷ es) = ap (λ r. string_bytes e.0 ∷ r) (keys_named es)

all_named : (first : Entry) (es : List Entry) → AllByRecursion (λ y. string_cmp first.0 y ≡ Less) (keys_of es) → AllByRecursion (λ k. key_cmp (string_bytes first.0) k ≡ Less) (names_of es)
all_named first [] h = tt
all_named first (e ∷ es) h = (h.0, all_named first es h.1)

names_sorted : (es : List Entry) → IsStrictlySortedBy string_cmp (keys_of es) → IsStrictlySortedBy key_cmp (names_of es)
unfolding IsStrictlySortedBy
names_sorted [] h = tt
names_sorted (e ∷ es) h = (all_named e es h.0, names_sorted es h.1)

pub keys_of_map : (o : Option Data) (es : List Entry) → Some (members_view es) ≡ option_and_then as_object o → IsStrictlySortedBy string_cmp (keys_of es) → in_order (keys_at o) ≡ names_of es
unfolding keys_at
keys_of_map o es e h = ap (λ ms. in_order (keys_in (unwrap_or ms no_members))) (sym e) ∙ ap in_order (keys_named es) ∙ ordered_already (names_of es) (names_sorted es h)

pub keys_of_none : (o : Option Data) → None ≡ option_and_then as_object o → in_order (keys_at o) ≡ []
unfolding keys_at
keys_of_none o e = ap (λ ms. in_order (keys_in (unwrap_or ms no_members))) (sym e)
