-- The search for a name among links in name order.
use Rattle.std.proofs.Common.{◌≡◌, ℕ, zero, suc, ◌<◌, ◌≤◌, List, [], ◌∷◌, length, Bool, true, false, nat_lt, Some, None, slice_get, get_or, add-one, nat_cmp, Ordering, Less, Equal, Greater, is_eq, string_bytes, refl, sym, ap, ◌∙◌, subst, arith}
use Rattle.std.proofs.lemmas.Bool.Decides.{nat_tests}
use Rattle.std.proofs.lemmas.Cmp.{nat_list_cmp_total, tied_itself}
use Rattle.std.proofs.lemmas.List.Sorted.{searchable_from_sorted}
use Rattle.std.proofs.lemmas.Map.Text.{is_eq-slice_cmp}
use Rattle.std.proofs.lemmas.Option.{slice_get_within, slice_get-get_or}
use Rattle.std.proofs.lemmas.Slice.Eq.{bytes_eq-Decides}
use Rattle.std.specs.Cmp.Lexicographic.{slice_cmp}
use Rattle.std.specs.List.Sorted.{IsNonDecreasingBy, IsPartitionPoint, IsSortedBy, IsStrictlySortedBy}
use Rattle.std.specs.Ordering.{is_lt, ordering_index, ordering_reverse}
use Rattle.kube_schema.specs.declared.nodes.PropertyLink.{PropertyLink}
use Rattle.kube_schema.specs.Raw.{named_at, LinksOrdered}
use Rattle.kube_schema.specs.Tree.{Node, find}
use Rattle.kube_schema.proofs.Trees.{beyond, found_at}

-- the comparison of a link's name with a name
abbrev pub by_name : List ℕ → PropertyLink → Ordering
by_name k l = slice_cmp nat_cmp (string_bytes l.name) k

rises : (ls : List PropertyLink) → LinksOrdered ls → (i : ℕ) (d : PropertyLink) → suc i < length ls → is_lt (slice_cmp nat_cmp (string_bytes (get_or ls (suc i) d).name) (string_bytes (get_or ls i d).name)) ≡ false
unfolding IsStrictlySortedBy
rises [] h i d within = absurd (omega arith)
rises (l ∷ []) h i d within = absurd (omega arith)
rises (l ∷ m ∷ ls) h zero d within = ap is_lt (nat_list_cmp_total.antisymm (string_bytes m.name) (string_bytes l.name) ∙ ap ordering_reverse h.0.0)
rises (l ∷ m ∷ ls) h (suc i) d within = rises (m ∷ ls) h.1 i d (omega arith)

-- the links ascend under the comparison of the binary search
names_rise : (ls : List PropertyLink) (k : List ℕ) → LinksOrdered ls → IsNonDecreasingBy (λ l. ordering_index (by_name k l)) ls
names_rise ls k h =
    let sorted : IsSortedBy (λ (a b : PropertyLink). is_lt (slice_cmp nat_cmp (string_bytes a.name) (string_bytes b.name))) ls = λ i d low within. rw add-one (rises ls h i d (omega arith)) in
    searchable_from_sorted nat_list_cmp_total (λ (l : PropertyLink). string_bytes l.name) ls k sorted

read_there : (ls : List PropertyLink) (i : ℕ) (l : PropertyLink) → slice_get ls i ≡ Some l → get_or ls i l ≡ l
read_there ls i l e = let there = slice_get-get_or ls i l (slice_get_within ls i l e) in cc

-- a name that compares as unequal differs
differs : (k : List ℕ) (l : PropertyLink) (o : Ordering) → by_name k l ≡ o → is_eq o ≡ false → string_bytes l.name ≡ k → ⊥
differs k l o is unequal same = let tied = tied_itself nat_list_cmp_total k in let here = ap (λ n. slice_cmp nat_cmp n k) same in let both = ap is_eq (sym is ∙ here ∙ tied) in cc

no_link : (ls : List PropertyLink) (k : List ℕ) (at : ℕ) → IsPartitionPoint (λ l. by_name k l ≡ Less) (λ l. by_name k l ≡ Greater) ls at → (i : ℕ) (l : PropertyLink) → slice_get ls i ≡ Some l → string_bytes l.name ≡ k → ⊥
no_link ls k at parted i l e = by (nat_lt i at) refl
  where
    by : (b : Bool) → nat_lt i at ≡ b → string_bytes l.name ≡ k → ⊥
    by true before = let below : i < at = grind (arith, nat_tests) in differs k l Less (ap (by_name k) (sym (read_there ls i l e)) ∙ parted.0 i l (omega arith) below) refl
    by false after = let from : at ≤ i = grind (arith, nat_tests) in differs k l Greater (ap (by_name k) (sym (read_there ls i l e)) ∙ parted.1 i l from (slice_get_within ls i l e)) refl

none_found : (f : ℕ → Node) (k : List ℕ) (ls : List PropertyLink) → ((i : ℕ) (l : PropertyLink) → slice_get ls i ≡ Some l → string_bytes l.name ≡ k → ⊥) → find k (named_at f ls) ≡ None
none_found f k [] h = refl
none_found f k (l ∷ ls) h = beyond f k l ls (λ e. h 0 l refl e) ∙ none_found f k ls (λ i m at e. h (suc i) m at e)

-- if no link has the name
pub absent : (f : ℕ → Node) (k : List ℕ) (ls : List PropertyLink) (at : ℕ) → LinksOrdered ls → (IsNonDecreasingBy (λ l. ordering_index (by_name k l)) ls → IsPartitionPoint (λ l. by_name k l ≡ Less) (λ l. by_name k l ≡ Greater) ls at) → find k (named_at f ls) ≡ None
absent f k ls at ordered parted = none_found f k ls (no_link ls k at (parted (names_rise ls k ordered)))

-- if a link has the name
pub present : (f : ℕ → Node) (k : List ℕ) (ls : List PropertyLink) (i : ℕ) (l : PropertyLink) → LinksOrdered ls → slice_get ls i ≡ Some l → by_name k l ≡ Equal → find k (named_at f ls) ≡ Some (f l.node.0)
present f k ls i l ordered e equal =
    let same : string_bytes l.name ≡ k = (bytes_eq-Decides (string_bytes l.name) k).0 (sym (is_eq-slice_cmp (string_bytes l.name) k) ∙ ap is_eq equal) in
    subst (λ n. find n (named_at f ls) ≡ Some (f l.node.0)) same (found_at f ls i l ordered e)
