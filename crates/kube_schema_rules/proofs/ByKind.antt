-- Steps of one kind, followed by those of the next, are in order.
use Rattle.kube_schema_rules.proofs.Ordered.{all_append, sorted_append}
use Rattle.kube_schema_rules.proofs.Sorted.{less_than, key_cmp, keys_sorted, sorted_map, up_sorted}
use Rattle.kube_schema_rules.specs.declared.branches.BranchKind.{BranchKind}
use Rattle.kube_schema_rules.specs.Inside.{in_order, up_to}
use Rattle.kube_schema_rules.specs.Step.{Step, property, item, additional_property, branch, branch_rank, step_rank, step_content, step_cmp}
use Rattle.std.proofs.Common.{◌≡◌, ◌<◌, ◌≤◌, ℕ, suc, List, [], ◌∷◌, ◌++◌, map, Less, Equal, nat_cmp, refl, ap, ◌∙◌, arith}
use Rattle.std.proofs.lemmas.Cmp.{nat_cmp_total, tied_itself}
use Rattle.std.specs.Cmp.Lexicographic.{slice_cmp}
use Rattle.std.specs.List.{AllByRecursion}
use Rattle.std.specs.List.Sorted.{IsStrictlySortedBy}
use Rattle.std.specs.Ordering.{ordering_then}

all_where : {X : Type 0} (P Q : X → Type 0) → ((x : X) → P x → Q x) → (xs : List X) → AllByRecursion P xs → AllByRecursion Q xs
all_where P Q f [] h = tt
all_where P Q f (x ∷ xs) h = (f x h.0, all_where P Q f xs h.1)

pub all_of_map : {X Y : Type 0} (Q : Y → Type 0) (f : X → Y) → ((x : X) → Q (f x)) → (xs : List X) → AllByRecursion Q (map f xs)
all_of_map Q f every [] = tt
all_of_map Q f every (x ∷ xs) = (every x, all_of_map Q f every xs)

-- sorted, and all of this rank
pub record AreOfRank (r : ℕ) (ps : List Step) : Type 0 where
  pub sorted : IsStrictlySortedBy step_cmp ps
  pub of_rank : AllByRecursion (λ p. step_rank p ≡ r) ps

-- sorted, and all of this rank or a later one
pub record AreFromRank (r : ℕ) (ps : List Step) : Type 0 where
  pub sorted : IsStrictlySortedBy step_cmp ps
  pub from_rank : AllByRecursion (λ p. r ≤ step_rank p) ps

pub last_kind : (r : ℕ) (ps : List Step) → AreOfRank r ps → AreFromRank r ps
last_kind r ps h = record { sorted = h.sorted; from_rank = all_where (λ p. step_rank p ≡ r) (λ p. r ≤ step_rank p) (λ p e. omega (arith, e)) ps h.of_rank }

less_by_rank : (p q : Step) → step_rank p < step_rank q → step_cmp p q ≡ Less
less_by_rank p q h = ap (λ o. ordering_then o (slice_cmp nat_cmp (step_content p) (step_content q))) (less_than (step_rank p) (step_rank q) h)

pub kind_before : (r : ℕ) (ps qs : List Step) → AreOfRank r ps → AreFromRank (suc r) qs → AreFromRank r (ps ++ qs)
kind_before r ps qs h g = record {
  sorted = sorted_append step_cmp ps qs h.sorted g.sorted
      (all_where (λ p. step_rank p ≡ r) (λ p. AllByRecursion (λ q. step_cmp p q ≡ Less) qs)
      (λ p e. all_where (λ q. suc r ≤ step_rank q) (λ q. step_cmp p q ≡ Less) (λ q l. less_by_rank p q (omega (arith, e, l))) qs g.from_rank) ps h.of_rank);
  from_rank = all_append (λ p. r ≤ step_rank p) ps qs
      (all_where (λ p. step_rank p ≡ r) (λ p. r ≤ step_rank p) (λ p e. omega (arith, e)) ps h.of_rank)
      (all_where (λ p. suc r ≤ step_rank p) (λ p. r ≤ step_rank p) (λ p l. omega (arith, l)) qs g.from_rank);
}

-- for ascending keys, or for indices
pub properties_in_order : (ks : List (List ℕ)) → AreOfRank 0 (map property (in_order ks))
properties_in_order ks = record { sorted = sorted_map key_cmp step_cmp property (λ k l e. e) (in_order ks) (keys_sorted ks); of_rank = all_of_map (λ p. step_rank p ≡ 0) property (λ k. refl) (in_order ks) }

pub extras_in_order : (ks : List (List ℕ)) → AreOfRank 2 (map additional_property (in_order ks))
extras_in_order ks = record { sorted = sorted_map key_cmp step_cmp additional_property (λ k l e. e) (in_order ks) (keys_sorted ks); of_rank = all_of_map (λ p. step_rank p ≡ 2) additional_property (λ k. refl) (in_order ks) }

pub items_in_order : (n : ℕ) → AreOfRank 1 (map item (up_to n))
items_in_order n = record { sorted = sorted_map nat_cmp step_cmp item (λ i j e. ap (λ o. ordering_then o Equal) e) (up_to n) (up_sorted n); of_rank = all_of_map (λ p. step_rank p ≡ 1) item (λ i. refl) (up_to n) }

pub branches_in_order : (kind : BranchKind) (n : ℕ) → AreOfRank (branch_rank kind) (map (branch kind) (up_to n))
branches_in_order kind n = record {
  sorted = sorted_map nat_cmp step_cmp (branch kind) (λ i j e. ap (λ o. ordering_then o (slice_cmp nat_cmp (i ∷ []) (j ∷ []))) (tied_itself nat_cmp_total (branch_rank kind)) ∙ ap (λ o. ordering_then o Equal) e) (up_to n) (up_sorted n);
  of_rank = all_of_map (λ p. step_rank p ≡ branch_rank kind) (branch kind) (λ i. refl) (up_to n);
}
