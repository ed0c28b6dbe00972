-- Scaffolding: only proofs and private clauses cite it.
-- The order of versions is total, and only versions that are equal in every part compare as equal.
use Rattle.semver.specs.OrderLaws.{pre_total, build_total, pre-anti, build-anti, same_text}
use Rattle.std.proofs.Common.{◌≡◌, true, refl, sym, ◌∙◌, ap}
use Rattle.std.proofs.lemmas.Bool.{eqb-true}
use Rattle.std.proofs.lemmas.Cmp.{tied_itself}
use Rattle.std.specs.Cmp.{IsTotalOrder, IsPartialOrder, IsEquivalence, IsPartialEquivalence, Agrees, Equal-is, both_ways, po, nat_cmp_total, nat_eq_equiv, on_total, on_equiv, then_total, and_equiv, partial_equiv_from_equiv, first_so, second_so}
use Rattle.std.specs.Cmp.Lexicographic.{nat_list_eq_equiv}
use Rattle.std.specs.FinMap.{nat_cmp-IsAntisymmetric}
use Rattle.std.specs.Ordering.{on, as_partial_cmp, eq_by_cmp, ordering_then}
use Rattle.std.specs.declared.cmp.Ordering.{Ordering}
use Rattle.std.specs.declared.cmp.Ordering.TheVariants.{Less, Equal, Greater}
use Rattle.kube_types.specs.Version.Order.{parts_cmp, same_parts}
use Rattle.kube_types.specs.Version.Shown.{Parts, parts}
use Rattle.kube_types.specs.declared.versions.version.KubeSemver.{KubeSemver}

pub parts_cmp_total : IsTotalOrder parts_cmp
parts_cmp_total =
    then_total (then_total (on_total (λ (p : Parts). p.0) nat_cmp_total)
    (then_total (on_total (λ (p : Parts). p.1) nat_cmp_total)
    (then_total (on_total (λ (p : Parts). p.2) nat_cmp_total) (on_total (λ (p : Parts). p.3) pre_total))))
    (on_total (λ (p : Parts). p.4) build_total)

-- if two orders in sequence compare as equal, so does each of them
tie_first : (r s : Ordering) → ordering_then r s ≡ Equal → r ≡ Equal
tie_first Less s e = cc e
tie_first Equal s e = refl
tie_first Greater s e = cc e

tie_second : (r s : Ordering) → ordering_then r s ≡ Equal → s ≡ Equal
tie_second Less s e = cc e
tie_second Equal s e = e
tie_second Greater s e = cc e

-- versions that compare as equal are equal in every part
pub tied_same : (p q : Parts) → parts_cmp p q ≡ Equal → p ≡ q
tied_same p q e =
    let rank = tie_first _ _ e in
    let e1 = tie_second _ _ rank in
    let e2 = tie_second _ _ e1 in
    let e3 = tie_second _ _ e2 in
    let major : p.0 ≡ q.0 = nat_cmp-IsAntisymmetric p.0 q.0 (tie_first _ _ rank) in
    let minor : p.1 ≡ q.1 = nat_cmp-IsAntisymmetric p.1 q.1 (tie_first _ _ e1) in
    let patch : p.2 ≡ q.2 = nat_cmp-IsAntisymmetric p.2 q.2 (tie_first _ _ e2) in
    let pre : p.3 ≡ q.3 = pre-anti p.3 q.3 e3 in
    let build : p.4 ≡ q.4 = build-anti p.4 q.4 (tie_second _ _ e) in
    λ i. (major i, minor i, patch i, pre i, build i)

pub same_tied : (p q : Parts) → p ≡ q → parts_cmp p q ≡ Equal
same_tied p q e = ap (parts_cmp p) (sym e) ∙ tied_itself parts_cmp_total p

pub same_parts_equiv : IsEquivalence same_parts
same_parts_equiv =
    and_equiv (on_equiv (λ (p : Parts). p.0) nat_eq_equiv)
    (and_equiv (on_equiv (λ (p : Parts). p.1) nat_eq_equiv)
    (and_equiv (on_equiv (λ (p : Parts). p.2) nat_eq_equiv)
    (and_equiv (on_equiv (λ (p : Parts). p.3) nat_list_eq_equiv)
    (on_equiv (λ (p : Parts). p.4) nat_list_eq_equiv))))

-- versions that the test finds equal are equal in every part
pub tested_same : (p q : Parts) → same_parts p q ≡ true → p ≡ q
tested_same p q e =
    let b1 = second_so _ _ e in
    let b2 = second_so _ _ b1 in
    let b3 = second_so _ _ b2 in
    let major : p.0 ≡ q.0 = eqb-true p.0 q.0 (first_so _ _ e) in
    let minor : p.1 ≡ q.1 = eqb-true p.1 q.1 (first_so _ _ b1) in
    let patch : p.2 ≡ q.2 = eqb-true p.2 q.2 (first_so _ _ b2) in
    let pre : p.3 ≡ q.3 = same_text p.3 q.3 (first_so _ _ b3) in
    let build : p.4 ≡ q.4 = same_text p.4 q.4 (second_so _ _ b3) in
    λ i. (major i, minor i, patch i, pre i, build i)

pub same_tested : (p q : Parts) → p ≡ q → same_parts p q ≡ true
same_tested p q e = ap (same_parts p) (sym e) ∙ same_parts_equiv.refl p

pub version_eq_equivalence : IsEquivalence (λ (a b : KubeSemver). same_parts (parts a) (parts b))
version_eq_equivalence = on_equiv parts same_parts_equiv

pub version_eq_laws : IsPartialEquivalence (λ (a b : KubeSemver). same_parts (parts a) (parts b))
version_eq_laws = partial_equiv_from_equiv version_eq_equivalence

pub version_cmp_total : IsTotalOrder (on parts parts_cmp)
version_cmp_total = on_total parts parts_cmp_total

pub version_cmp_agrees : Agrees (as_partial_cmp (on parts parts_cmp)) (on parts parts_cmp)
version_cmp_agrees = λ x y. refl

pub version_cmp_matches_eq : (x y : KubeSemver)
    → same_parts (parts x) (parts y) ≡ eq_by_cmp (on parts parts_cmp) x y
version_cmp_matches_eq x y = both_ways (same_parts (parts x) (parts y)) (eq_by_cmp (on parts parts_cmp) x y)
    (λ e. (Equal-is (parts_cmp (parts x) (parts y))).1
    (same_tied (parts x) (parts y) (tested_same (parts x) (parts y) e)))
    (λ e. same_tested (parts x) (parts y)
    (tied_same (parts x) (parts y) ((Equal-is (parts_cmp (parts x) (parts y))).0 e)))

pub version_partial_order : IsPartialOrder (λ (a b : KubeSemver). same_parts (parts a) (parts b))
    (as_partial_cmp (on parts parts_cmp))
version_partial_order = po version_cmp_total version_cmp_matches_eq
