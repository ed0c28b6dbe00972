-- Sums of numbers of rules that saturate at the greatest number.
use Rattle.std.proofs.Common.{◌≡◌, ◌<◌, ◌≤◌, ◌+◌, ◌-◌, ◌^◌, ℕ, zero, suc, List, length, map, min, Option, Some, None, refl, sym, ap, ◌∙◌, add-one, arith}
use Rattle.std.proofs.lemmas.List.{length-map}
use Rattle.kube_cel_analysis.proofs.Rest.{rest, rest_at, rest_none, rest_past}
use Rattle.kube_cel_analysis.proofs.Walks.{nodes_next, nodes_none, nodes_past, rest_nodes}
use Rattle.kube_schema.specs.BranchKind.TheVariants.{AllOf, OneOf, AnyOf}
use Rattle.kube_manifests.specs.Rules.{saturated_count, rules_in, rules_in_maybe, rules_in_named, rules_in_nodes, rules_in_option}
use Rattle.kube_schema.specs.Tree.{branches_of, Node, node, Maybe, nothing, just, Named, Nodes, no_nodes, more, additional_of, as_option, items_of, named_of, names, nodes_length, nth_named, nth_node, own}

more_at_most : (m a b c : ℕ) → min (min (a + b) m + c) m ≡ min (a + (b + c)) m
more_at_most m a b c = omega arith

none_at_most : (m a : ℕ) → a ≤ m → a ≡ min (a + 0) m
none_at_most m a h = omega (arith, h)

-- adding to a saturated sum
pub counted_more : (a b c : ℕ) → saturated_count (saturated_count (a + b) + c) ≡ saturated_count (a + (b + c))
counted_more a b c = more_at_most (2 ^ 64 - 1) a b c

pub counted_none : (a : ℕ) → a < 2 ^ 64 → a ≡ saturated_count (a + 0)
counted_none a h = none_at_most (2 ^ 64 - 1) a (omega (arith, h))

most_fits : (m a : ℕ) → min a m ≤ m
most_fits m a = omega arith

pub counted_fits : (a : ℕ) → saturated_count a < 2 ^ 64
counted_fits a = let most = most_fits (2 ^ 64 - 1) a in omega (arith, most)

pub same_length : {A B : Type 0} (f : A → B) (xs : List A) (ys : List B) → map f xs ≡ ys → length xs ≡ length ys
same_length f xs ys e = sym (length-map xs f) ∙ ap length e

-- ---- the remaining properties

pub properties_more : (i : ℕ) (ns : Named) (k : List ℕ) (n : Node) (all : ℕ) → Some (k, n) ≡ nth_named i ns
    → saturated_count (saturated_count (all + rules_in n) + rules_in_named (rest (i + 1) ns)) ≡ saturated_count (all + rules_in_named (rest i ns))
unfolding rules_in_named
properties_more i ns k n all e =
    counted_more all (rules_in n) (rules_in_named (rest (i + 1) ns)) ∙ ap (λ m. saturated_count (all + rules_in_named m)) (sym (rest_at i ns k n e))

pub properties_none : (i : ℕ) (ns : Named) (all : ℕ) → all < 2 ^ 64 → ◌≡◌ {A = Option (List ℕ × Node)} None (nth_named i ns)
    → all ≡ saturated_count (all + rules_in_named (rest i ns))
unfolding rules_in_named
properties_none i ns all h e = counted_none all h ∙ ap (λ m. saturated_count (all + rules_in_named m)) (sym (rest_none i ns e))

pub properties_past : (i : ℕ) (ns : Named) (all : ℕ) → all < 2 ^ 64 → length (names ns) ≤ i → all ≡ saturated_count (all + rules_in_named (rest i ns))
unfolding rules_in_named
properties_past i ns all h past = counted_none all h ∙ ap (λ m. saturated_count (all + rules_in_named m)) (sym (rest_past i ns past))

-- ---- the remaining branches

pub branches_more : (i : ℕ) (ns : Nodes) (n : Node) (all : ℕ) → Some n ≡ nth_node i ns
    → saturated_count (saturated_count (all + rules_in n) + rules_in_nodes (rest_nodes (i + 1) ns)) ≡ saturated_count (all + rules_in_nodes (rest_nodes i ns))
unfolding rules_in_nodes
branches_more i ns n all e = rw add-one (
    counted_more all (rules_in n) (rules_in_nodes (rest_nodes (suc i) ns)) ∙ ap (λ m. saturated_count (all + rules_in_nodes m)) (sym (nodes_next i ns n e)))

pub branches_none : (i : ℕ) (ns : Nodes) (all : ℕ) → all < 2 ^ 64 → ◌≡◌ {A = Option Node} None (nth_node i ns)
    → all ≡ saturated_count (all + rules_in_nodes (rest_nodes i ns))
unfolding rules_in_nodes
branches_none i ns all h e = counted_none all h ∙ ap (λ m. saturated_count (all + rules_in_nodes m)) (sym (nodes_none i ns e))

pub branches_past : (i : ℕ) (ns : Nodes) (all : ℕ) → all < 2 ^ 64 → nodes_length ns ≤ i → all ≡ saturated_count (all + rules_in_nodes (rest_nodes i ns))
unfolding rules_in_nodes
branches_past i ns all h past = counted_none all h ∙ ap (λ m. saturated_count (all + rules_in_nodes m)) (sym (nodes_past i ns past))

-- ---- all parts of a node

maybe_option : (m : Maybe) → rules_in_option (as_option m) ≡ rules_in_maybe m
unfolding rules_in_maybe
maybe_option nothing = refl
maybe_option (just n) = refl

chain : (e0 e1 e2 e3 e4 e5 e6 e7 a b c d f g h : ℕ) → e1 ≡ saturated_count (e0 + a) → e2 ≡ saturated_count (e1 + b) → e3 ≡ saturated_count (e2 + c) → e4 ≡ saturated_count (e3 + d)
    → e5 ≡ saturated_count (e4 + f) → e6 ≡ saturated_count (e5 + g) → e7 ≡ saturated_count (e6 + h) → e7 ≡ saturated_count (e0 + (a + (b + (c + (d + (f + (g + h)))))))
chain e0 e1 e2 e3 e4 e5 e6 e7 a b c d f g h q1 q2 q3 q4 q5 q6 q7 =
    let s1 : e2 ≡ saturated_count (e0 + (a + b)) = q2 ∙ ap (λ n. saturated_count (n + b)) q1 ∙ counted_more e0 a b in
    let s2 : e3 ≡ saturated_count (e0 + ((a + b) + c)) = q3 ∙ ap (λ n. saturated_count (n + c)) s1 ∙ counted_more e0 (a + b) c in
    let s3 : e4 ≡ saturated_count (e0 + (((a + b) + c) + d)) = q4 ∙ ap (λ n. saturated_count (n + d)) s2 ∙ counted_more e0 ((a + b) + c) d in
    let s4 : e5 ≡ saturated_count (e0 + ((((a + b) + c) + d) + f)) = q5 ∙ ap (λ n. saturated_count (n + f)) s3 ∙ counted_more e0 (((a + b) + c) + d) f in
    let s5 : e6 ≡ saturated_count (e0 + (((((a + b) + c) + d) + f) + g)) = q6 ∙ ap (λ n. saturated_count (n + g)) s4 ∙ counted_more e0 ((((a + b) + c) + d) + f) g in
    let s6 : e7 ≡ saturated_count (e0 + ((((((a + b) + c) + d) + f) + g) + h)) = q7 ∙ ap (λ n. saturated_count (n + h)) s5 ∙ counted_more e0 (((((a + b) + c) + d) + f) + g) h in
    let flat : ((((((a + b) + c) + d) + f) + g) + h) ≡ (a + (b + (c + (d + (f + (g + h)))))) = omega arith in
    s6 ∙ ap (λ n. saturated_count (e0 + n)) flat

-- the successive counts at one node add up to the count of the node
pub all_counted : (m : Node) (e0 e1 e2 e3 e4 e5 e6 e7 : ℕ)
    → e1 ≡ saturated_count (e0 + length (own m).validations)
    → e2 ≡ saturated_count (e1 + rules_in_named (named_of m))
    → e3 ≡ saturated_count (e2 + rules_in_option (items_of m))
    → e4 ≡ saturated_count (e3 + rules_in_option (additional_of m))
    → e5 ≡ saturated_count (e4 + rules_in_nodes (branches_of AllOf m))
    → e6 ≡ saturated_count (e5 + rules_in_nodes (branches_of OneOf m))
    → e7 ≡ saturated_count (e6 + rules_in_nodes (branches_of AnyOf m))
    → e7 ≡ saturated_count (e0 + rules_in m)
unfolding rules_in
all_counted (node o ps it ad xs ys zs) e0 e1 e2 e3 e4 e5 e6 e7 q1 q2 q3 q4 q5 q6 q7 =
    chain e0 e1 e2 e3 e4 e5 e6 e7 (length o.validations) (rules_in_named ps) (rules_in_maybe it) (rules_in_maybe ad) (rules_in_nodes xs) (rules_in_nodes ys) (rules_in_nodes zs)
    q1 q2 (q3 ∙ ap (λ n. saturated_count (e2 + n)) (maybe_option it)) (q4 ∙ ap (λ n. saturated_count (e3 + n)) (maybe_option ad)) q5 q6 q7
