-- The findings at a node, part by part; and that the
-- nodes within a node are fewer than those of the node.
use Rattle.std.proofs.Common.{◌≡◌, ◌<◌, ◌≤◌, ◌+◌, ℕ, zero, suc, List, ◌++◌, length, Option, Some, None, refl, sym, ap, ◌∙◌, add-one, append_assoc, append-nil, arith}
use Rattle.kube_cel_analysis.proofs.Rest.{rest, rest_at, rest_none, rest_past}
use Rattle.kube_cel_analysis.specs.Findings.{Finding, Naming, rules_findings}
use Rattle.kube_cel_analysis.specs.Lint.{branch_findings, findings, findings_at, maybe_findings, named_findings}
use Rattle.kube_cel_analysis.specs.Pointers.{additional_pointer, branch_pointer, items_pointer, property_pointer}
use Rattle.kube_schema.specs.BranchKind.{BranchKind}
use Rattle.kube_schema.specs.BranchKind.TheVariants.{AllOf, OneOf, AnyOf}
use Rattle.kube_schema.specs.Tree.{branches_of, Node, node, Maybe, nothing, just, Named, no_named, named, Nodes, no_nodes, more, additional_of, all_of, any_of, as_option, count, items_of, maybe_count, named_count, named_of, nodes_count, nodes_length, nth_named, nth_node, one_of, own}
use Rattle.kube_schema.specs.Tree as tree

-- ---- fewer nodes

in_maybe : (m : Maybe) (n : Node) → Some n ≡ as_option m → count n ≤ maybe_count m
in_maybe nothing n e = cc
in_maybe (just x) n e = let same : n ≡ x = cc in rw same (omega arith)

same_node : (p q : List ℕ × Node) → Some p ≡ Some q → p.1 ≡ q.1
same_node p q e = let same : p ≡ q = cc in ap (λ (r : List ℕ × Node). r.1) same

in_named : (i : ℕ) (ns : Named) (k : List ℕ) (n : Node) → Some (k, n) ≡ nth_named i ns → count n ≤ named_count ns
in_named i no_named k n e = cc
in_named zero (named l x ns) k n e = rw (same_node (k, n) (l, x) e) (omega arith)
in_named (suc i) (named l x ns) k n e = omega (arith, in_named i ns k n e)

in_nodes : (i : ℕ) (ns : Nodes) (n : Node) → Some n ≡ nth_node i ns → count n ≤ nodes_count ns
in_nodes i no_nodes n e = cc
in_nodes zero (more x ns) n e = let same : n ≡ x = cc in rw same (omega arith)
in_nodes (suc i) (more x ns) n e = omega (arith, in_nodes i ns n e)

pub fewer_in_items : (m n : Node) → Some n ≡ items_of m → count n < count m
fewer_in_items (node o ps it ad xs ys zs) n e = omega (arith, in_maybe it n e)

pub fewer_in_additional : (m n : Node) → Some n ≡ additional_of m → count n < count m
fewer_in_additional (node o ps it ad xs ys zs) n e = omega (arith, in_maybe ad n e)

pub fewer_in_property : (m : Node) (i : ℕ) (k : List ℕ) (n : Node) → Some (k, n) ≡ nth_named i (named_of m) → count n < count m
fewer_in_property (node o ps it ad xs ys zs) i k n e = omega (arith, in_named i ps k n e)

pub fewer_in_branch : (kind : BranchKind) (m : Node) (i : ℕ) (n : Node) → Some n ≡ nth_node i (branches_of kind m) → count n < count m
fewer_in_branch AllOf (node o ps it ad xs ys zs) i n e = omega (arith, in_nodes i xs n e)
fewer_in_branch OneOf (node o ps it ad xs ys zs) i n e = omega (arith, in_nodes i ys n e)
fewer_in_branch AnyOf (node o ps it ad xs ys zs) i n e = omega (arith, in_nodes i zs n e)

-- ---- branches that are left

abbrev pub rest_nodes : ℕ → Nodes → Nodes
rest_nodes zero ns = ns
rest_nodes (suc i) no_nodes = no_nodes
rest_nodes (suc i) (more n ns) = rest_nodes i ns

same_first : (m n : Node) (ns : Nodes) → Some m ≡ Some n → more n ns ≡ more m ns
same_first m n ns e = let same : m ≡ n = cc in ap (λ (x : Node). more x ns) (sym same)

pub nodes_next : (i : ℕ) (ns : Nodes) (n : Node) → Some n ≡ nth_node i ns → rest_nodes i ns ≡ more n (rest_nodes (suc i) ns)
nodes_next zero no_nodes n e = cc
nodes_next zero (more m ns) n e = same_first n m ns e
nodes_next (suc i) no_nodes n e = cc
nodes_next (suc i) (more m ns) n e = nodes_next i ns n e

pub nodes_none : (i : ℕ) (ns : Nodes) → ◌≡◌ {A = Option Node} None (nth_node i ns) → rest_nodes i ns ≡ no_nodes
nodes_none zero no_nodes e = refl
nodes_none zero (more m ns) e = cc
nodes_none (suc i) no_nodes e = refl
nodes_none (suc i) (more m ns) e = nodes_none i ns e

pub nodes_past : (i : ℕ) (ns : Nodes) → nodes_length ns ≤ i → rest_nodes i ns ≡ no_nodes
nodes_past zero no_nodes h = refl
nodes_past zero (more m ns) h = let no : ⊥ = omega (arith, h) in absurd no
nodes_past (suc i) no_nodes h = refl
nodes_past (suc i) (more m ns) h = nodes_past i ns (omega (arith, h))

-- ---- loops

module _ (names : Naming) (p : List ℕ) where
  pub named_none : (i : ℕ) (ns : Named) (had : List Finding) → ◌≡◌ {A = Option (List ℕ × Node)} None (nth_named i ns) → had ≡ had ++ named_findings names p (rest i ns)
  unfolding named_findings
  named_none i ns had e = sym (append-nil had) ∙ ap (λ m. had ++ named_findings names p m) (sym (rest_none i ns e))

  pub named_past : (i : ℕ) (ns : Named) (had : List Finding) → length (tree.names ns) ≤ i → had ≡ had ++ named_findings names p (rest i ns)
  unfolding named_findings
  named_past i ns had h = sym (append-nil had) ∙ ap (λ m. had ++ named_findings names p m) (sym (rest_past i ns h))

  pub named_more : (i : ℕ) (ns : Named) (k : List ℕ) (n : Node) (had new : List Finding) → Some (k, n) ≡ nth_named i ns → new ≡ had ++ findings names (property_pointer p k) n
      → new ++ named_findings names p (rest (i + 1) ns) ≡ had ++ named_findings names p (rest i ns)
  unfolding named_findings
  named_more i ns k n had new e h =
      ap (λ r. r ++ named_findings names p (rest (i + 1) ns)) h
      ∙ append_assoc had (findings names (property_pointer p k) n) (named_findings names p (rest (i + 1) ns))
      ∙ ap (λ m. had ++ named_findings names p m) (sym (rest_at i ns k n e))

  pub branches_none : (kind : BranchKind) (i : ℕ) (ns : Nodes) (had : List Finding) → ◌≡◌ {A = Option Node} None (nth_node i ns) → had ≡ had ++ branch_findings names kind p i (rest_nodes i ns)
  unfolding branch_findings
  branches_none kind i ns had e = sym (append-nil had) ∙ ap (λ m. had ++ branch_findings names kind p i m) (sym (nodes_none i ns e))

  pub branches_past : (kind : BranchKind) (i : ℕ) (ns : Nodes) (had : List Finding) → nodes_length ns ≤ i → had ≡ had ++ branch_findings names kind p i (rest_nodes i ns)
  unfolding branch_findings
  branches_past kind i ns had h = sym (append-nil had) ∙ ap (λ m. had ++ branch_findings names kind p i m) (sym (nodes_past i ns h))

  pub branches_more : (kind : BranchKind) (i : ℕ) (ns : Nodes) (n : Node) (had new : List Finding) → Some n ≡ nth_node i ns → new ≡ had ++ findings names (branch_pointer kind p i) n
      → new ++ branch_findings names kind p (i + 1) (rest_nodes (i + 1) ns) ≡ had ++ branch_findings names kind p i (rest_nodes i ns)
  unfolding branch_findings
  branches_more kind i ns n had new e h = rw add-one (
      ap (λ r. r ++ branch_findings names kind p (suc i) (rest_nodes (suc i) ns)) h
      ∙ append_assoc had (findings names (branch_pointer kind p i) n) (branch_findings names kind p (suc i) (rest_nodes (suc i) ns))
      ∙ ap (λ m. had ++ branch_findings names kind p i m) (sym (nodes_next i ns n e)))

  -- ---- all parts

  maybe_at : (q : List ℕ) (m : Maybe) → maybe_findings names q m ≡ findings_at names q (as_option m)
  unfolding maybe_findings
  maybe_at q nothing = refl
  maybe_at q (just n) = refl

  regroup : (a v q i x l o n : List Finding) → (((((((a ++ v) ++ q) ++ i) ++ x) ++ l) ++ o) ++ n) ≡ a ++ (v ++ (q ++ (i ++ (x ++ (l ++ (o ++ n))))))
  regroup a v q i x l o n = simp append_assoc

  -- what the calls at one node add, one after the other, is the findings there
  pub gathered : (m : Node) (e0 e1 e2 e3 e4 e5 e6 e7 : List Finding)
      → e1 ≡ e0 ++ rules_findings names p m (own m).validations
      → e2 ≡ e1 ++ named_findings names p (named_of m)
      → e3 ≡ e2 ++ findings_at names (items_pointer p) (items_of m)
      → e4 ≡ e3 ++ findings_at names (additional_pointer p) (additional_of m)
      → e5 ≡ e4 ++ branch_findings names AllOf p 0 (all_of m)
      → e6 ≡ e5 ++ branch_findings names OneOf p 0 (one_of m)
      → e7 ≡ e6 ++ branch_findings names AnyOf p 0 (any_of m)
      → e7 ≡ e0 ++ findings names p m
  unfolding findings
  gathered (node o ps it ad xs ys zs) e0 e1 e2 e3 e4 e5 e6 e7 q1 q2 q3 q4 q5 q6 q7 =
      let R = rules_findings names p (node o ps it ad xs ys zs) o.validations in
      let P = named_findings names p ps in
      let I = findings_at names (items_pointer p) (as_option it) in
      let X = findings_at names (additional_pointer p) (as_option ad) in
      let L = branch_findings names AllOf p 0 xs in
      let O = branch_findings names OneOf p 0 ys in
      let N = branch_findings names AnyOf p 0 zs in
      let joined : e7 ≡ (((((((e0 ++ R) ++ P) ++ I) ++ X) ++ L) ++ O) ++ N) =
      q7 ∙ ap (λ r. r ++ N) (q6 ∙ ap (λ r. r ++ O) (q5 ∙ ap (λ r. r ++ L) (q4 ∙ ap (λ r. r ++ X) (q3 ∙ ap (λ r. r ++ I) (q2 ∙ ap (λ r. r ++ P) q1))))) in
      joined ∙ regroup e0 R P I X L O N
      ∙ ap (λ w. e0 ++ (R ++ (P ++ (w ++ (X ++ (L ++ (O ++ N))))))) (sym (maybe_at (items_pointer p) it))
      ∙ ap (λ w. e0 ++ (R ++ (P ++ (maybe_findings names (items_pointer p) it ++ (w ++ (L ++ (O ++ N))))))) (sym (maybe_at (additional_pointer p) ad))
