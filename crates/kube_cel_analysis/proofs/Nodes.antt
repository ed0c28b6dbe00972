-- The findings of a schema are those at all of its nodes.
use Rattle.kube_cel_analysis.specs.Findings.{Finding, Naming, rules_findings}
use Rattle.kube_cel_analysis.specs.Lint.{branch_findings, findings, maybe_findings, named_findings}
use Rattle.kube_cel_analysis.specs.Nodes.{AreFoundAtNodes, found_at, goes, pointer_after, pointer_behind}
use Rattle.kube_cel_analysis.specs.Pointers.{additional_pointer, branch_pointer, items_pointer, property_pointer}
use Rattle.kube_schema_rules.proofs.ByKind.{branches_in_order, extras_in_order, items_in_order, kind_before, last_kind, properties_in_order}
use Rattle.kube_schema_rules.proofs.Found.{answers_more, flat_map-map, flat_map_same}
use Rattle.kube_schema_rules.proofs.Ordered.{IsIn, are_places, in_left, in_map, in_right}
use Rattle.kube_schema_rules.proofs.Sorted.{in_ordered, in_up, key_cmp, same_key}
use Rattle.kube_schema.specs.BranchKind.{BranchKind}
use Rattle.kube_schema.specs.BranchKind.TheVariants.{AllOf, OneOf, AnyOf}
use Rattle.kube_schema.specs.Inside.{in_order, insert_key, up_to}
use Rattle.kube_schema.specs.Step.{Step, property, item, additional_property, branch, step_cmp}
use Rattle.kube_schema.specs.Walk.{answers, if_some, leads, places}
use Rattle.kube_schema.specs.declared.node.CompiledSchema.{CompiledSchema}
use Rattle.kube_schema.specs.declared.nodes.NodeId.{NodeId}
use Rattle.kube_schema.specs.declared.nodes.PropertyLink.{PropertyLink}
use Rattle.kube_schema.specs.declared.nodes.TableNode.{TableNode}
use Rattle.kube_schema.specs.declared.node_keywords.NodeKeywords.{Ghosts}
use Rattle.kube_schema.specs.Raw.{AllOrdered, assemble, assemble_some, link_names, maybe_at, named_at, nodes_at, tree, tree_in, with_children}
use Rattle.kube_schema.specs.Shown.{whole}
use Rattle.kube_schema.specs.Tree.{branches_of, Own, Node, node, Maybe, nothing, just, Named, no_named, named, Nodes, no_nodes, more, all_of, any_of, as_option, count, find, maybe_count, named_count, named_of, names, nodes_count, nodes_length, nth_node, one_of, own}
use Rattle.std.proofs.Common.{◌≡◌, ◌<◌, ◌≤◌, ◌+◌, ℕ, zero, suc, List, [], ◌∷◌, ◌++◌, map, length, Option, Some, None, option_map, option_and_then, IsSome, Ordering, Less, Equal, Greater, refl, sym, ap, ◌∙◌, subst, inl, inr, append-nil, arith, string_bytes, slice_get}
use Rattle.std.proofs.lemmas.Cmp.{nat_list_cmp_total, tied_itself}
use Rattle.std.proofs.lemmas.List.Concat.{flat_map-append}
use Rattle.std.specs.List.{AllByRecursion, flat_map}
use Rattle.std.specs.List.Sorted.{IsStrictlySortedBy}
use Rattle.std.specs.Ordering.{match_ordering, ordering_reverse}

-- ---- nodes whose properties are in the order of names

abbrev mutual
  pub IsOrdered : Node → Type 0
  IsOrdered (node o ps it ad xs ys zs) = IsStrictlySortedBy key_cmp (names ps) × NamedOrdered ps × MaybeOrdered it × MaybeOrdered ad × NodesOrdered xs × NodesOrdered ys × NodesOrdered zs

  NamedOrdered : Named → Type 0
  NamedOrdered no_named = Unit {0}
  NamedOrdered (named k n ns) = IsOrdered n × NamedOrdered ns

  MaybeOrdered : Maybe → Type 0
  MaybeOrdered nothing = Unit {0}
  MaybeOrdered (just n) = IsOrdered n

  NodesOrdered : Nodes → Type 0
  NodesOrdered no_nodes = Unit {0}
  NodesOrdered (more n ns) = IsOrdered n × NodesOrdered ns

-- ---- lists

flat_map_where : {X Y : Type 0} (P : X → Type 0) (f g : X → List Y) → ((x : X) → P x → f x ≡ g x) → (xs : List X) → AllByRecursion P xs → flat_map f xs ≡ flat_map g xs
flat_map_where P f g same [] h = refl
flat_map_where P f g same (x ∷ xs) h = λ i. same x h.0 i ++ flat_map_where P f g same xs h.1 i

six_parts : {X Y : Type 0} (f : X → List Y) (a b c d e g : List X) → flat_map f (a ++ (b ++ (c ++ (d ++ (e ++ g)))))
    ≡ flat_map f a ++ (flat_map f b ++ (flat_map f c ++ (flat_map f d ++ (flat_map f e ++ flat_map f g))))
six_parts f a b c d e g =
    flat_map-append f a (b ++ (c ++ (d ++ (e ++ g)))) ∙ ap (λ r. flat_map f a ++ r)
    (flat_map-append f b (c ++ (d ++ (e ++ g))) ∙ ap (λ r. flat_map f b ++ r)
    (flat_map-append f c (d ++ (e ++ g)) ∙ ap (λ r. flat_map f c ++ r)
    (flat_map-append f d (e ++ g) ∙ ap (λ r. flat_map f d ++ r) (flat_map-append f e g))))

insert_first : (k : List ℕ) (ks : List (List ℕ)) → AllByRecursion (λ y. key_cmp k y ≡ Less) ks → insert_key k ks ≡ k ∷ ks
insert_first k [] h = refl
insert_first k (l ∷ ks) h = ap (λ o. match_ordering o (k ∷ l ∷ ks) (l ∷ ks) (l ∷ insert_key k ks)) h.0

in_order_same : (ks : List (List ℕ)) → IsStrictlySortedBy key_cmp ks → in_order ks ≡ ks
unfolding IsStrictlySortedBy
in_order_same [] h = refl
in_order_same (k ∷ ks) h = ap (insert_key k) (in_order_same ks h.1) ∙ insert_first k ks h.0

next_last : (xs : List ℕ) (n : ℕ) → map (λ i. suc i) xs ++ suc n ∷ [] ≡ map (λ i. suc i) (xs ++ n ∷ [])
next_last [] n = refl
next_last (x ∷ xs) n = ap (λ r. suc x ∷ r) (next_last xs n)

up_from_zero : (n : ℕ) → up_to (suc n) ≡ 0 ∷ map (λ i. suc i) (up_to n)
unfolding up_to
up_from_zero zero = refl
up_from_zero (suc n) = ap (λ r. r ++ suc n ∷ []) (up_from_zero n) ∙ ap (λ r. 0 ∷ r) (next_last (up_to n) n)

-- ---- the steps that may be allowed

abbrev candidates : Node → List Step
candidates n =
    map property (in_order (names (named_of n))) ++ (map item (up_to 1) ++ (map additional_property (in_order ([] ∷ []))
    ++ (map (branch AllOf) (up_to (nodes_length (all_of n))) ++ (map (branch OneOf) (up_to (nodes_length (one_of n))) ++ map (branch AnyOf) (up_to (nodes_length (any_of n)))))))

candidates_sorted : (n : Node) → IsStrictlySortedBy step_cmp (candidates n)
candidates_sorted n =
    (kind_before 0 (map property (in_order (names (named_of n)))) _ (properties_in_order (names (named_of n)))
    (kind_before 1 (map item (up_to 1)) _ (items_in_order 1)
    (kind_before 2 (map additional_property (in_order ([] ∷ []))) _ (extras_in_order ([] ∷ []))
    (kind_before 3 (map (branch AllOf) (up_to (nodes_length (all_of n)))) _ (branches_in_order AllOf (nodes_length (all_of n)))
    (kind_before 4 (map (branch OneOf) (up_to (nodes_length (one_of n)))) _ (branches_in_order OneOf (nodes_length (one_of n)))
    (last_kind 5 (map (branch AnyOf) (up_to (nodes_length (any_of n)))) (branches_in_order AnyOf (nodes_length (any_of n))))))))).sorted

in_names : (k : List ℕ) (ns : Named) → IsSome (find k ns) → IsIn k (names ns)
in_names k no_named h = cc
in_names k (named l n ns) h = by (key_cmp k l) refl h (λ g. in_names k ns g)
  where
    by : (o : Ordering) → key_cmp k l ≡ o → IsSome (match_ordering o (find k ns) (Some n) (find k ns)) → (IsSome (find k ns) → IsIn k (names ns)) → IsIn k (names (named l n ns))
    by Less e h r = inr (r h)
    by Equal e h r = inl (sym (same_key k l e))
    by Greater e h r = inr (r h)

in_length : (i : ℕ) (ns : Nodes) → IsSome (nth_node i ns) → i < nodes_length ns
in_length i no_nodes h = cc
in_length zero (more n ns) h = omega arith
in_length (suc i) (more n ns) h = let r = in_length i ns h in omega arith

in_branches : (kind : BranchKind) (i : ℕ) (n : Node) → IsSome (nth_node i (branches_of kind n)) → IsIn (branch kind i) (map (branch AllOf) (up_to (nodes_length (all_of n)))
    ++ (map (branch OneOf) (up_to (nodes_length (one_of n))) ++ map (branch AnyOf) (up_to (nodes_length (any_of n)))))
in_branches AllOf i n h = in_left (branch AllOf i) (map (branch AllOf) (up_to (nodes_length (all_of n)))) _ (in_map (branch AllOf) i (up_to (nodes_length (all_of n))) (in_up i (nodes_length (all_of n)) (in_length i (all_of n) h)))
in_branches OneOf i n h = in_right (branch OneOf i) (map (branch AllOf) (up_to (nodes_length (all_of n)))) _
    (in_left (branch OneOf i) (map (branch OneOf) (up_to (nodes_length (one_of n)))) _ (in_map (branch OneOf) i (up_to (nodes_length (one_of n))) (in_up i (nodes_length (one_of n)) (in_length i (one_of n) h))))
in_branches AnyOf i n h = in_right (branch AnyOf i) (map (branch AllOf) (up_to (nodes_length (all_of n)))) _
    (in_right (branch AnyOf i) (map (branch OneOf) (up_to (nodes_length (one_of n)))) _ (in_map (branch AnyOf) i (up_to (nodes_length (any_of n))) (in_up i (nodes_length (any_of n)) (in_length i (any_of n) h))))

candidates_all : (p : Step) (n : Node) → IsSome (goes p n) → IsIn p (candidates n)
unfolding goes
candidates_all (property k) n h = in_left (property k) (map property (in_order (names (named_of n)))) _ (in_map property k (in_order (names (named_of n))) (in_ordered k (names (named_of n)) (in_names k (named_of n) h)))
candidates_all (item zero) n h = in_right (item 0) (map property (in_order (names (named_of n)))) _ (in_left (item 0) (map item (up_to 1)) _ (in_map item 0 (up_to 1) (in_up 0 1 (omega arith))))
candidates_all (item (suc i)) n h = cc
candidates_all (additional_property []) n h =
    in_right (additional_property []) (map property (in_order (names (named_of n)))) _ (in_right (additional_property []) (map item (up_to 1)) _
    (in_left (additional_property []) (map additional_property (in_order ([] ∷ []))) _ (in_map additional_property [] (in_order ([] ∷ [])) (in_ordered [] ([] ∷ []) (inl refl)))))
candidates_all (additional_property (b ∷ bs)) n h = cc
candidates_all (branch kind i) n h =
    in_right (branch kind i) (map property (in_order (names (named_of n)))) _ (in_right (branch kind i) (map item (up_to 1)) _
    (in_right (branch kind i) (map additional_property (in_order ([] ∷ []))) _ (in_branches kind i n h)))

-- ---- nodes with their pointers

abbrev At : Type 0
At = List ℕ × Node

abbrev goes_at : Step → At → Option At
goes_at p s = option_map (λ m. (pointer_after s.0 p, m)) (goes p s.1)

abbrev candidates_at : At → List Step
candidates_at s = candidates s.1

abbrev found_here : Naming → At → List Finding
found_here names s = rules_findings names s.0 s.1 (own s.1).validations

some_map : {X Y : Type 0} (f : X → Y) (o : Option X) → IsSome o → IsSome (option_map f o)
some_map f None h = h
some_map f (Some x) h = refl

some_of_map : {X Y : Type 0} (f : X → Y) (o : Option X) → IsSome (option_map f o) → IsSome o
some_of_map f None h = h
some_of_map f (Some x) h = refl

leads_at : (steps : List Step) (p : List ℕ) (n : Node) → leads goes_at steps (p, n) ≡ option_map (λ m. (pointer_behind p steps, m)) (leads goes steps n)
unfolding leads pointer_behind
leads_at [] p n = refl
leads_at (s ∷ steps) p n = by (goes s n) (λ m. leads_at steps (pointer_after p s) m)
  where
    by : (o : Option Node) → ((m : Node) → leads goes_at steps (pointer_after p s, m) ≡ option_map (λ k. (pointer_behind (pointer_after p s) steps, k)) (leads goes steps m))
        → option_and_then (leads goes_at steps) (option_map (λ m. (pointer_after p s, m)) o) ≡ option_map (λ m. (pointer_behind (pointer_after p s) steps, m)) (option_and_then (leads goes steps) o)
    by None rec = refl
    by (Some m) rec = rec m

found_same : (names : Naming) (root : Node) (steps : List Step) → if_some (found_here names) (leads goes_at steps ([], root)) ≡ found_at names root steps
unfolding found_at
found_same names root steps = ap (if_some (found_here names)) (leads_at steps [] root) ∙ by (leads goes steps root)
  where
    by : (o : Option Node) → if_some (found_here names) (option_map (λ m. (pointer_behind [] steps, m)) o) ≡ if_some (λ n. rules_findings names (pointer_behind [] steps) n (own n).validations) o
    by None = refl
    by (Some m) = refl

-- ---- no list of steps is longer than the tree

find_falls : (k : List ℕ) (ns : Named) (m : Node) → find k ns ≡ Some m → count m ≤ named_count ns
find_falls k no_named m e = cc
find_falls k (named l n ns) m e = by (key_cmp k l) e (find_falls k ns m)
  where
    by : (o : Ordering) → match_ordering o (find k ns) (Some n) (find k ns) ≡ Some m → (find k ns ≡ Some m → count m ≤ named_count ns) → count m ≤ count n + named_count ns
    by Less e r = let below = r e in omega (arith, below)
    by Equal e r = let same : n ≡ m = cc in let counted = ap count same in omega (arith, counted)
    by Greater e r = let below = r e in omega (arith, below)

maybe_falls : (o : Maybe) (m : Node) → as_option o ≡ Some m → count m ≤ maybe_count o
maybe_falls nothing m e = cc
maybe_falls (just n) m e = let same : n ≡ m = cc in let counted = ap count same in omega (arith, counted)

nth_falls : (i : ℕ) (ns : Nodes) (m : Node) → nth_node i ns ≡ Some m → count m ≤ nodes_count ns
nth_falls i no_nodes m e = cc
nth_falls zero (more n ns) m e = let same : n ≡ m = cc in let counted = ap count same in omega (arith, counted)
nth_falls (suc i) (more n ns) m e = let below = nth_falls i ns m e in omega (arith, below)

step_falls : (p : Step) (n m : Node) → goes p n ≡ Some m → count m < count n
unfolding goes
step_falls (property k) (node o ps it ad xs ys zs) m e = let below = find_falls k ps m e in omega (arith, below)
step_falls (item zero) (node o ps it ad xs ys zs) m e = let below = maybe_falls it m e in omega (arith, below)
step_falls (item (suc i)) n m e = cc
step_falls (additional_property []) (node o ps it ad xs ys zs) m e = let below = maybe_falls ad m e in omega (arith, below)
step_falls (additional_property (b ∷ bs)) n m e = cc
step_falls (branch AllOf i) (node o ps it ad xs ys zs) m e = let below = nth_falls i xs m e in omega (arith, below)
step_falls (branch OneOf i) (node o ps it ad xs ys zs) m e = let below = nth_falls i ys m e in omega (arith, below)
step_falls (branch AnyOf i) (node o ps it ad xs ys zs) m e = let below = nth_falls i zs m e in omega (arith, below)

some_node : (n : Node) → 0 < count n
some_node (node o ps it ad xs ys zs) = omega arith

steps_short : (steps : List Step) (n : Node) → IsSome (leads goes steps n) → length steps < count n
unfolding leads
steps_short [] n h = some_node n
steps_short (p ∷ steps) n h = by (goes p n) refl h (λ m. steps_short steps m)
  where
    by : (o : Option Node) → goes p n ≡ o → IsSome (option_and_then (leads goes steps) o) → ((m : Node) → IsSome (leads goes steps m) → length steps < count m) → suc (length steps) < count n
    by None e h rec = cc
    by (Some m) e h rec = let short = rec m h in let falls = step_falls p n m e in omega (arith, short, falls)

-- ---- the findings from a node on

module _ (naming : Naming) where
  abbrev found_from : ℕ → At → List Finding
  found_from n s = answers goes_at candidates_at (found_here naming) n s

  abbrev found_through : ℕ → At → Step → List Finding
  found_through n s p = if_some (found_from n) (goes_at p s)

  next : (i j : ℕ) → suc i + j ≡ i + suc j
  next i j = omega arith

  from_first : (kind : BranchKind) (q : List ℕ) (n : ℕ) (ns : Nodes) → flat_map (λ j. if_some (found_from n) (option_map (λ m. (branch_pointer kind q (0 + j), m)) (nth_node j ns))) (up_to (nodes_length ns))
      ≡ flat_map (λ j. if_some (found_from n) (option_map (λ m. (branch_pointer kind q j, m)) (nth_node j ns))) (up_to (nodes_length ns))
  from_first kind q n ns = flat_map_same _ _ (λ j. let same : 0 + j ≡ j = omega arith in ap (λ k. if_some (found_from n) (option_map (λ m. (branch_pointer kind q k, m)) (nth_node j ns))) same) (up_to (nodes_length ns))

  mutual
    unfolding findings named_findings maybe_findings branch_findings goes up_to IsStrictlySortedBy

    node_found : (t : Node) (q : List ℕ) (n : ℕ) → IsOrdered t → count t ≤ n → findings naming q t ≡ found_from n (q, t)
    node_found (node o ps it ad xs ys zs) q zero h l = absurd (omega (arith, l))
    node_found (node o ps it ad xs ys zs) q (suc n) h l =
        let t = node o ps it ad xs ys zs in
        let through = found_through n (q, t) in
        let first = named_found ps q n h.0 h.1 (omega (arith, l)) ∙ sym (flat_map-map through property (names ps)) ∙ ap (λ ks. flat_map through (map property ks)) (sym (in_order_same (names ps) h.0)) in
        let second = maybe_found it (items_pointer q) n h.2 (omega (arith, l)) ∙ sym (append-nil (through (item 0))) in
        let third = maybe_found ad (additional_pointer q) n h.3 (omega (arith, l)) ∙ sym (append-nil (through (additional_property []))) in
        let fourth = nodes_found xs AllOf q 0 n h.4 (omega (arith, l)) ∙ from_first AllOf q n xs ∙ sym (flat_map-map through (branch AllOf) (up_to (nodes_length xs))) in
        let fifth = nodes_found ys OneOf q 0 n h.5 (omega (arith, l)) ∙ from_first OneOf q n ys ∙ sym (flat_map-map through (branch OneOf) (up_to (nodes_length ys))) in
        let sixth = nodes_found zs AnyOf q 0 n h.6 (omega (arith, l)) ∙ from_first AnyOf q n zs ∙ sym (flat_map-map through (branch AnyOf) (up_to (nodes_length zs))) in
        (λ i. rules_findings naming q t o.validations ++ (first i ++ (second i ++ (third i ++ (fourth i ++ (fifth i ++ sixth i))))))
        ∙ ap (λ r. rules_findings naming q t o.validations ++ r)
        (sym (six_parts through (map property (in_order (names ps))) (map item (up_to 1)) (map additional_property (in_order ([] ∷ [])))
        (map (branch AllOf) (up_to (nodes_length xs))) (map (branch OneOf) (up_to (nodes_length ys))) (map (branch AnyOf) (up_to (nodes_length zs)))))
        ∙ sym (answers_more goes_at candidates_at (found_here naming) n (q, t))

    named_found : (ns : Named) (q : List ℕ) (n : ℕ) → IsStrictlySortedBy key_cmp (names ns) → NamedOrdered ns → named_count ns ≤ n
        → named_findings naming q ns ≡ flat_map (λ k. if_some (found_from n) (option_map (λ m. (property_pointer q k, m)) (find k ns))) (names ns)
    named_found no_named q n s h l = refl
    named_found (named k m ns) q n s h l =
        let here = node_found m (property_pointer q k) n h.0 (omega (arith, l))
        ∙ sym (ap (λ o. if_some (found_from n) (option_map (λ m. (property_pointer q k, m)) (match_ordering o (find k ns) (Some m) (find k ns)))) (tied_itself nat_list_cmp_total k)) in
        let left = λ (j : List ℕ). if_some (found_from n) (option_map (λ m. (property_pointer q j, m)) (find j ns)) in
        let whole_at = λ (j : List ℕ). if_some (found_from n) (option_map (λ m. (property_pointer q j, m)) (find j (named k m ns))) in
        let rest = named_found ns q n s.1 h.1 (omega (arith, l))
        ∙ flat_map_where (λ j. key_cmp k j ≡ Less) left whole_at
        (λ j below. ap (λ o. if_some (found_from n) (option_map (λ m. (property_pointer q j, m)) (match_ordering o (find j ns) (Some m) (find j ns)))) (sym (nat_list_cmp_total.antisymm j k ∙ ap ordering_reverse below)))
        (names ns) s.0 in
        (λ i. here i ++ rest i)

    maybe_found : (o : Maybe) (q : List ℕ) (n : ℕ) → MaybeOrdered o → maybe_count o ≤ n → maybe_findings naming q o ≡ if_some (found_from n) (option_map (λ m. (q, m)) (as_option o))
    maybe_found nothing q n h l = refl
    maybe_found (just m) q n h l = node_found m q n h l

    nodes_found : (ns : Nodes) (kind : BranchKind) (q : List ℕ) (i n : ℕ) → NodesOrdered ns → nodes_count ns ≤ n
        → branch_findings naming kind q i ns ≡ flat_map (λ j. if_some (found_from n) (option_map (λ m. (branch_pointer kind q (i + j), m)) (nth_node j ns))) (up_to (nodes_length ns))
    nodes_found no_nodes kind q i n h l = refl
    nodes_found (more m ns) kind q i n h l =
        let at = λ (j : ℕ). if_some (found_from n) (option_map (λ m. (branch_pointer kind q (i + j), m)) (nth_node j (more m ns))) in
        let itself : i ≡ i + 0 = omega arith in
        let here = node_found m (branch_pointer kind q i) n h.0 (omega (arith, l)) ∙ ap (λ j. found_from n (branch_pointer kind q j, m)) itself in
        let rest = nodes_found ns kind q (suc i) n h.1 (omega (arith, l))
        ∙ flat_map_same (λ j. if_some (found_from n) (option_map (λ m. (branch_pointer kind q (suc i + j), m)) (nth_node j ns))) (λ j. at (suc j)) (λ j. ap (λ k. if_some (found_from n) (option_map (λ m. (branch_pointer kind q k, m)) (nth_node j ns))) (next i j)) (up_to (nodes_length ns))
        ∙ sym (flat_map-map at (λ j. suc j) (up_to (nodes_length ns))) in
        (λ t. here t ++ rest t) ∙ ap (flat_map at) (sym (up_from_zero (nodes_length ns)))

  pub found_at_all : (root : Node) → IsOrdered root → AreFoundAtNodes naming root (findings naming [] root)
  unfolding answers
  found_at_all root h =
      let n = count root in
      let are = are_places goes_at candidates_at (λ s. candidates_sorted s.1) (λ p s there. candidates_all p s.1 (some_of_map _ (goes p s.1) there)) n ([], root) in
      record {
        nodes = places goes_at candidates_at n ([], root);
        ordered = are.ordered;
        exactly = λ steps. (
          λ there. some_of_map _ (leads goes steps root) (subst IsSome (leads_at steps [] root) (are.sound steps there).allowed),
          λ led. are.complete steps (record {
            short = (let short = steps_short steps root led in omega (arith, short));
            allowed = subst IsSome (sym (leads_at steps [] root)) (some_map _ (leads goes steps root) led);
          }),
        );
        joined = node_found root [] n h (omega arith) ∙ flat_map_same _ _ (λ p. found_same naming root p) (places goes_at candidates_at n ([], root));
      }

-- ---- the trees of compiled schemas

names_of_links : (f : ℕ → Node) (ls : List PropertyLink) → names (named_at f ls) ≡ link_names ls
names_of_links f [] = refl
names_of_links f (l ∷ ls) = ap (λ r. string_bytes l.name ∷ r) (names_of_links f ls)

module _ (f : ℕ → Node) (each : (i : ℕ) → IsOrdered (f i)) where
  named_ordered : (ls : List PropertyLink) → NamedOrdered (named_at f ls)
  named_ordered [] = tt
  named_ordered (l ∷ ls) = (each l.node.0, named_ordered ls)

  maybe_ordered : (o : Option NodeId) → MaybeOrdered (maybe_at f o)
  maybe_ordered None = tt
  maybe_ordered (Some n) = each n.0

  nodes_ordered : (ns : List NodeId) → NodesOrdered (nodes_at f ns)
  nodes_ordered [] = tt
  nodes_ordered (n ∷ ns) = (each n.0, nodes_ordered ns)

module _ {K : Type 0} (own_of : K → Own) where
  tree_ordered : (n : ℕ) (t : List (TableNode K)) → AllOrdered t → (i : ℕ) → IsOrdered (tree_in own_of n t i)
  unfolding tree_in assemble with_children IsStrictlySortedBy
  tree_ordered zero t all i = (tt, tt, tt, tt, tt, tt, tt)
  tree_ordered (suc n) t all i = by (slice_get t i) refl (tree_ordered n t all)
    where
      by : (o : Option (TableNode K)) → slice_get t i ≡ o → ((j : ℕ) → IsOrdered (tree_in own_of n t j)) → IsOrdered (assemble_some own_of (tree_in own_of n t) o)
      by None e each = (tt, tt, tt, tt, tt, tt, tt)
      by (Some r) e each =
          let f = tree_in own_of n t in (
            subst (IsStrictlySortedBy key_cmp) (sym (names_of_links f r.children.properties.items)) (all i r e),
            named_ordered f each r.children.properties.items,
            maybe_ordered f each r.children.items,
            maybe_ordered f each r.children.additional,
            nodes_ordered f each r.children.all_of.items,
            nodes_ordered f each r.children.one_of.items,
            nodes_ordered f each r.children.any_of.items,
          )

module _ {K : Type 0} {kept : Ghosts K} where
  pub schema_ordered : (schema : CompiledSchema K kept) → IsOrdered (whole schema)
  unfolding whole tree
  schema_ordered schema = tree_ordered kept.own (length schema.table.nodes.items) schema.table.nodes.items schema.table.ordered 0

  -- the findings of a compiled schema are those at all of its nodes
  pub schema_found : (naming : Naming) (schema : CompiledSchema K kept) → AreFoundAtNodes naming (whole schema) (findings naming [] (whole schema))
  schema_found naming schema = found_at_all naming (whole schema) (schema_ordered schema)
