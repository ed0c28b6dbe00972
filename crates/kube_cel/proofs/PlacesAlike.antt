-- Walks over two forms of a schema that have the same answer.
use Rattle.std.proofs.Common.{◌≡◌, ◌+◌, ℕ, zero, suc, List, [], ◌∷◌, ◌++◌, length, map, Option, Some, None, option_map, option_and_then, refl, sym, ap, ◌∙◌, arith}
use Rattle.std.specs.List.{flat_map}
use Rattle.serde_json.specs.Data.{Data}
use Rattle.serde_json.specs.Find.{at, get}
use Rattle.kube_schema_rules.proofs.Found.{flat_map_same, answers_end, answers_more}
use Rattle.kube_schema.specs.BranchKind.{BranchKind}
use Rattle.kube_schema.specs.BranchKind.TheVariants.{AllOf, OneOf, AnyOf}
use Rattle.kube_schema.specs.Inside.{count_at, in_order, keys_at, up_to}
use Rattle.kube_schema.specs.StepAccessors.{StepAccessors}
use Rattle.kube_schema.specs.Visit.{Root, Visit, visit, further, unless_there, member_path, item_path, goes, candidates, property_steps, item_steps, additional_steps, branch_steps}
use Rattle.kube_schema.specs.Step.{Step, property, item, additional_property, branch}
use Rattle.kube_schema.specs.Walk.{if_some, leads, places, answers}
use Rattle.kube_cel.specs.Visits.{with_node_of}

-- ---- one step

further_moved : {S T : Type 0} (f : S → T) (r : Option Root) (d : ℕ) (path : List ℕ) (a : Option S) (b c : Option Data) → option_map (with_node_of f) (further r d path a b c) ≡ further r d path (option_map f a) b c
further_moved f r d path None b c = refl
further_moved f r d path (Some n) None c = refl
further_moved f r d path (Some n) (Some v) c = refl

unless_moved : {S T : Type 0} (f : S → T) (a b : Option S) → option_map f (unless_there a b) ≡ unless_there (option_map f a) (option_map f b)
unless_moved f None b = refl
unless_moved f (Some n) b = refl

further_deeper : {S : Type 0} (r : Option Root) (d : ℕ) (path : List ℕ) (a : Option S) (b c : Option Data) (u : Visit S) → further r d path a b c ≡ Some u → u.depth ≡ d + 1
further_deeper r d path None b c u e = absurd cc
further_deeper r d path (Some n) None c u e = absurd cc
further_deeper r d path (Some n) (Some v) c u e = let same : visit n v c r path (d + 1) ≡ u = cc in ap (λ s. s.depth) (sym same)

deeper : {S : Type 0} (steps : StepAccessors S) (p : Step) (s u : Visit S) → goes steps p s ≡ Some u → u.depth ≡ s.depth + 1
unfolding goes
deeper steps (property k) s u e = further_deeper None s.depth (member_path s.path k) (steps.property k s.node) (get k s.value) (option_and_then (steps.old_member k s.node) s.old) u e
deeper steps (item i) s u e = further_deeper None s.depth (item_path s.path i) (steps.items s.node) (at i s.value) (option_and_then (steps.old_item i s.node s.value) s.old) u e
deeper steps (additional_property k) s u e = further_deeper None s.depth (member_path s.path k) (unless_there (steps.property k s.node) (steps.additional_property s.node)) (get k s.value) (option_and_then (steps.old_member k s.node) s.old) u e
deeper steps (branch kind j) s u e = further_deeper s.root s.depth s.path (steps.branch kind j s.node) (Some s.value) s.old u e

module _ {S T : Type 0} (ls : StepAccessors S) (lt : StepAccessors T) (view : S → T) where
  -- t is the view of s
  pub record Alike (s : S) (t : T) : Type 0 where
    pub property : (k : List ℕ) → option_map view (ls.property k s) ≡ lt.property k t
    pub items : option_map view (ls.items s) ≡ lt.items t
    pub additional_property : option_map view (ls.additional_property s) ≡ lt.additional_property t
    pub branch_count : (kind : BranchKind) → ls.branch_count kind s ≡ lt.branch_count kind t
    pub branch : (kind : BranchKind) (i : ℕ) → option_map view (ls.branch kind i s) ≡ lt.branch kind i t
    pub old_member : (k : List ℕ) (old : Data) → ls.old_member k s old ≡ lt.old_member k t old
    pub old_item : (i : ℕ) (value old : Data) → ls.old_item i s value old ≡ lt.old_item i t value old

  module _ (at_t : S → T) (s : Visit S) (h : Alike s.node (at_t s.node)) where
    old_members : (k : List ℕ) (o : Option Data) → option_and_then (ls.old_member k s.node) o ≡ option_and_then (lt.old_member k (at_t s.node)) o
    old_members k None = refl
    old_members k (Some old) = h.old_member k old

    old_items : (i : ℕ) (o : Option Data) → option_and_then (ls.old_item i s.node s.value) o ≡ option_and_then (lt.old_item i (at_t s.node) s.value) o
    old_items i None = refl
    old_items i (Some old) = h.old_item i s.value old

    goes_same : (p : Step) → option_map (with_node_of view) (goes ls p s) ≡ goes lt p (with_node_of at_t s)
    unfolding goes
    goes_same (property k) =
        further_moved view None s.depth (member_path s.path k) (ls.property k s.node) (get k s.value) (option_and_then (ls.old_member k s.node) s.old)
        ∙ (λ i. further None s.depth (member_path s.path k) (h.property k i) (get k s.value) (old_members k s.old i))
    goes_same (item i) =
        further_moved view None s.depth (item_path s.path i) (ls.items s.node) (at i s.value) (option_and_then (ls.old_item i s.node s.value) s.old)
        ∙ (λ j. further None s.depth (item_path s.path i) (h.items j) (at i s.value) (old_items i s.old j))
    goes_same (additional_property k) =
        further_moved view None s.depth (member_path s.path k) (unless_there (ls.property k s.node) (ls.additional_property s.node)) (get k s.value) (option_and_then (ls.old_member k s.node) s.old)
        ∙ ap (λ a. further None s.depth (member_path s.path k) a (get k s.value) (option_and_then (ls.old_member k s.node) s.old))
        (unless_moved view (ls.property k s.node) (ls.additional_property s.node) ∙ (λ i. unless_there (h.property k i) (h.additional_property i)))
        ∙ ap (λ o. further None s.depth (member_path s.path k) (unless_there (lt.property k (at_t s.node)) (lt.additional_property (at_t s.node))) (get k s.value) o) (old_members k s.old)
    goes_same (branch kind j) =
        further_moved view s.root s.depth s.path (ls.branch kind j s.node) (Some s.value) s.old
        ∙ ap (λ a. further s.root s.depth s.path a (Some s.value) s.old) (h.branch kind j)

    candidates_same : candidates ls s ≡ candidates lt (with_node_of at_t s)
    unfolding candidates property_steps item_steps additional_steps branch_steps
    candidates_same =
        λ i. map property (in_order (keys_at (Some s.value)))
        ++ (map item (up_to (count_at (Some s.value)))
        ++ (map additional_property (in_order (keys_at (Some s.value)))
        ++ (map (branch AllOf) (up_to (h.branch_count AllOf i)) ++ (map (branch OneOf) (up_to (h.branch_count OneOf i)) ++ map (branch AnyOf) (up_to (h.branch_count AnyOf i))))))

-- ---- the whole walk, with n levels left

module _ {S T : Type 0} (ls : StepAccessors S) (lt : StepAccessors T) (view : ℕ → S → T) (alike : (n : ℕ) (s : S) → Alike ls lt (view n) s (view (suc n) s)) where
  goes_on : (n : ℕ) (p : Step) (s : Visit S) → option_map (with_node_of (view n)) (goes ls p s) ≡ goes lt p (with_node_of (view (suc n)) s)
  goes_on n p s = goes_same ls lt (view n) (view (suc n)) s (alike n s.node) p

  candidates_on : (n : ℕ) (s : Visit S) → candidates ls s ≡ candidates lt (with_node_of (view (suc n)) s)
  candidates_on n s = candidates_same ls lt (view n) (view (suc n)) s (alike n s.node)

  through : {A : Type 0} (F : Visit S → List A) (G : Visit T → List A) (n : ℕ) → ((u : Visit S) → F u ≡ G (with_node_of (view n) u)) → (o : Option (Visit S)) → if_some F o ≡ if_some G (option_map (with_node_of (view n)) o)
  through F G n rec None = refl
  through F G n rec (Some u) = rec u

  pub places_same : (n : ℕ) (s : Visit S) → places (goes ls) (candidates ls) n s ≡ places (goes lt) (candidates lt) n (with_node_of (view n) s)
  unfolding places
  places_same zero s = refl
  places_same (suc n) s =
      let F = λ (p : Step) (u : Visit S). map (λ (ps : List Step). p ∷ ps) (places (goes ls) (candidates ls) n u) in
      let G = λ (p : Step) (u : Visit T). map (λ (ps : List Step). p ∷ ps) (places (goes lt) (candidates lt) n u) in
      let t = with_node_of (view (suc n)) s in
      ap (λ (l : List (List Step)). [] ∷ l)
      (flat_map_same (λ p. if_some (F p) (goes ls p s)) (λ p. if_some (G p) (goes lt p t))
      (λ p. through (F p) (G p) n (λ u. ap (map (λ (ps : List Step). p ∷ ps)) (places_same n u)) (goes ls p s) ∙ ap (if_some (G p)) (goes_on n p s)) (candidates ls s)
      ∙ ap (flat_map (λ p. if_some (G p) (goes lt p t))) (candidates_on n s))

  leads_from : (n m : ℕ) (ps : List Step) (s : Visit S) → m ≡ n + length ps → option_map (with_node_of (view n)) (leads (goes ls) ps s) ≡ leads (goes lt) ps (with_node_of (view m) s)
  unfolding leads
  leads_from n m [] s e = let same : n ≡ m = omega arith in ap (λ k. Some (with_node_of (view k) s)) same
  leads_from n m (p ∷ ps) s e =
      let less = n + length ps in
      let more : suc less ≡ m = omega arith in
      by (λ u. leads_from n less ps u refl) (goes ls p s) ∙ ap (option_and_then (leads (goes lt) ps)) (goes_on less p s) ∙ ap (λ k. option_and_then (leads (goes lt) ps) (goes lt p (with_node_of (view k) s))) more
    where
      by : ((u : Visit S) → option_map (with_node_of (view n)) (leads (goes ls) ps u) ≡ leads (goes lt) ps (with_node_of (view (n + length ps)) u)) → (o : Option (Visit S))
          → option_map (with_node_of (view n)) (option_and_then (leads (goes ls) ps) o) ≡ option_and_then (leads (goes lt) ps) (option_map (with_node_of (view (n + length ps))) o)
      by rec None = refl
      by rec (Some u) = rec u

  pub leads_same : (n : ℕ) (ps : List Step) (s : Visit S) → option_map (with_node_of (view n)) (leads (goes ls) ps s) ≡ leads (goes lt) ps (with_node_of (view (n + length ps)) s)
  leads_same n ps s = leads_from n (n + length ps) ps s refl

  -- the findings at a visit, by the levels that are left
  module _ {E : Type 0} (found : Visit S → List E) (hound : Visit T → List E) (levels : ℕ) (agree : (n : ℕ) (s : Visit S) → s.depth + n ≡ levels → found s ≡ hound (with_node_of (view n) s)) where
    reached_same : (n : ℕ) (s : Visit S) → s.depth + suc n ≡ levels → ((u : Visit S) → u.depth + n ≡ levels → answers (goes ls) (candidates ls) found n u ≡ answers (goes lt) (candidates lt) hound n (with_node_of (view n) u))
        → (p : Step) (o : Option (Visit S)) → goes ls p s ≡ o → if_some (answers (goes ls) (candidates ls) found n) o ≡ if_some (answers (goes lt) (candidates lt) hound n) (option_map (with_node_of (view n)) o)
    reached_same n s fits rec p None e = refl
    reached_same n s fits rec p (Some u) e = rec u (let d = deeper ls p s u e in omega arith)

    pub answers_same : (n : ℕ) (s : Visit S) → s.depth + n ≡ levels → answers (goes ls) (candidates ls) found n s ≡ answers (goes lt) (candidates lt) hound n (with_node_of (view n) s)
    answers_same zero s fits = answers_end (goes ls) (candidates ls) found s ∙ agree 0 s fits ∙ sym (answers_end (goes lt) (candidates lt) hound (with_node_of (view 0) s))
    answers_same (suc n) s fits =
        let F = answers (goes ls) (candidates ls) found n in
        let G = answers (goes lt) (candidates lt) hound n in
        let t = with_node_of (view (suc n)) s in
        answers_more (goes ls) (candidates ls) found n s
        ∙ ap (λ l. l ++ flat_map (λ p. if_some F (goes ls p s)) (candidates ls s)) (agree (suc n) s fits)
        ∙ ap (λ l. hound t ++ l)
        (flat_map_same (λ p. if_some F (goes ls p s)) (λ p. if_some G (goes lt p t))
        (λ p. reached_same n s fits (λ u e. answers_same n u e) p (goes ls p s) refl ∙ ap (if_some G) (goes_on n p s)) (candidates ls s)
        ∙ ap (flat_map (λ p. if_some G (goes lt p t))) (candidates_on n s))
        ∙ sym (answers_more (goes lt) (candidates lt) hound n t)
