-- What the walk finds through the steps of each kind; joined, that is the answer.
use Rattle.cel.specs.Book.{Book}
use Rattle.kube_cel_walk.specs.Errors.{ErrorData}
use Rattle.kube_schema_rules.proofs.Found.{flat_map-map, flat_map_none, answers_end, answers_more}
use Rattle.kube_schema_rules.specs.declared.branches.BranchKind.{BranchKind}
use Rattle.kube_schema_rules.specs.declared.branches.BranchKind.TheVariants.{AllOf, OneOf, AnyOf}
use Rattle.kube_schema_rules.specs.Inside.{keys_at, count_at, in_order, up_to}
use Rattle.kube_schema_rules.specs.StepAccessors.{StepAccessors}
use Rattle.kube_schema_rules.specs.Visit.{Visit, further, unless_there, member_path, item_path, goes, candidates, property_steps, item_steps, additional_steps, branch_steps}
use Rattle.kube_schema_rules.specs.Step.{Step, property, item, additional_property, branch}
use Rattle.kube_schema_rules.specs.Walk.{if_some, answers}
use Rattle.kube_cel_walk.proofs.Entries.{names_of, keys_of_map, keys_of_none}
use Rattle.kube_cel_walk.specs.Answers.{verdicts, answer, answer_if_reached, found_through}
use Rattle.kube_cel_walk.specs.WalkAccessors.{WalkAccessors}
use Rattle.serde_json.proofs.Views.{Entry, items_len-items_view}
use Rattle.serde_json.specs.Data.{Data, null, boolean, number, string, array, object, Items, no_items, Members}
use Rattle.serde_json.specs.declared.value.Value.{Value}
use Rattle.serde_json.specs.Events.{items_len}
use Rattle.serde_json.specs.Find.{get, at, get_item, get_member, as_array, as_object}
use Rattle.serde_json.specs.View.{members_view, items_view}
use Rattle.std.proofs.Common.{◌≡◌, ◌+◌, ℕ, suc, List, [], ◌∷◌, ◌++◌, map, length, Option, Some, None, option_and_then, unwrap_or, string_cmp, refl, sym, ap, ◌∙◌, append_assoc, append-nil, add-one}
use Rattle.std.proofs.lemmas.List.{flat_map_more, map-append}
use Rattle.std.proofs.lemmas.List.Concat.{flat_map-append}
use Rattle.std.specs.List.{flat_map}
use Rattle.std.specs.List.Sorted.{IsStrictlySortedBy}
use Rattle.std.specs.Map.{keys_of}

counted_none : (o : Option Data) → None ≡ option_and_then as_array o → count_at o ≡ 0
unfolding count_at
counted_none o e = ap (λ ds. items_len (unwrap_or ds no_items)) (sym e)

counted_items : (o : Option Data) (vs : List Value) → Some (items_view vs) ≡ option_and_then as_array o → count_at o ≡ length vs
unfolding count_at
counted_items o vs e = ap (λ ds. items_len (unwrap_or ds no_items)) (sym e) ∙ items_len-items_view vs

pub up_to_none : (f : ℕ → Step) → map f (up_to 0) ≡ []
unfolding up_to
up_to_none f = refl

item_of : (i : ℕ) (d : Data) (ds : Items) → Some ds ≡ as_array d → at i d ≡ get_item i ds
item_of i null ds e = cc
item_of i (boolean b) ds e = cc
item_of i (number n) ds e = cc
item_of i (string s) ds e = cc
item_of i (object ms) ds e = cc
item_of i (array cs) ds e = let same : ds ≡ cs = cc in ap (get_item i) (sym same)

pub member_of : (k : List ℕ) (d : Data) (ms : Members) → Some ms ≡ as_object d → get k d ≡ get_member k ms
member_of k null ms e = cc
member_of k (boolean b) ms e = cc
member_of k (number n) ms e = cc
member_of k (string s) ms e = cc
member_of k (array ds) ms e = cc
member_of k (object ns) ms e = let same : ms ≡ ns = cc in ap (get_member k) (sym same)

unless_none : {S : Type 0} (o : Option S) → unless_there o None ≡ None
unless_none None = refl
unless_none (Some d) = refl

regroup : {A : Type 0} (a v p i x l o n : List A) → (((((((a ++ v) ++ p) ++ i) ++ x) ++ l) ++ o) ++ n) ≡ a ++ (v ++ (p ++ (i ++ (x ++ (l ++ (o ++ n))))))
regroup a v p i x l o n = simp append_assoc

-- ---- the steps of each kind

module _ {S : Type 0} (steps : StepAccessors S) where
  pub additional_steps_none : (s : Visit S) → None ≡ as_object s.value → additional_steps steps s ≡ []
  unfolding additional_steps
  additional_steps_none s e = ap (map additional_property) (keys_of_none (Some s.value) e)

  pub additional_steps_are : (s : Visit S) (es : List Entry) → Some (members_view es) ≡ as_object s.value → IsStrictlySortedBy string_cmp (keys_of es) → additional_steps steps s ≡ map additional_property (names_of es)
  unfolding additional_steps
  additional_steps_are s es e h = ap (map additional_property) (keys_of_map (Some s.value) es e h)

  pub item_steps_none : (s : Visit S) → None ≡ as_array s.value → item_steps steps s ≡ []
  unfolding item_steps
  item_steps_none s e = ap (λ n. map item (up_to n)) (counted_none (Some s.value) e) ∙ up_to_none item

  pub item_steps_are : (s : Visit S) (vs : List Value) → Some (items_view vs) ≡ as_array s.value → item_steps steps s ≡ map item (up_to (length vs))
  unfolding item_steps
  item_steps_are s vs e = ap (λ n. map item (up_to n)) (counted_items (Some s.value) vs e)

  pub property_steps_none : (s : Visit S) → None ≡ as_object s.value → property_steps steps s ≡ []
  unfolding property_steps
  property_steps_none s e = ap (map property) (keys_of_none (Some s.value) e)

  pub property_steps_are : (s : Visit S) (es : List Entry) → Some (members_view es) ≡ as_object s.value → IsStrictlySortedBy string_cmp (keys_of es) → property_steps steps s ≡ map property (names_of es)
  unfolding property_steps
  property_steps_are s es e h = ap (map property) (keys_of_map (Some s.value) es e h)

  pub branch_steps_are : (kind : BranchKind) (s : Visit S) → branch_steps steps kind s ≡ map (branch kind) (up_to (steps.branch_count kind s.node))
  unfolding branch_steps
  branch_steps_are kind s = refl

  -- ---- where they lead

  pub property_goes : (s : Visit S) (k : List ℕ) (o : Option S) → steps.property k s.node ≡ o
      → goes steps (property k) s ≡ further None s.depth (member_path s.path k) o (get k s.value) (option_and_then (steps.old_member k s.node) s.old)
  unfolding goes
  property_goes s k o e = ap (λ o. further None s.depth (member_path s.path k) o (get k s.value) (option_and_then (steps.old_member k s.node) s.old)) e

  pub additional_goes : (s : Visit S) (k : List ℕ) (node : S) → Some node ≡ steps.additional_property s.node
      → goes steps (additional_property k) s ≡ further None s.depth (member_path s.path k) (unless_there (steps.property k s.node) (Some node)) (get k s.value) (option_and_then (steps.old_member k s.node) s.old)
  unfolding goes
  additional_goes s k node e = ap (λ o. further None s.depth (member_path s.path k) (unless_there (steps.property k s.node) o) (get k s.value) (option_and_then (steps.old_member k s.node) s.old)) (sym e)

  pub item_goes : (s : Visit S) (i : ℕ) (node : S) (v : Data) (ds : Items) → Some node ≡ steps.items s.node → Some ds ≡ as_array s.value → Some v ≡ get_item i ds
      → goes steps (item i) s ≡ further None s.depth (item_path s.path i) (Some node) (Some v) (option_and_then (steps.old_item i s.node s.value) s.old)
  unfolding goes
  item_goes s i node v ds e a here =
      ap (λ o. further None s.depth (item_path s.path i) o (at i s.value) (option_and_then (steps.old_item i s.node s.value) s.old)) (sym e)
      ∙ ap (λ o. further None s.depth (item_path s.path i) (Some node) o (option_and_then (steps.old_item i s.node s.value) s.old)) (item_of i s.value ds a ∙ sym here)

  pub branch_goes : (kind : BranchKind) (s : Visit S) (j : ℕ) (o : Option S) → o ≡ steps.branch kind j s.node
      → goes steps (branch kind j) s ≡ further s.root s.depth s.path o (Some s.value) s.old
  unfolding goes
  branch_goes kind s j o e = ap (λ o. further s.root s.depth s.path o (Some s.value) s.old) (sym e)

  no_item_goes : (s : Visit S) (i : ℕ) → None ≡ steps.items s.node → goes steps (item i) s ≡ None
  unfolding goes
  no_item_goes s i e = ap (λ o. further None s.depth (item_path s.path i) o (at i s.value) (option_and_then (steps.old_item i s.node s.value) s.old)) (sym e)

  no_additional_goes : (s : Visit S) (k : List ℕ) → None ≡ steps.additional_property s.node → goes steps (additional_property k) s ≡ None
  unfolding goes
  no_additional_goes s k e =
      ap (λ o. further None s.depth (member_path s.path k) o (get k s.value) (option_and_then (steps.old_member k s.node) s.old)) (ap (unless_there (steps.property k s.node)) (sym e) ∙ unless_none (steps.property k s.node))

module _ {S : Type 0} (form : WalkAccessors S) where
  -- ---- nothing is found

  pub through_none : (b : Book) (n : ℕ) (s : Visit S) (old : List ErrorData) (steps : List Step) → steps ≡ [] → old ≡ old ++ found_through form b n s steps
  unfolding found_through
  through_none b n s old steps e = sym (ap (λ ps. old ++ found_through form b n s ps) e ∙ append-nil old)

  none_goes : (b : Book) (n : ℕ) (s : Visit S) (old : List ErrorData) {X : Type 0} (f : X → Step) (xs : List X) → ((x : X) → goes form.steps (f x) s ≡ None) → old ≡ old ++ found_through form b n s (map f xs)
  unfolding found_through answer_if_reached
  none_goes b n s old f xs h =
      let g = λ (p : Step). answer_if_reached form b n (goes form.steps p s) in
      sym (ap (λ r. old ++ r) (flat_map-map g f xs ∙ flat_map_none (λ x. g (f x)) (λ x. ap (if_some (answer form b n)) (h x)) xs) ∙ append-nil old)

  pub no_item : (b : Book) (n : ℕ) (s : Visit S) (old : List ErrorData) → None ≡ form.steps.items s.node → old ≡ old ++ found_through form b n s (item_steps form.steps s)
  unfolding item_steps
  no_item b n s old e = none_goes b n s old item (up_to (count_at (Some s.value))) (λ i. no_item_goes form.steps s i e)

  pub no_additional_property : (b : Book) (n : ℕ) (s : Visit S) (old : List ErrorData) → None ≡ form.steps.additional_property s.node → old ≡ old ++ found_through form b n s (additional_steps form.steps s)
  unfolding additional_steps
  no_additional_property b n s old e = none_goes b n s old additional_property (in_order (keys_at (Some s.value))) (λ k. no_additional_goes form.steps s k e)

  -- ---- a loop that accumulates

  pub one_more : (b : Book) (n : ℕ) (s : Visit S) {X : Type 0} (f : X → Step) (xs : List X) (x : X) (old had new : List ErrorData) → had ≡ old ++ found_through form b n s (map f xs)
      → new ≡ had ++ answer_if_reached form b n (goes form.steps (f x) s) → new ≡ old ++ found_through form b n s (map f (xs ++ x ∷ []))
  unfolding found_through
  one_more b n s f xs x old had new before here =
      let h = λ (p : Step). answer_if_reached form b n (goes form.steps p s) in
      here ∙ ap (λ r. r ++ h (f x)) before ∙ flat_map_more h old (map f xs) (f x) ∙ ap (λ ps. old ++ flat_map h ps) (sym (map-append f xs (x ∷ [])))

  pub none_up : (b : Book) (n : ℕ) (s : Visit S) (f : ℕ → Step) (old : List ErrorData) → old ≡ old ++ found_through form b n s (map f (up_to 0))
  none_up b n s f old = through_none b n s old (map f (up_to 0)) (up_to_none f)

  pub one_more_up : (b : Book) (n : ℕ) (s : Visit S) (f : ℕ → Step) (i : ℕ) (old had new : List ErrorData) → had ≡ old ++ found_through form b n s (map f (up_to i))
      → new ≡ had ++ answer_if_reached form b n (goes form.steps (f i) s) → new ≡ old ++ found_through form b n s (map f (up_to (i + 1)))
  unfolding up_to
  one_more_up b n s f i old had new before here = rw add-one (one_more b n s f (up_to i) i old had new before here)

  -- ---- the answer

  pub answer_last : (b : Book) (m : ℕ) (s : Visit S) → m ≡ 0 → answer form b m s ≡ verdicts form b s
  unfolding answer
  answer_last b m s e = ap (λ m. answers (goes form.steps) (candidates form.steps) (verdicts form b) m s) e ∙ answers_end (goes form.steps) (candidates form.steps) (verdicts form b) s

  pub answer_more : (b : Book) (n : ℕ) (s : Visit S) → answer form b (suc n) s ≡ verdicts form b s ++ found_through form b n s (candidates form.steps s)
  unfolding answer answer_if_reached found_through
  answer_more b n s = answers_more (goes form.steps) (candidates form.steps) (verdicts form b) n s

  through_both : (b : Book) (n : ℕ) (s : Visit S) (ps qs : List Step) (rest : List ErrorData) → found_through form b n s qs ≡ rest → found_through form b n s (ps ++ qs) ≡ found_through form b n s ps ++ rest
  unfolding found_through
  through_both b n s ps qs rest e = flat_map-append (λ p. answer_if_reached form b n (goes form.steps p s)) ps qs ∙ ap (λ r. found_through form b n s ps ++ r) e

  -- what the calls at one place add, one after the other, is the answer there
  pub gathered : (b : Book) (fuel n : ℕ) (s : Visit S) (e0 e1 e2 e3 e4 e5 e6 e7 : List ErrorData) → fuel ≡ suc n
      → e1 ≡ e0 ++ verdicts form b s
      → e2 ≡ e1 ++ found_through form b n s (property_steps form.steps s)
      → e3 ≡ e2 ++ found_through form b n s (item_steps form.steps s)
      → e4 ≡ e3 ++ found_through form b n s (additional_steps form.steps s)
      → e5 ≡ e4 ++ found_through form b n s (branch_steps form.steps AllOf s)
      → e6 ≡ e5 ++ found_through form b n s (branch_steps form.steps OneOf s)
      → e7 ≡ e6 ++ found_through form b n s (branch_steps form.steps AnyOf s)
      → e7 ≡ e0 ++ answer form b fuel s
  unfolding candidates
  gathered b fuel n s e0 e1 e2 e3 e4 e5 e6 e7 full q1 q2 q3 q4 q5 q6 q7 =
      let f = found_through form b n s in
      let V = verdicts form b s in
      let P = property_steps form.steps s in
      let I = item_steps form.steps s in
      let X = additional_steps form.steps s in
      let L = branch_steps form.steps AllOf s in
      let O = branch_steps form.steps OneOf s in
      let N = branch_steps form.steps AnyOf s in
      let joined : e7 ≡ (((((((e0 ++ V) ++ f P) ++ f I) ++ f X) ++ f L) ++ f O) ++ f N) =
      q7 ∙ ap (λ r. r ++ f N) (q6 ∙ ap (λ r. r ++ f O) (q5 ∙ ap (λ r. r ++ f L) (q4 ∙ ap (λ r. r ++ f X) (q3 ∙ ap (λ r. r ++ f I) (q2 ∙ ap (λ r. r ++ f P) q1))))) in
      let all : f (candidates form.steps s) ≡ f P ++ (f I ++ (f X ++ (f L ++ (f O ++ f N)))) =
      through_both b n s P (I ++ (X ++ (L ++ (O ++ N)))) _
      (through_both b n s I (X ++ (L ++ (O ++ N))) _ (through_both b n s X (L ++ (O ++ N)) _ (through_both b n s L (O ++ N) _ (through_both b n s O N (f N) refl)))) in
      joined ∙ regroup e0 V (f P) (f I) (f X) (f L) (f O) (f N)
      ∙ ap (λ r. e0 ++ (V ++ r)) (sym all)
      ∙ ap (λ r. e0 ++ r) (sym (answer_more b n s))
      ∙ ap (λ m. e0 ++ answer form b m s) (sym full)
