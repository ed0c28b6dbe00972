-- Nothing is found below a node below which there is no rule.
use Rattle.cel.specs.Book.{Book}
use Rattle.kube_cel_walk.proofs.Gathered.{answer_more}
use Rattle.kube_cel_walk.proofs.Judged.{none_found}
use Rattle.kube_cel_walk.specs.Answers.{answer, answer_if_reached, found_through, verdicts}
use Rattle.kube_cel_walk.specs.NoRules.{EachChild, HasNoRules, HasNoRulesBelow}
use Rattle.kube_cel_walk.specs.WalkAccessors.{WalkAccessors}
use Rattle.kube_schema_rules.proofs.Found.{flat_map_none}
use Rattle.kube_schema_rules.specs.Step.{Step, property, item, additional_property, branch}
use Rattle.kube_schema_rules.specs.Visit.{Root, Visit, further, unless_there, member_path, item_path, goes, candidates}
use Rattle.serde_json.specs.Data.{Data}
use Rattle.serde_json.specs.Find.{get, at}
use Rattle.std.proofs.Common.{◌≡◌, ◌==◌, ◌+◌, ℕ, zero, suc, List, [], ◌++◌, false, Option, Some, None, option_and_then, refl, ap, ◌∙◌, arith, append-nil}
use Rattle.std.proofs.lemmas.Bool.Decides.{nat_tests}
use Rattle.std.specs.Bool.{⊤}

unless_child : {S : Type 0} (P : S → Type 0) (o a : Option S) → ((m : S) → a ≡ Some m → P m) → (m : S) → unless_there o a ≡ Some m → P m
unless_child P None a h m e = h m e
unless_child P (Some n) a h m e = let no : ⊥ = cc in absurd no

-- if a step leads on, then to a node with P, one level deeper
abbrev LeadsTo : {S : Type 0} → (S → Type 0) → ℕ → Option (Visit S) → Type 0
LeadsTo P d None = ⊤
LeadsTo P d (Some t) = P t.node × (t.depth ≡ d + 1)

further_leads : {S : Type 0} (P : S → Type 0) (root : Option Root) (d : ℕ) (path : List ℕ) (node : Option S) (value old : Option Data) → ((m : S) → node ≡ Some m → P m) → LeadsTo P d (further root d path node value old)
further_leads P root d path None value old h = tt
further_leads P root d path (Some m) None old h = tt
further_leads P root d path (Some m) (Some v) old h = (h m refl, refl)

module _ {S : Type 0} (form : WalkAccessors S) where
  goes_leads : (P : S → Type 0) (s : Visit S) (p : Step) → EachChild form P s.node → LeadsTo P s.depth (goes form.steps p s)
  unfolding goes
  goes_leads P s (property k) h = further_leads P None s.depth (member_path s.path k) (form.steps.property k s.node) (get k s.value) (option_and_then (form.steps.old_member k s.node) s.old) (h.0 k)
  goes_leads P s (item i) h = further_leads P None s.depth (item_path s.path i) (form.steps.items s.node) (at i s.value) (option_and_then (form.steps.old_item i s.node s.value) s.old) h.1
  goes_leads P s (additional_property k) h =
      further_leads P None s.depth (member_path s.path k) (unless_there (form.steps.property k s.node) (form.steps.additional_property s.node)) (get k s.value) (option_and_then (form.steps.old_member k s.node) s.old)
      (unless_child P (form.steps.property k s.node) (form.steps.additional_property s.node) h.2)
  goes_leads P s (branch kind j) h = further_leads P s.root s.depth s.path (form.steps.branch kind j s.node) (Some s.value) s.old (h.3 kind j)

  none_led : (b : Book) (m d : ℕ) → ((t : Visit S) → t.depth ≡ d + 1 → HasNoRules form m t.node → answer form b m t ≡ []) → (o : Option (Visit S)) → LeadsTo (HasNoRules form m) d o → answer_if_reached form b m o ≡ []
  unfolding answer_if_reached
  none_led b m d f None h = refl
  none_led b m d f (Some t) h = f t h.1 h.0

  none_through : (b : Book) (m : ℕ) (s : Visit S) → ((t : Visit S) → t.depth ≡ s.depth + 1 → HasNoRules form m t.node → answer form b m t ≡ []) → HasNoRulesBelow form m s.node → (ps : List Step) → found_through form b m s ps ≡ []
  unfolding found_through
  none_through b m s f q ps = flat_map_none (λ p. answer_if_reached form b m (goes form.steps p s)) (λ p. none_led b m s.depth f (goes form.steps p s) (goes_leads (HasNoRules form m) s p q)) ps

  none_at : (b : Book) (m : ℕ) (t : Visit S) → t.depth + m ≡ 65 → HasNoRules form m t.node → answer form b m t ≡ []
  unfolding HasNoRules
  none_at b zero t e q = absurd q
  none_at b (suc k) t e q =
      let shallow : (t.depth == 65) ≡ false = grind (arith, nat_tests, e) in
      answer_more form b k t
      ∙ (λ i. none_found form b t shallow q.0 i ++ none_through b k t (λ u d r. none_at b k u (omega (arith, e, d)) r) q.1 (candidates form.steps t) i)

  -- then the answer from there on is the verdicts there
  pub no_rules_below : (b : Book) (fuel m : ℕ) (s : Visit S) → fuel ≡ suc m → s.depth + m ≡ 64 → HasNoRulesBelow form m s.node → answer form b fuel s ≡ verdicts form b s
  no_rules_below b fuel m s full e q =
      ap (λ n. answer form b n s) full ∙ answer_more form b m s
      ∙ ap (λ r. verdicts form b s ++ r) (none_through b m s (λ t d r. none_at b m t (omega (arith, e, d)) r) q (candidates form.steps s)) ∙ append-nil (verdicts form b s)
