-- Scopes that bind the same names.
use Rattle.cel.specs.Book.{Book}
use Rattle.cel.specs.Bindings.{Bindings, binding}
use Rattle.cel.specs.Members.{put_in}
use Rattle.cel.specs.Outcome.{Outcome, and_then}
use Rattle.cel_value.specs.Data.{Data, map_of, no_entries, text}
use Rattle.cel.proofs.Bound.{bound, meaning_same}
use Rattle.kube_cel_vap.proofs.Bound.{given_under}
use Rattle.kube_cel_vap.specs.Bound.{with_given}
use Rattle.kube_manifests_documents.specs.Inputs.{Variables}
use Rattle.kube_manifests_policies.specs.Bound.{bindings_always, policy_bindings}
use Rattle.kube_manifests_names.specs.Inputs.{first_missing, without_namespace}
use Rattle.kube_manifests_documents.specs.Policies.{ItemData, item_view}
use Rattle.kube_manifests_policies.specs.Scopes.{Alike, ScopeData, evaluation, fault_report, first_stop, outcome_in, outcome_or_reason, outcome_unless, policy_library, stopped_by, variable_step, variables_after, with_no_values, with_stored, with_values, with_variable, without_value}
use Rattle.kube_manifests_policies.specs.Verdicts.{ItemReportData, with_report}
use Rattle.kube_manifests_documents.specs.declared.item.Item.{Item}
use Rattle.kube_manifests_names.specs.Unstructured.{unstructured}
use Rattle.serde_json.specs.Data.{Data as Json}
use Rattle.std.proofs.Common.{◌≡◌, ℕ, ◌+◌, ◌<◌, ◌≤◌, add-one, List, [], ◌∷◌, ◌++◌, length, get_or, drop, drop-cons, map, Option, Some, None, Result, Ok, Err, codes, if◌then◌else◌, refl, sym, ap, ◌∙◌, subst}
use Rattle.std.proofs.lemmas.List.{drop_all}
use Rattle.std.specs.Str.{bytes_eq}

-- ---- names

-- the names bound for match conditions
pub condition_names : (v : Variables) (e0 e1 : Bindings) → ((x : List ℕ) → binding x e0 ≡ binding x (bindings_always v))
    → ((x : List ℕ) → binding x e1 ≡ binding x (with_given unstructured (codes "params") v.params e0)) → (x : List ℕ) → binding x e1 ≡ binding x (policy_bindings (without_namespace v))
unfolding policy_bindings bindings_always
condition_names v e0 e1 h0 h1 x = h1 x ∙ given_under unstructured (codes "params") v.params e0 (bindings_always v) h0 x

-- the names bound for the other expressions
pub policy_names : (v : Variables) (e1 e2 : Bindings) → ((x : List ℕ) → binding x e1 ≡ binding x (policy_bindings (without_namespace v)))
    → ((x : List ℕ) → binding x e2 ≡ binding x (with_given unstructured (codes "namespaceObject") v.namespace_object e1)) → (x : List ℕ) → binding x e2 ≡ binding x (policy_bindings v)
unfolding policy_bindings bindings_always
policy_names v e1 e2 h1 h2 x = h2 x ∙ given_under unstructured (codes "namespaceObject") v.namespace_object e1 (with_given unstructured (codes "params") v.params (bindings_always v)) h1 x

pub under_no_values : (xs : List ItemData) (e f : Bindings) → ((y : List ℕ) → binding y e ≡ binding y f) → (y : List ℕ) → binding y (with_no_values xs e) ≡ binding y (with_no_values xs f)
under_no_values [] e f h y = h y
under_no_values (x ∷ xs) e f h y = ap (λ o. if bytes_eq y (codes "variables") then Some (map_of no_entries) else o) (h y)

-- `variables` is bound to the empty map
pub values_bound : (vs : List Item) (m : Data) (e f : Bindings) → (length vs ≡ 0 → ⊥) → m ≡ map_of no_entries
    → ((x : List ℕ) → binding x f ≡ (if bytes_eq (codes "variables") x then Some m else binding x e)) → (x : List ℕ) → binding x f ≡ binding x (with_no_values (map item_view vs) e)
values_bound [] m e f k p h x = absurd (k refl)
values_bound (v ∷ vs) m e f k p h x = bound x (codes "variables") m (map_of no_entries) (binding x f) (binding x e) e (h x) p refl

-- ---- outcomes

pub reach_same : (b : Book) (s t : ScopeData) → Alike s t → outcome_or_reason b s ≡ outcome_or_reason b t
unfolding outcome_or_reason outcome_in
reach_same b s t h = λ i u. outcome_unless (stopped_by (first_missing (h.absent i) u) (first_stop (h.missing i) u)) (meaning_same policy_library b u s.bindings t.bindings h.bindings i)

-- ---- variables

pub Alike-same : (s t : ScopeData) → s ≡ t → Alike s t
Alike-same s t p = record { bindings = λ x. ap (λ u. binding x u.bindings) p; absent = ap (λ u. u.absent) p; values = ap (λ u. u.values) p; missing = ap (λ u. u.missing) p }

pub Alike-trans : {s t u : ScopeData} → Alike s t → Alike t u → Alike s u
Alike-trans h k = record { bindings = λ x. h.bindings x ∙ k.bindings x; absent = h.absent ∙ k.absent; values = h.values ∙ k.values; missing = h.missing ∙ k.missing }

values_alike : (s t : ScopeData) → Alike s t → (m : Data) → Alike (with_values s m) (with_values t m)
values_alike s t h m = record {
  bindings = λ x. ap (λ o. if bytes_eq x (codes "variables") then Some m else o) (h.bindings x);
  absent = h.absent;
  values = refl;
  missing = h.missing;
}

missing_alike : (s t : ScopeData) → Alike s t → (name : List ℕ) (reported : ItemReportData) → Alike (without_value s name reported) (without_value t name reported)
missing_alike s t h name reported = record { bindings = h.bindings; absent = h.absent; values = h.values; missing = ap (λ rs. rs ++ with_report name reported ∷ []) h.missing }

stored_alike : (s t : ScopeData) → Alike s t → (name : List ℕ) (o : Outcome) → Alike (with_stored s name o) (with_stored t name o)
stored_alike s t h name (Ok m) = values_alike s t h m
stored_alike s t h name (Err f) = missing_alike s t h name (fault_report f)

variable_alike : (s t : ScopeData) → Alike s t → (name : List ℕ) (r : Result Outcome ItemReportData) → Alike (with_variable s name r) (with_variable t name r)
variable_alike s t h name (Err reported) = missing_alike s t h name reported
variable_alike s t h name (Ok o) =
    let put : Data → Outcome = λ m. and_then o (λ v. put_in m (text name) v) in
    subst (λ r. Alike (with_stored s name (put s.values)) (with_stored t name r)) (ap put h.values) (stored_alike s t h name (put s.values))

step_alike : (b : Book) (s t : ScopeData) → Alike s t → (x : ItemData) → Alike (variable_step b s x) (variable_step b t x)
unfolding variable_step
step_alike b s t h x =
    subst (λ r. Alike (with_variable s x.label (evaluation (outcome_or_reason b s) x.expression)) (with_variable t x.label (evaluation r x.expression))) (reach_same b s t h)
    (variable_alike s t h x.label (evaluation (outcome_or_reason b s) x.expression))

pub after_alike : (b : Book) (s t : ScopeData) → Alike s t → (xs : List ItemData) → Alike (variables_after b s xs) (variables_after b t xs)
after_alike b s t h [] = h
after_alike b s t h (x ∷ xs) = after_alike b (variable_step b s x) (variable_step b t x) (step_alike b s t h x) xs

-- ---- one variable after another

-- one more variable
pub one_after : (b : Book) (s t : ScopeData) {u : ScopeData} (xs : List Item) (i : ℕ) (x : Item) → i < length xs → x ≡ get_or xs i x → Alike t (variable_step b s (item_view x))
    → Alike (variables_after b s (map item_view (drop i xs))) u → Alike (variables_after b t (map item_view (drop (i + 1) xs))) u
one_after b s t {u} xs i x below is h k =
    let rest = map item_view (drop (i + 1) xs) in
    let split = drop-cons xs i x below ∙ (λ j. sym is j ∷ drop (sym (add-one i) j) xs) in
    Alike-trans (after_alike b t (variable_step b s (item_view x)) h rest) (subst (λ ys. Alike (variables_after b s (map item_view ys)) u) split k)

-- no variable remains
pub all_after : (b : Book) (s : ScopeData) {u : ScopeData} (xs : List Item) (i : ℕ) → length xs ≤ i → Alike (variables_after b s (map item_view (drop i xs))) u → Alike s u
all_after b s {u} xs i h k = subst (λ ys. Alike (variables_after b s (map item_view ys)) u) (drop_all i xs h) k
