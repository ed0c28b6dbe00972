-- A policy that has validations only, and which of its expressions pass.
use Rattle.cel.proofs.Checks.{tree_kept}
use Rattle.cel.specs.Checks.{Trees, Unread, judgement, trees_of, value_judgement}
use Rattle.cel.specs.Book.{Book}
use Rattle.cel.specs.Bindings.{Bindings}
use Rattle.cel.specs.Outcome.{Outcome}
use Rattle.cel_syntax.specs.Reading.{tree_of}
use Rattle.cel_syntax.specs.Term.{Term}
use Rattle.cel_value.specs.Data.{Data}
use Rattle.cel_value.specs.Parts.{bool_in, text_in}
use Rattle.cel_value.specs.View.{kind_of}
use Rattle.cel_value.specs.declared.kind.Kind.{Kind}
use Rattle.kube_cel_vap.specs.Bound.{value_or_null, with_given}
use Rattle.kube_cel_vap.specs.Expressions as trees
use Rattle.kube_cel_vap.specs.Results as results
use Rattle.kube_cel_vap.specs.Variables as single
use Rattle.kube_manifests_documents.specs.Faults.{◌>>=◌}
use Rattle.kube_manifests_documents.specs.Inputs.{Variables}
use Rattle.kube_manifests_documents.specs.Policies.{ItemData}
use Rattle.kube_manifests_names.proofs.OwnKeys.{plain_alike}
use Rattle.kube_manifests_names.specs.Unstructured.{unstructured}
use Rattle.kube_manifests_policies.specs.Bound.{bindings_always, policy_bindings}
use Rattle.kube_manifests_policies.specs.Single.{AreAlike, KeepsKeysWhere, expression_of, passed_of}
use Rattle.kube_manifests_policies.specs.Laws.{IsJudgedIn, is_true, of_validations, passed_result}
use Rattle.kube_manifests_policies.specs.Refusals.{is_refused, refusals_of}
use Rattle.kube_manifests_limits.specs.Limits.{is_limit}
use Rattle.kube_manifests_policies.specs.Reports.{evaluated_verdict, false_report, final_report, judged_report, message_value, policy_verdict, result_as, results_as, validation_report, validation_with, verdict_in, with_texts}
use Rattle.kube_manifests_policies.specs.Scopes.{Reach, Reached, ScopeData, fault_message, first_scope, outcome_in, outcome_or_reason, outcome_unless, why_not}
use Rattle.kube_manifests_policies.specs.Verdicts.{ItemReportData, VerdictData, erred, not_compiled, with_report}
use Rattle.kube_manifests_policies.specs.declared.reports.Subject.TheVariants.{Validation}
use Rattle.kube_schema_values.specs.Plain.{plain}
use Rattle.serde_json.specs.Data.{Data as Json}
use Rattle.std.proofs.Common.{◌≡◌, ℕ, List, [], ◌∷◌, map, Bool, true, false, if◌then◌else◌, is_none, Option, Some, None, Result, Ok, Err, codes, option_map, refl, sym, ap, ◌∙◌}
use Rattle.std.specs.List.{AllByRecursion}

-- ---- the same names, where escaping keeps all keys

value_alike : (o p : Option Json) → o ≡ p → KeepsKeysWhere o → value_or_null unstructured o ≡ value_or_null plain p
value_alike None p q h = ap (value_or_null plain) q
value_alike (Some d) p q h = plain_alike d (h d refl) ∙ ap (value_or_null plain) q

given_alike : (name : List ℕ) (o p : Option Json) → o ≡ p → KeepsKeysWhere o → (e f : Bindings) → e ≡ f → with_given unstructured name o e ≡ with_given plain name p f
given_alike name None p q h e f r = r ∙ ap (λ k. with_given plain name k f) q
given_alike name (Some d) p q h e f r = (λ i. (name, plain_alike d (h d refl) i) ∷ r i) ∙ ap (λ k. with_given plain name k f) q

pub bindings_alike : (v : Variables) (w : single.Variables) → AreAlike v w → policy_bindings v ≡ single.policy_bindings w
unfolding policy_bindings bindings_always single.policy_bindings single.bindings_always
bindings_alike v w h =
    let always_alike : bindings_always v ≡ single.bindings_always w = λ i. (codes "object", value_alike v.object w.object h.object h.object_keys i) ∷ (codes "oldObject", value_alike v.old_object w.old_object h.old_object h.old_object_keys i) ∷ (codes "request", h.request i) ∷ [] in
    given_alike (codes "namespaceObject") v.namespace_object w.namespace_object h.namespace_object h.namespace_object_keys (with_given unstructured (codes "params") v.params (bindings_always v)) (with_given plain (codes "params") w.params (single.bindings_always w))
    (given_alike (codes "params") v.params w.params h.params h.params_keys (bindings_always v) (single.bindings_always w) always_alike)

-- ---- reports

-- c is the same expression, and n what its messageExpression evaluated to
truth_passes : (false_report : Option Reached → ItemReportData) → ((m : Option Reached) → is_true (false_report m) ≡ false) → (m : Option Reached) (c : trees.Compiled) (n : Option Outcome) (k : Kind) (o : Option Bool)
    → is_true (judged_report false_report (value_judgement m k o)) ≡ is_none (results.judged_message c (value_judgement n k o))
truth_passes f h m c n k (Some true) = refl
truth_passes f h m c n k (Some false) = h m
truth_passes f h m c n k None = refl

fault_fails : (s : List ℕ) (limit : Bool) → is_true (if limit then not_compiled s else erred s) ≡ false
fault_fails s true = refl
fault_fails s false = refl

outcome_passes : (false_report : Option Reached → ItemReportData) → ((m : Option Reached) → is_true (false_report m) ≡ false) → (m : Option Reached) (c : trees.Compiled) (n : Option Outcome) (o : Outcome)
    → is_true (judged_report false_report (judgement m o)) ≡ is_none (results.judged_message c (judgement n o))
outcome_passes f h m c n (Ok v) = truth_passes f h m c n (kind_of v) (bool_in v)
outcome_passes f h m c n (Err e) = fault_fails (fault_message e) (is_limit e)

value_fails : (x : ItemData) (v : Data) (o : Option (List ℕ)) → is_true (message_value x v o) ≡ false
value_fails x v (Some s) = refl
value_fails x v None = refl

false_fails : (x : ItemData) (o : Option Reached) → is_true (false_report x o) ≡ false
false_fails x None = refl
false_fails x (Some (Ok (Ok v))) = value_fails x v (text_in v)
false_fails x (Some (Ok (Err f))) = refl
false_fails x (Some (Err reported)) = refl

-- ---- one validation

-- given its trees
with_trees : (b : Book) (e : Bindings) (r : Reach) (x : ItemData) (t : Trees) → x.label ≡ x.expression → r t.tree ≡ Ok (results.outcome_in b e t.tree)
    → passed_result (with_report x.label (validation_with r x t)) ≡ passed_of (results.compiled_result b e (Ok (trees.with_trees (expression_of x) t)))
unfolding validation_with results.message_in
with_trees b e r x t l p =
    let outcome = results.outcome_in b e t.tree in
    let m = option_map r t.message_tree in
    let n = option_map (results.outcome_in b e) t.message_tree in
    let reads : validation_with r x t ≡ judged_report (false_report x) (judgement m outcome) = ap (λ k. final_report (k >>= (λ u. Ok (judged_report (false_report x) (judgement m u))))) p in
    λ i. (l i, (ap is_true reads ∙ outcome_passes (false_report x) (false_fails x) m (trees.with_trees (expression_of x) t) n outcome) i)

-- given its trees, or the text that has none
by_trees : (b : Book) (e : Bindings) (r : Reach) (x : ItemData) (q : Result Trees Unread) → x.label ≡ x.expression → ((t : Trees) → q ≡ Ok t → r t.tree ≡ Ok (results.outcome_in b e t.tree))
    → passed_result (with_report x.label (with_texts r x q)) ≡ passed_of (results.compiled_result b e (trees.compiled_of (expression_of x) q))
by_trees b e r x (Ok t) l h = with_trees b e r x t l (h t refl)
by_trees b e r x (Err u) l h = λ i. (l i, false)

judged : (b : Book) (s : ScopeData) (t : Term) → why_not s t ≡ None → outcome_or_reason b s t ≡ Ok (results.outcome_in b s.bindings t)
unfolding outcome_or_reason outcome_in results.outcome_in
judged b s t p = ap (λ o. outcome_unless o (results.outcome_in b s.bindings t)) p

one_alike : (b : Book) (v : Variables) (w : single.Variables) → AreAlike v w → (x : ItemData) → IsJudgedIn (first_scope v) x
    → passed_result (result_as Validation (outcome_or_reason b (first_scope v)) x) ≡ passed_of (results.result_in b w (expression_of x))
unfolding result_as validation_report results.result_in trees.compile_result
one_alike b v w same x h =
    let s = first_scope v in
    by_trees b (policy_bindings v) (outcome_or_reason b s) x (trees_of tree_of x.expression x.message_expression) h.label
    (λ t q. judged b s t.tree (h.tree t.tree (tree_kept tree_of x.expression x.message_expression t q)))
    ∙ ap (λ e. passed_of (results.compiled_result b e (trees.compile_result (expression_of x)))) (bindings_alike v w same)

all_alike : (b : Book) (v : Variables) (w : single.Variables) → AreAlike v w → (xs : List ItemData) → AllByRecursion (IsJudgedIn (first_scope v)) xs
    → map passed_result (results_as Validation (outcome_or_reason b (first_scope v)) xs) ≡ map passed_of (results.policy_results b w (map expression_of xs))
unfolding results_as results.policy_results
all_alike b v w same [] h = refl
all_alike b v w same (x ∷ xs) h = λ i. one_alike b v w same x h.0 i ∷ all_alike b v w same xs h.1 i

evaluated_alike : (b : Book) (v : Variables) (w : single.Variables) → AreAlike v w → (ignores params : Bool) (xs : List ItemData) → AllByRecursion (IsJudgedIn (first_scope v)) xs
    → map passed_result (evaluated_verdict b v (of_validations ignores params xs)).validations ≡ map passed_of (results.policy_results b w (map expression_of xs))
unfolding evaluated_verdict verdict_in results_as
evaluated_alike b v w same ignores params xs h = all_alike b v w same xs h

not_refused : (refused : Bool) (v w : VerdictData) → refused ≡ false → (if refused then v else w) ≡ w
not_refused refused v w h = ap (λ c. if c then v else w) h

pub alike : (b : Book) (v : Variables) (w : single.Variables) → AreAlike v w → (ignores params : Bool) (xs : List ItemData) → is_refused (refusals_of (of_validations ignores params xs)) ≡ false
    → AllByRecursion (IsJudgedIn (first_scope v)) xs
    → map passed_result (policy_verdict b v (of_validations ignores params xs)).validations ≡ map passed_of (results.policy_results b w (map expression_of xs))
unfolding policy_verdict
alike b v w same ignores params xs n h =
    let p = of_validations ignores params xs in
    ap (λ d. map passed_result d.validations) (not_refused (is_refused (refusals_of p)) (refusals_of p) (evaluated_verdict b v p) n)
    ∙ evaluated_alike b v w same ignores params xs h
