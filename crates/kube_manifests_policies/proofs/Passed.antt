-- A policy that admits was judged.
use Rattle.cel.specs.Book.{Book}
use Rattle.kube_manifests_documents.specs.Inputs.{Variables}
use Rattle.kube_manifests_names.specs.Inputs.{without_namespace}
use Rattle.kube_manifests_policies.specs.Reports.{evaluated_verdict, policy_verdict, results_as, verdict_after, verdict_in}
use Rattle.kube_manifests_policies.specs.Laws.{AreJudged, IsJudged}
use Rattle.kube_manifests_policies.specs.Refusals.{is_refused, refusals_of}
use Rattle.kube_manifests_documents.specs.Policies.{PolicyData}
use Rattle.kube_manifests_policies.specs.Scopes.{Reach, first_scope, outcome_or_reason, scope_for, variables_after}
use Rattle.kube_manifests_policies.specs.Verdicts.{Labelled, VerdictData, after_conditions, any_is}
use Rattle.kube_manifests_policies.specs.declared.reports.Subject.TheVariants.{Annotation, Condition, Validation}
use Rattle.kube_manifests_policies.specs.declared.verdict.Problem.TheVariants as problem
use Rattle.kube_manifests_policies.specs.declared.verdict.PolicyDecision.{PolicyDecision}
use Rattle.kube_manifests_policies.specs.declared.verdict.PolicyDecision.TheVariants.{Admitted, Denied, Ignored, Skipped, NotJudged}
use Rattle.std.proofs.Common.{◌≡◌, List, Bool, true, false, ◌||◌, ◌&&◌, not, if◌then◌else◌, Option, Some, None, refl, sym, ap, ◌∙◌, true≢false}

is_admitted : PolicyDecision → Bool
is_admitted Admitted = true
is_admitted Denied = false
is_admitted Skipped = false
is_admitted Ignored = false
is_admitted NotJudged = false

lets_pass : Option PolicyDecision → Bool
lets_pass None = false
lets_pass (Some d) = is_admitted d

no_pass : {A : Type 0} → false ≡ true → A
no_pass h = absurd (true≢false (sym h))

-- ---- match conditions

abbrev pub decided : (r f n e i : Bool) → Option PolicyDecision
decided r f n e i = if r then Some NotJudged else (if f then Some Skipped else (if n then Some NotJudged else (if e then Some (if i then Ignored else Denied) else None)))

by_conditions : (r f n e i : Bool) → lets_pass (decided r f n e i) ≡ false
unfolding lets_pass is_admitted
by_conditions true f n e i = refl
by_conditions false true n e i = refl
by_conditions false false true e i = refl
by_conditions false false false true true = refl
by_conditions false false false true false = refl
by_conditions false false false false i = refl

is_decided : Option PolicyDecision → Bool
is_decided None = false
is_decided (Some d) = true

pub all_true : (r f n e i : Bool) → decided r f n e i ≡ None → (r ≡ false) × (f ≡ false) × (n ≡ false) × (e ≡ false)
unfolding is_decided
all_true true f n e i h = no_pass (sym (ap is_decided h))
all_true false true n e i h = no_pass (sym (ap is_decided h))
all_true false false true e i h = no_pass (sym (ap is_decided h))
all_true false false false true i h = no_pass (sym (ap is_decided h))
all_true false false false false i h = (refl, refl, refl, refl)

-- a policy that admits has conditions that decide nothing
pub let_through : (b : Book) (v : Variables) (p : PolicyData) (rs : List Labelled) (o : Option PolicyDecision) → after_conditions p.ignores rs ≡ o → (verdict_after b v p rs o).decision ≡ Admitted
    → after_conditions p.ignores rs ≡ None
unfolding lets_pass is_admitted
let_through b v p rs (Some d) q h =
    no_pass (sym (by_conditions (any_is problem.Refused rs) (any_is problem.False rs) (any_is problem.NotGiven rs) (any_is problem.Error rs) p.ignores) ∙ ap lets_pass q ∙ ap is_admitted h)
let_through b v p rs None q h = q

-- ---- validations and audit annotations

pub all_judged : (r s f e m n : Bool) → (if r || s then NotJudged else (if f then Denied else (if e then Denied else (if m || n then NotJudged else Admitted)))) ≡ Admitted
    → (r ≡ false) × (s ≡ false) × (f ≡ false) × (m ≡ false) × (n ≡ false)
unfolding is_admitted
all_judged true s f e m n h = no_pass (ap is_admitted h)
all_judged false true f e m n h = no_pass (ap is_admitted h)
all_judged false false true e m n h = no_pass (ap is_admitted h)
all_judged false false false true m n h = no_pass (ap is_admitted h)
all_judged false false false false true n h = no_pass (ap is_admitted h)
all_judged false false false false false true h = no_pass (ap is_admitted h)
all_judged false false false false false false h = (refl, refl, refl, refl, refl)

judged_in : (r : Reach) (missing : List Labelled) (p : PolicyData) (rs : List Labelled) → AreJudged rs → (verdict_in r missing p rs).decision ≡ Admitted
    → IsJudged (verdict_in r missing p rs)
unfolding verdict_in
judged_in r missing p rs c h =
    let vs = results_as Validation r p.validations in
    let ws = results_as Annotation r p.annotations in
    let k = all_judged (any_is problem.Refused vs) (any_is problem.Refused ws) (any_is problem.False vs) (not p.ignores && (any_is problem.Error vs || any_is problem.Error ws)) (any_is problem.NotGiven vs) (any_is problem.NotGiven ws) h in
    record {
      conditions = c;
      validations = record { given = k.3; compiled = k.0 };
      annotations = record { given = k.4; compiled = k.1 };
      none_false = k.2;
    }

none_is_some : {A : Type 0} (d : PolicyDecision) → None ≡ Some d → A
none_is_some d h = cc

judged_after : (b : Book) (v : Variables) (p : PolicyData) (rs : List Labelled) (o : Option PolicyDecision) → after_conditions p.ignores rs ≡ o
    → (verdict_after b v p rs o).decision ≡ Admitted → IsJudged (verdict_after b v p rs o)
judged_after b v p rs (Some d) q h = none_is_some d (sym (let_through b v p rs (Some d) q h) ∙ q)
judged_after b v p rs None q h =
    let s = variables_after b (scope_for v p.variables) p.variables in
    let k = all_true (any_is problem.Refused rs) (any_is problem.False rs) (any_is problem.NotGiven rs) (any_is problem.Error rs) p.ignores q in
    judged_in (outcome_or_reason b s) s.missing p rs (record { given = k.2; compiled = k.0 }) h

evaluated_judged : (b : Book) (v : Variables) (p : PolicyData) → (evaluated_verdict b v p).decision ≡ Admitted → IsJudged (evaluated_verdict b v p)
unfolding evaluated_verdict
evaluated_judged b v p h =
    let rs = results_as Condition (outcome_or_reason b (first_scope (without_namespace v))) p.conditions in judged_after b v p rs (after_conditions p.ignores rs) refl h

-- the policy is refused, or not
by_refusals : (refused : Bool) (v w : VerdictData) → is_admitted v.decision ≡ false → (w.decision ≡ Admitted → IsJudged w) → (if refused then v else w).decision ≡ Admitted → IsJudged (if refused then v else w)
unfolding is_admitted
by_refusals true v w n j h = no_pass (sym n ∙ ap is_admitted h)
by_refusals false v w n j h = j h

pub all_was_judged : (b : Book) (v : Variables) (p : PolicyData) → (policy_verdict b v p).decision ≡ Admitted → IsJudged (policy_verdict b v p)
unfolding policy_verdict refusals_of is_admitted
all_was_judged b v p h = by_refusals (is_refused (refusals_of p)) (refusals_of p) (evaluated_verdict b v p) refl (evaluated_judged b v p) h
