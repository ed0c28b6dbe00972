-- The findings of one rule, part by part.
use Rattle.std.proofs.Common.{◌≡◌, ℕ, List, [], ◌∷◌, ◌++◌, map, refl, ap, ◌∙◌, subst, append_assoc}
use Rattle.cel_syntax.specs.CallNames.{is_called}
use Rattle.cel_syntax.specs.Names.{AreNames}
use Rattle.cel_syntax.specs.FreeNames.{is_free}
use Rattle.cel_syntax.specs.Term.{Term}
use Rattle.kube_cel_analysis.specs.Scopes.{names_remarks}
use Rattle.kube_cel_analysis.specs.Warnings.{Remark, remark_view, warning}
use Rattle.kube_cel_analysis.specs.declared.scope.ScopeContext.TheVariants.{CrdValidation}
use Rattle.kube_cel_analysis.specs.declared.warning.Remark as declared
use Rattle.kube_cel_analysis.specs.Estimates.{AreRemarks, estimates}
use Rattle.kube_cel_analysis.proofs.Unique.{names_alike}
use Rattle.kube_cel_analysis.specs.Findings.{Finding, Naming, names_findings, warning_finding, warnings_at}
use Rattle.kube_schema.specs.Tree.{Node}

remarks_are : (names : Naming) (n : Node) (t : Term) (rs : List Remark) → AreRemarks CrdValidation n t rs → rs ≡ names_remarks CrdValidation (names.free t) ++ estimates n t
remarks_are names n t rs h =
    let free = names_alike h.1.0 (names.free t) (λ x. is_free x t) h.1.1 (names.free_are t) in
    h.2 ∙ ap (λ r. r ++ estimates n t) (h.1.2 ∙ ap (names_remarks CrdValidation) free)

mapped : (p rule : List ℕ) (rs : List declared.Remark) → map (λ r. warning_finding p (warning rule (remark_view r))) rs ≡ map (warning_finding p) (map (warning rule) (map remark_view rs))
mapped p rule [] = refl
mapped p rule (r ∷ rs) = ap (λ fs. warning_finding p (warning rule (remark_view r)) ∷ fs) (mapped p rule rs)

-- the unknown functions, then the warnings
pub rule_reported : (names : Naming) (p rule : List ℕ) (n : Node) (t u : Term) (called shown_called : List (List ℕ)) (rs : List declared.Remark) (e0 e1 e2 : List Finding)
    → u ≡ t → shown_called ≡ called → AreNames called (λ x. is_called x t)
    → AreRemarks CrdValidation n u (map remark_view rs)
    → e1 ≡ e0 ++ names_findings p rule shown_called
    → e2 ≡ e1 ++ map (λ r. warning_finding p (warning rule (remark_view r))) rs
    → e2 ≡ e0 ++ (names_findings p rule (names.called t) ++ map (warning_finding p) (warnings_at names rule n t))
rule_reported names p rule n t u called shown_called rs e0 e1 e2 same_tree same_names are said q1 q2 =
    let all_called : shown_called ≡ names.called t = same_names ∙ names_alike called (names.called t) (λ x. is_called x t) are (names.called_are t) in
    let here : AreRemarks CrdValidation n t (map remark_view rs) = subst (λ v. AreRemarks CrdValidation n v (map remark_view rs)) same_tree said in
    let reported : map (λ r. warning_finding p (warning rule (remark_view r))) rs ≡ map (warning_finding p) (warnings_at names rule n t) =
    mapped p rule rs ∙ ap (λ qs. map (warning_finding p) (map (warning rule) qs)) (remarks_are names n t (map remark_view rs) here) in
    let first : e1 ≡ e0 ++ names_findings p rule (names.called t) = q1 ∙ ap (λ ks. e0 ++ names_findings p rule ks) all_called in
    q2 ∙ ap (λ r. r ++ map (λ r. warning_finding p (warning rule (remark_view r))) rs) first
    ∙ ap (λ fs. (e0 ++ names_findings p rule (names.called t)) ++ fs) reported
    ∙ append_assoc e0 (names_findings p rule (names.called t)) (map (warning_finding p) (warnings_at names rule n t))
