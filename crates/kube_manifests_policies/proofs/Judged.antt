-- The reports of entries whose expressions were evaluated.
use Rattle.cel.specs.Checks.{Trees, judgement}
use Rattle.cel.specs.Outcome.{Outcome}
use Rattle.kube_manifests_documents.specs.Faults.{◌>>=◌}
use Rattle.kube_manifests_documents.specs.Policies.{ItemData}
use Rattle.kube_manifests_policies.specs.Reports.{condition_report, false_condition, false_report, final_report, judged_report, validation_with}
use Rattle.kube_manifests_policies.specs.Scopes.{Reach, evaluation}
use Rattle.kube_manifests_policies.specs.Verdicts.{ItemReportData}
use Rattle.std.proofs.Common.{◌≡◌, None, Ok, option_map, ap, ◌∙◌}

pub condition_so : (r : Reach) (x : ItemData) (o : Outcome) (reported : ItemReportData) → Ok o ≡ evaluation r x.expression → reported ≡ judged_report (false_condition x.label) (judgement None o)
    → reported ≡ condition_report r x
unfolding condition_report
condition_so r x o reported p q = q ∙ ap (λ k. final_report (k >>= (λ u. Ok (judged_report (false_condition x.label) (judgement None u))))) p

pub validation_so : (r : Reach) (x : ItemData) (t : Trees) (o : Outcome) (reported : ItemReportData) → Ok o ≡ r t.tree
    → reported ≡ judged_report (false_report x) (judgement (option_map r t.message_tree) o) → reported ≡ validation_with r x t
unfolding validation_with
validation_so r x t o reported p q = q ∙ ap (λ k. final_report (k >>= (λ u. Ok (judged_report (false_report x) (judgement (option_map r t.message_tree) u))))) p
