use Rattle.cel.specs.Checks.{check_view}
use Rattle.cel_patterns.proofs.Books.{Extends-trans}
use Rattle.cel.specs.Outcome.{outcome_view}
use Rattle.kube_manifests_documents.specs.Policies.{item_view}
use Rattle.kube_manifests_policies.proofs.Judged.{validation_so}
use Rattle.kube_manifests_policies.proofs.reports.validation_with.Goals as goal
use Rattle.kube_manifests_policies.specs.Scopes.{outcome_or_reason, outcome_seen, scope_view}
use Rattle.kube_manifests_policies.specs.Verdicts.{report_view}
use Rattle.std.proofs.Common.{sym, ap, ◌∙◌}

pub returns-in_ok-settled-in-Ok-clause-reported : goal.returns-in_ok-settled-in-Ok-clause-reported
returns-in_ok-settled-in-Ok-clause-reported c = record {
  under = λ b a.
      validation_so (outcome_or_reason b (scope_view c.args.scope.now)) (item_view c.args.item.now) (check_view c.args.check.now) (outcome_view c.in-Ok.answer)
      (report_view c.in_ok-settled-in-Ok.settled)
      (sym (ap outcome_seen c.in-Ok.is) ∙ c.in_ok-reported.ensures.reached.under b (Extends-trans a c.in_ok-settled-in-Ok.ensures.keeps))
      (c.in_ok-settled-in-Ok.ensures.reported.under b a);
}
