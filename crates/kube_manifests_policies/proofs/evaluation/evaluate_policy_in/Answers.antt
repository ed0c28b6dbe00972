use Rattle.kube_manifests_documents.specs.Faults.{fault_seen}
use Rattle.kube_manifests_documents.specs.Inputs.{inputs_view}
use Rattle.kube_manifests_documents.specs.Policies.{policy_view, reading_view}
use Rattle.kube_manifests_policies.proofs.Decided.{of_fault, of_policy}
use Rattle.kube_manifests_policies.proofs.evaluation.evaluate_policy_in.Goals as goal
use Rattle.serde_json.specs.View.{view}
use Rattle.std.proofs.Common.{Err, Ok, sym, ap, ◌∙◌}

pub returns-in-Err-clause-books : goal.returns-in-Err-clause-books
returns-in-Err-clause-books c = λ b h.
    ap Err c.in_ok-reported-in-Err.ensures
    ∙ of_fault b (inputs_view c.args.inputs.now) (view c.args.policy.now) (fault_seen c.in-Err.found) (sym (ap (reading_view policy_view) c.in-Err.is) ∙ c.in_ok-policy.ensures.policy)

pub returns-clause-books : goal.returns-clause-books
returns-clause-books c = λ b h.
    ap Ok (c.in_ok-verdict.ensures.verdict.under b h)
    ∙ of_policy b (inputs_view c.args.inputs.now) (view c.args.policy.now) (policy_view c.in-Ok.policy) (sym (ap (reading_view policy_view) c.in-Ok.is) ∙ c.in_ok-policy.ensures.policy)
