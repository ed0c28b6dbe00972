-- The inputs that a request is judged over.
use Rattle.kube_manifests.specs.Inputs.{Variables, inputs_view}
use Rattle.kube_manifests_policies.specs.Reports.{IsVerdictOf}
use Rattle.kube_manifests.specs.PolicyInputs.{PolicyInputs}
use Rattle.kube_manifests_policies.specs.declared.verdict.PolicyVerdict.{PolicyVerdict}
use Rattle.kube_manifests_policies.specs.Verdicts.{verdict_view}
use Rattle.kubecel_io.specs.Reads.{document_view}
use Rattle.kubecel_io.specs.declared.sources.Document.{Document}
use Rattle.kubecel_report.specs.Items.{ItemData}
use Rattle.kubecel_cli.specs.Runs.{instead}
use Rattle.kubecel_cli.specs.Reports.{policy_item}
use Rattle.serde_json.specs.Data.{Data}
use Rattle.serde_json.specs.View.{view}
use Rattle.std.proofs.Common.{◌≡◌, ℕ, List, [], ◌∷◌, Option, Ok, string_bytes, refl, subst, ◌∙◌, false}

-- the values of files of their own replaced those of the review
pub judged_so : (base : Variables) (inputs : PolicyInputs) (object old params namespace : Option Data) (d : Data) (v : PolicyVerdict)
    → (inputs_view inputs).object ≡ instead object base.object → (inputs_view inputs).old_object ≡ instead old base.old_object
    → (inputs_view inputs).params ≡ instead params base.params → (inputs_view inputs).namespace_object ≡ instead namespace base.namespace_object
    → (inputs_view inputs).request ≡ base.request → IsVerdictOf (inputs_view inputs) d (Ok v)
    → IsVerdictOf (record base {
      object = instead object base.object;
      old_object = instead old base.old_object;
      params = instead params base.params;
      namespace_object = instead namespace base.namespace_object;
    }) d (Ok v)
judged_so base inputs object old params namespace d v o p q r s judged =
    subst (λ i. IsVerdictOf i d (Ok v)) (rw (o, p, q, r, s) refl) judged

-- the report on the policy in a file
pub reported_of_file : (items : List ItemData) (path : List ℕ) (d : Document) (v : PolicyVerdict) → string_bytes d.file ≡ path → d.index ≡ 0
    → items ≡ policy_item (document_view d) (verdict_view v) ∷ []
    → items ≡ policy_item (record { file = path; index = 0; is_item = false; value = view d.value }) (verdict_view v) ∷ []
reported_of_file items path d v file index reported = reported ∙ rw (file, index) refl
