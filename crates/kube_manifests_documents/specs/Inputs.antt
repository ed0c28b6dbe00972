-- Trusted by the clauses of policies.
-- The inputs of a policy (Kubernetes API reference, Validation of ValidatingAdmissionPolicySpec:
-- the variables of `expression`).
use Rattle.kube_manifests_documents.specs.declared.inputs.PolicyInputs.{PolicyInputs}
use Rattle.serde_json.specs.Data.{Data}
use Rattle.serde_json.specs.View.{view}
use Rattle.std.specs.Prelude.{Option, None, option_map}

-- what is given
pub record Variables : Type 0 where
  pub object : Option Data
  pub old_object : Option Data
  pub params : Option Data
  pub namespace_object : Option Data
  -- the `request` of an AdmissionReview
  pub request : Option Data

abbrev pub no_variables : Variables
no_variables = record {
  object = None;
  old_object = None;
  params = None;
  namespace_object = None;
  request = None;
}

-- ---- views of the code's values

abbrev pub inputs_view : PolicyInputs → Variables
inputs_view g = record {
  object = option_map view g.object;
  old_object = option_map view g.old_object;
  params = option_map view g.params;
  namespace_object = option_map view g.namespace_object;
  request = option_map view g.request;
}
