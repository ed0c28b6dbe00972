-- Trusted by the clauses of policies.
-- The variables of a policy's expressions (Kubernetes documentation,
-- "Validating Admission Policy", variables of expressions).
use Rattle.cel.specs.Bindings.{Bindings}
use Rattle.cel_value.specs.Data.{Data}
use Rattle.kube_cel_vap.specs.Bound.{always_bound, with_given}
use Rattle.kube_cel_vap.specs.declared.evaluator.VapEvaluator.{VapEvaluator}
use Rattle.kube_cel_vap.specs.declared.evaluator.VapEvaluatorBuilder.{VapEvaluatorBuilder}
use Rattle.kube_cel_vap.specs.declared.variables.Given.{Given}
use Rattle.kube_cel_vap.specs.Requests.{RequestData, empty_request, request_value, request_view}
use Rattle.kube_schema_values.specs.Plain.{plain}
use Rattle.serde_json.specs.Data.{Data as Json}
use Rattle.serde_json.specs.View.{view}
use Rattle.std.specs.Prelude.{codes, Option, None, option_map, unwrap_or}

-- the variables that were set
pub record Variables : Type 0 where
  pub object : Option Json
  pub old_object : Option Json
  pub params : Option Json
  pub namespace_object : Option Json
  pub request : Option RequestData

abbrev pub no_variables : Variables
no_variables = record {
  object = None;
  old_object = None;
  params = None;
  namespace_object = None;
  request = None;
}

-- the request that was set, else the empty one
abbrev pub request_in : Variables → Data
request_in v = request_value (unwrap_or v.request empty_request)

-- the names that are always bound
unfoldable pub bindings_always : Variables → Bindings
bindings_always v = always_bound plain v.object v.old_object (request_in v)

-- all names that are bound
unfoldable pub policy_bindings : Variables → Bindings
policy_bindings v =
    with_given plain (codes "namespaceObject") v.namespace_object
    (with_given plain (codes "params") v.params (bindings_always v))

-- ---- views of the code's values

abbrev pub given_view : Given → Variables
given_view g = record {
  object = option_map view g.object;
  old_object = option_map view g.old_object;
  params = option_map view g.params;
  namespace_object = option_map view g.namespace_object;
  request = option_map request_view g.request;
}

abbrev pub builder_view : VapEvaluatorBuilder → Variables
builder_view b = given_view b.given

abbrev pub evaluator_view : VapEvaluator → Variables
evaluator_view e = given_view e.given
