-- Trusted by laws alone.
-- Policies and single expressions, as `VapEvaluator` of `kube_cel_vap` evaluates them, over the same objects.
use Rattle.kube_cel_vap.specs.Validations.{ExpressionData, ResultData}
use Rattle.kube_cel_vap.specs.Variables as single
use Rattle.kube_manifests_documents.specs.Inputs.{Variables}
use Rattle.kube_manifests_documents.specs.Policies.{ItemData}
use Rattle.kube_manifests_names.specs.Unstructured.{KeepsKeys}
use Rattle.kube_manifests_policies.specs.Bound.{request_or_null}
use Rattle.serde_json.specs.Data.{Data as Json}
use Rattle.std.specs.Prelude.{◌≡◌, ℕ, List, Bool, Option, Some}

-- no key of the object, if it is given, is changed by escaping
abbrev pub KeepsKeysWhere : Option Json → Type 0
KeepsKeysWhere o = (d : Json) → o ≡ Some d → KeepsKeys d

-- the same objects, none with a key that escaping changes, and requests with the same value
pub record AreAlike (v : Variables) (w : single.Variables) : Type 0 where
  pub object : v.object ≡ w.object
  pub old_object : v.old_object ≡ w.old_object
  pub params : v.params ≡ w.params
  pub namespace_object : v.namespace_object ≡ w.namespace_object
  pub request : request_or_null v.request ≡ single.request_in w
  pub object_keys : KeepsKeysWhere v.object
  pub old_object_keys : KeepsKeysWhere v.old_object
  pub params_keys : KeepsKeysWhere v.params
  pub namespace_object_keys : KeepsKeysWhere v.namespace_object

abbrev pub expression_of : ItemData → ExpressionData
expression_of x = record {
  expression = x.expression;
  message = x.message;
  message_expression = x.message_expression;
}

abbrev pub passed_of : ResultData → List ℕ × Bool
passed_of r = (r.expression, r.passed)
