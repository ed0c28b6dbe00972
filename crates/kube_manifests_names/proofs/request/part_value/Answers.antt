use Rattle.cel_value.specs.View.{view}
use Rattle.kube_manifests_names.proofs.request.part_value.Goals as goal
use Rattle.kube_manifests_names.specs.Requests.{part_value}
use Rattle.serde_json.specs.View.{view as json_view}
use Rattle.std.proofs.Common.{◌≡◌, IfOk, option_map, subst, sym}

pub returns-in-Resource : goal.returns-in-Resource
returns-in-Resource c = record {
  value = subst (λ p. IfOk c.unless_null-in-Resource.result (λ o. option_map view o ≡ part_value p (json_view c.args.value.now))) (sym c.in-Resource.is) c.unless_null-in-Resource.ensures.value;
}
