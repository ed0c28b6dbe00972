use Rattle.cel.specs.Bindings.{bindings_of}
use Rattle.kube_manifests_policies.proofs.Alike.{condition_names}
use Rattle.kube_manifests_policies.proofs.context.condition_scope.Goals as goal
use Rattle.kube_manifests_documents.specs.Inputs.{inputs_view}
use Rattle.kube_manifests_policies.specs.Verdicts.{result_view}
use Rattle.std.proofs.Common.{ap, map}

pub returns : goal.returns
returns c = record {
  scope = record {
    bindings = condition_names (inputs_view c.args.inputs.now) (bindings_of c.in_ok-context.context) (bindings_of c.bind_given.new.context) c.in_ok-context.ensures.bound c.in_ok-bind_given.ensures.bound;
    absent = c.in_ok-absent.ensures.absent;
    values = c.in_ok-values.ensures.value;
    missing = ap (map result_view) c.new.ensures.items;
  };
}
