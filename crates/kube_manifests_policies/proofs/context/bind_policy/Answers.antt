use Rattle.cel.specs.Bindings.{bindings_of}
use Rattle.kube_manifests_documents.specs.Inputs.{inputs_view}
use Rattle.kube_manifests_documents.specs.Policies.{item_view}
use Rattle.kube_manifests_policies.proofs.Alike.{policy_names, under_no_values}
use Rattle.kube_manifests_policies.proofs.context.bind_policy.Goals as goal
use Rattle.kube_manifests_policies.specs.Bound.{policy_bindings}
use Rattle.std.proofs.Common.{◌∙◌, map}

pub returns : goal.returns
returns c = record {
  bound =
      let v = inputs_view c.args.inputs.now in
      let e = bindings_of c.bind_given.new.context in
      λ x. c.in_ok-bind_no_values.ensures.bound x
      ∙ under_no_values (map item_view c.args.variables.now) e (policy_bindings v) (policy_names v (bindings_of c.args.context.now) e c.requires c.in_ok-bind_given.ensures.bound) x;
}
