use Rattle.kube_manifests.specs.Inputs.{inputs_view}
use Rattle.kubecel_report.specs.Items.{item_view}
use Rattle.kubecel_cli.proofs.Admitting.{judged_so, reported_of_file}
use Rattle.kubecel_cli.proofs.admit.admitted.Goals as goal
use Rattle.serde_json.specs.View.{view}
use Rattle.std.proofs.Common.{map, option_map, refl}

pub returns : goal.returns
returns g c =
    let policy = c.in_ok-policy.policy in
    let base = c.in_ok-base.base in
    let object = option_map view c.in_ok-object.object in
    let old = option_map view c.in_ok-old.old in
    let params = option_map view c.in_ok-params.params in
    let namespace = option_map view c.in_ok-namespace.namespace in
    let location = c.in_ok-policy.ensures.location in
    record {
      policy = view policy.value;
      request = option_map view c.in_ok-request.request;
      object = object;
      old = old;
      params = params;
      namespace = namespace;
      with_policy = c.read_one.new.files;
      with_request = c.read_where_named.new.files;
      with_object = c.read_where_named-2.new.files;
      with_old = c.read_where_named-3.new.files;
      with_params = c.read_where_named-4.new.files;
      policy_read = c.in_ok-policy.ensures.read;
      request_read = c.in_ok-request.ensures;
      object_read = c.in_ok-object.ensures;
      old_read = c.in_ok-old.ensures;
      params_read = c.in_ok-params.ensures;
      namespace_read = c.in_ok-namespace.ensures;
      base = inputs_view base;
      base_is = c.in_ok-base.ensures;
      verdict = c.in_ok-verdict.verdict;
      judged = judged_so (inputs_view base)
          (record { object = c.instead.result; old_object = c.instead-2.result; params = c.instead-3.result; namespace_object = c.instead-4.result; request = base.request })
          object old params namespace (view policy.value) c.in_ok-verdict.verdict c.instead.ensures c.instead-2.ensures c.instead-3.ensures c.instead-4.ensures refl
          c.in_ok-verdict.ensures;
      reported = reported_of_file (map item_view c.in_ok-report_of.field-0.items.items) c.args.admit.policy.now policy c.in_ok-verdict.verdict location.0 location.1 c.in_ok-report_of.ensures;
    }
