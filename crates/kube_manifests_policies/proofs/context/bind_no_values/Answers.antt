use Rattle.cel.specs.Bindings.{bindings_of}
use Rattle.cel_value.specs.View.{view}
use Rattle.kube_manifests_policies.proofs.Alike.{values_bound}
use Rattle.kube_manifests_policies.proofs.context.bind_no_values.Goals as goal
use Rattle.std.proofs.Common.{sym, ap, ◌∙◌, true≢false}
use Rattle.std.specs.Prelude.{◌==◌}

pub returns : goal.returns
returns c = record {
  bound =
      values_bound c.args.variables.now (view c.in_ok-values.values) (bindings_of c.args.context.now) (bindings_of c.add_variable.new.self)
      (λ h. true≢false (sym (c.is_empty.ensures ∙ ap (λ n. n == 0) h) ∙ c.if-is_empty.false)) c.in_ok-values.ensures.value c.in_ok-add_variable.ensures.variables;
}
