use Rattle.cel.specs.Bindings.{binding, bindings_of}
use Rattle.cel_value.specs.View.{view}
use Rattle.kube_manifests_documents.specs.Inputs.{inputs_view}
use Rattle.kube_manifests_documents.specs.Policies.{item_view}
use Rattle.kube_manifests_policies.proofs.context.policy_scope.Goals as goal
use Rattle.kube_manifests_policies.specs.Bound.{policy_bindings}
use Rattle.kube_manifests_policies.specs.Scopes.{with_no_values}
use Rattle.kube_manifests_policies.specs.Verdicts.{result_view}
use Rattle.kube_manifests_policies.specs.declared.scope.Scope.{Scope}
use Rattle.std.proofs.Common.{◌≡◌, ℕ, List, map, sym, ap, ◌∙◌}
use Rattle.std.proofs.lemmas.Result.{IfOk-at_ok}

pub returns : goal.returns
returns c = record {
  scope =
      let v = inputs_view c.args.inputs.now in
      let xs = map item_view c.args.variables.now in
      let given = c.args.scope in
      let e = c.bind_policy-bound.new.context in
      let first : ◌≡◌ {A = Scope} (record given { context = e }) c.in_ok-scope.scope = cc c.in_ok-scope.ensures.1 in
      let second : c.in_ok-scope.scope ≡ c.in_ok-absent.scope = cc c.in_ok-absent.ensures.1 in
      let same = first ∙ second in
      let bound : (x : List ℕ) → binding x (bindings_of e) ≡ binding x (with_no_values xs (policy_bindings v)) =
      IfOk-at_ok (λ _. (x : List ℕ) → binding x (bindings_of e) ≡ binding x (with_no_values xs (policy_bindings v))) c.in_ok-scope.ensures.0 c.bind_policy-bound.ensures.bound in
      record {
        bindings = λ x. ap (λ s. binding x (bindings_of s.context)) (sym same) ∙ bound x;
        absent = ap (λ a. a.items) c.replace.ensures.after ∙ IfOk-at_ok _ c.in_ok-absent.ensures.0 c.absent_inputs-absent.ensures.absent;
        values = ap (λ s. view s.values) (sym same) ∙ c.requires.values;
        missing = ap (λ s. map result_view s.missing.items) (sym same) ∙ c.requires.missing;
      };
}
