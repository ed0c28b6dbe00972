use Rattle.cel.specs.Bindings.{binding, bindings_of}
use Rattle.cel_value.specs.Data.{Data}
use Rattle.cel_value.specs.View.{view}
use Rattle.kube_cel_vap.proofs.Bound.{of_made}
use Rattle.kube_cel_vap.specs.Bound.{always_bound}
use Rattle.kube_manifests_documents.specs.Inputs.{inputs_view}
use Rattle.kube_manifests_names.specs.Unstructured.{unstructured}
use Rattle.kube_manifests_policies.proofs.context.context_always.Goals as goal
use Rattle.kube_manifests_policies.specs.Bound.{bindings_always, request_or_null}
use Rattle.std.proofs.Common.{◌≡◌, ℕ, List, subst}
use Rattle.std.proofs.lemmas.Result.{IfOk-at_ok}
use Rattle.std.specs.Result.{IsOkAnd}

pub returns : goal.returns
unfolding bindings_always
returns c = record {
  bound =
      let v = inputs_view c.args.inputs.now in
      let made = c.bind_always-bound.new.context in
      let Binds : Data → Type 0 = λ d. (x : List ℕ) → binding x (bindings_of made) ≡ binding x (always_bound unstructured v.object v.old_object d) in
      let same : made ≡ c.in_ok-context.context = cc c.in_ok-context.ensures.1 in
      let bound : IsOkAnd c.request_or_null-request.result (λ r. Binds (view r)) = IfOk-at_ok (λ _. IsOkAnd c.request_or_null-request.result (λ r. Binds (view r))) c.in_ok-context.ensures.0 c.bind_always-bound.ensures.bound in
      subst (λ k. (x : List ℕ) → binding x (bindings_of k) ≡ binding x (bindings_always v)) same
      (of_made c.request_or_null-request.result (request_or_null v.request) Binds bound c.request_or_null-request.ensures.value);
}
