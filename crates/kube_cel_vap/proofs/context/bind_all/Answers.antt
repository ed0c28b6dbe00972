use Rattle.cel.specs.Bindings.{Bindings, binding, bindings_of}
use Rattle.cel_value.specs.Data.{Data}
use Rattle.kube_cel_vap.proofs.Bound.{all_bound, of_made}
use Rattle.kube_cel_vap.proofs.context.bind_all.Goals as goal
use Rattle.kube_cel_vap.specs.Bound.{always_bound}
use Rattle.kube_cel_vap.specs.Variables.{bindings_always, given_view, request_in}
use Rattle.kube_schema_values.specs.Plain.{plain}
use Rattle.std.proofs.Common.{◌≡◌, ℕ, List}

pub returns : goal.returns
unfolding bindings_always
returns c = record {
  bound =
      let v = given_view c.args.given.now in
      let e0 = bindings_of c.bind_always.new.context in
      let first = of_made c.request_or_empty-request.result (request_in v) (λ d. (x : List ℕ) → binding x e0 ≡ binding x (always_bound plain v.object v.old_object d))
      c.in_ok-bind_always.ensures.bound c.request_or_empty-request.ensures.value in
      all_bound v e0 (bindings_of c.bind_given.new.context) (bindings_of c.bind_given-2.new.context) first c.in_ok-bind_given.ensures.bound c.in_ok-bind_given-2.ensures.bound;
}
