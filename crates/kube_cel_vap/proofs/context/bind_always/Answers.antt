use Rattle.cel.specs.Bindings.{bindings_of}
use Rattle.cel_value.specs.View.{view}
use Rattle.kube_cel_vap.proofs.Bound.{Adds, always, made_so, of_made}
use Rattle.kube_cel_vap.proofs.context.bind_always.Goals as goal
use Rattle.kube_cel_vap.specs.Bound.{value_or_null}
use Rattle.serde_json.specs.View.{view as json_view}
use Rattle.std.proofs.Common.{codes, option_map}

pub returns : goal.returns
returns g c = record {
  bound =
      let value = g.A.Adapter.value c.args.adapter.now in
      let object = option_map json_view c.args.object.now in
      let old_object = option_map json_view c.args.old_object.now in
      let e0 = bindings_of c.args.context.now in
      let e1 = bindings_of c.bind.new.context in
      let e2 = bindings_of c.bind-2.new.context in
      let e3 = bindings_of c.bind-3.new.context in
      let old = of_made c.value_or_null.result (value_or_null value old_object) (λ d. Adds (codes "oldObject") d e1 e2) c.in_ok-bind-2.ensures.bound c.value_or_null.ensures.value in
      let new = of_made c.value_or_null-2.result (value_or_null value object) (λ d. Adds (codes "object") d e2 e3) c.in_ok-bind-3.ensures.bound c.value_or_null-2.ensures.value in
      made_so c.args.request (λ r added. always value object old_object (view r) e0 e1 e2 e3 c.requires added old new) c.in_ok-bind.ensures.bound;
}
