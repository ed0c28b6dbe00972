use Rattle.cel.specs.Alike.{ReadAlike}
use Rattle.cel.specs.Demand.{part_of}
use Rattle.cel.specs.Bindings.{binding, bindings_of}
use Rattle.cel_value.specs.View.{view as cel_view}
use Rattle.kube_cel_walk.proofs.ReadVerdicts.{named_new, named_others}
use Rattle.kube_cel_walk.proofs.judge.rebind_name.Goals as goal
use Rattle.serde_json.specs.View.{view}
use Rattle.std.proofs.Common.{rules, ◌≡◌, None, Some, option_map, sym, ap, ◌∙◌, subst}

pub returns-in_default-clause-bound : goal.returns-in_default-clause-bound
returns-in_default-clause-bound g c =
    let e = bindings_of c.args.context.now in
    let d = g.N.Node.form.bound c.args.depth (g.N.Node.seen c.args.node.now) (view c.args.value.now) in
    let none : c.args.demand.now ≡ None = search rules in
    subst (λ p. ReadAlike p (binding c.args.name.now e) (Some d)) (sym (ap (option_map part_of) none)) tt

pub returns-in_err-add_variable-clause-others : goal.returns-in_err-add_variable-clause-others
returns-in_err-add_variable-clause-others g c = λ x other. ap (binding x) c.in_err-add_variable.ensures.refused ∙ c.taken-place.ensures x other

pub returns-clause-bound : goal.returns-clause-bound
returns-clause-bound g c =
    let name = c.args.name.now in
    let e = bindings_of c.taken-place.new.context in
    let v = cel_view c.rebind_part.new.place in
    let d = g.N.Node.form.bound c.args.depth (g.N.Node.seen c.args.node.now) (view c.args.value.now) in
    let here = named_new name v e (bindings_of c.add_variable.new.self) c.in_ok-add_variable.ensures.variables in
    subst (λ p. ReadAlike p (binding name (bindings_of c.add_variable.new.self)) (Some d)) (sym (ap (option_map part_of) c.in-Some.is))
    (subst (λ o. ReadAlike (Some (part_of c.in-Some.demand)) o (Some d)) (sym here) c.in_ok-rebind_part.ensures.value)

pub returns-clause-others : goal.returns-clause-others
returns-clause-others g c =
    let v = cel_view c.rebind_part.new.place in
    let others = named_others c.args.name.now v (bindings_of c.taken-place.new.context) (bindings_of c.add_variable.new.self) c.in_ok-add_variable.ensures.variables in
    λ x other. others x other ∙ c.taken-place.ensures x other
