use Rattle.cel.specs.Bindings.{bindings_of}
use Rattle.cel_value.specs.Data.{text}
use Rattle.cel_value.specs.View.{view}
use Rattle.kube_cel_walk.proofs.Bound.{rooted}
use Rattle.kube_cel_walk.proofs.verdict.bind_root.Goals as goal
use Rattle.kube_cel_walk.specs.Roots.{root_view}
use Rattle.std.proofs.Common.{option_map, ap, ◌∙◌}

pub returns-clause-bound : goal.returns-clause-bound
returns-clause-bound g c = rooted (option_map (λ r. root_view r.now) c.args.root) (root_view c.in-Some.root.now)
    (bindings_of c.args.context.now) (bindings_of c.add_variable.new.self) (bindings_of c.add_variable-2.new.self) (bindings_of c.add_variable-3.new.self)
    (view c.in_ok-bind_text.field-0) (view c.in_ok-bind_text-2.field-0) (view c.in_ok-bind_text-3.field-0)
    (ap (option_map (λ r. root_view r.now)) c.in-Some.is)
    (c.in_ok-bind_text.ensures.value ∙ ap text c.as_str.ensures.value)
    (c.in_ok-bind_text-2.ensures.value ∙ ap text c.as_str-2.ensures.value)
    (c.in_ok-bind_text-3.ensures.value ∙ ap text c.as_str-3.ensures.value)
    c.in_ok-add_variable.ensures.variables c.in_ok-add_variable-2.ensures.variables c.in_ok-add_variable-3.ensures.variables
