use Rattle.cel.specs.Bindings.{bindings_of}
use Rattle.kube_cel_walk.specs.Errors.{error_view}
use Rattle.kube_cel_walk.proofs.judge.add_anew.Goals as goal
use Rattle.kube_cel_walk.proofs.Judged.{rules_found}
use Rattle.kube_cel_walk.specs.Paths.{path_view}
use Rattle.kube_cel_walk.specs.Visits.{visit_at}
use Rattle.std.proofs.Common.{◌++◌, map, ap, ◌∙◌}

pub returns-clause-found : goal.returns-clause-found
returns-clause-found g c = λ b h.
    let s = visit_at g.N.Node.seen c.args.state.now (path_view c.args.path.now) in
    c.in_ok-add_rules.ensures.found b h
    ∙ ap (λ r. map error_view c.args.errors.now.items ++ r) (rules_found g.N.Node.form b s (bindings_of c.bind_place.new.context) (c.in_ok-bind_place.ensures.bound (path_view c.args.path.now)))
