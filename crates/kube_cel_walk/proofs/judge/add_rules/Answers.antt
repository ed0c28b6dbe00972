use Rattle.cel.specs.Bindings.{bindings_of}
use Rattle.kube_cel_walk.proofs.judge.add_rules.Goals as goal
use Rattle.kube_cel_walk.specs.Errors.{error_view}
use Rattle.kube_cel_walk.specs.Paths.{path_view}
use Rattle.kube_cel_walk.specs.Verdicts.{list_of_option, verdict}
use Rattle.kube_cel_walk.specs.Visits.{visit_at}
use Rattle.kube_schema_rules.proofs.Found.{flat_map-map}
use Rattle.kube_schema_rules.specs.Compilation.{Compiled, Malformed, compiled_seen}
use Rattle.std.proofs.Common.{◌++◌, Result, map, sym, ap, ◌∙◌}
use Rattle.std.specs.List.{flat_map}

pub returns-clause-found : goal.returns-clause-found
returns-clause-found g c = λ b h.
    let f = λ (r : Result Compiled Malformed). list_of_option (verdict g.N.Node.form b (bindings_of c.args.context.now) (visit_at g.N.Node.seen c.args.state.now (path_view c.args.path.now)) r) in
    let rules = ap (map compiled_seen) c.as_slice-rules.ensures.value ∙ c.requires in
    c.in_ok-add_verdicts.ensures.found b h
    ∙ ap (λ r. map error_view c.args.errors.now.items ++ r) (sym (flat_map-map f compiled_seen c.as_slice-rules.result.now) ∙ ap (flat_map f) rules)
