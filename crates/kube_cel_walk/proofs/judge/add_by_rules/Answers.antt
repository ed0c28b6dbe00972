use Rattle.kube_cel_walk.specs.Errors.{error_view}
use Rattle.kube_cel_walk.proofs.judge.add_by_rules.Goals as goal
use Rattle.kube_cel_walk.proofs.Judged.{no_rules_found, none_of}
use Rattle.kube_cel_walk.specs.Paths.{path_view}
use Rattle.kube_cel_walk.specs.Visits.{visit_at}
use Rattle.kube_schema_rules.specs.Compilation.{compiled_seen}
use Rattle.std.proofs.Common.{◌++◌, map, sym, ap, ◌∙◌, append-nil}

pub returns-then-is_empty-clause-found : goal.returns-then-is_empty-clause-found
returns-then-is_empty-clause-found g c = λ b h.
    let old = map error_view c.args.errors.now.items in
    let none = sym c.requires ∙ ap (map compiled_seen) (sym c.as_slice.ensures.value) ∙ none_of compiled_seen c.as_slice.result.now (sym c.is_empty.ensures ∙ c.if-is_empty.true) in
    sym (ap (λ r. old ++ r) (no_rules_found g.N.Node.form b (visit_at g.N.Node.seen c.args.state.now (path_view c.args.path.now)) none) ∙ append-nil old)
