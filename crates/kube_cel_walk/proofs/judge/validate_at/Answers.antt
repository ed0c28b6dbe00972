use Rattle.kube_cel_walk.specs.Errors.{error_view}
use Rattle.kube_cel_walk.proofs.judge.validate_at.Goals as goal
use Rattle.kube_cel_walk.proofs.Judged.{deep_found, shallow_found, unrun_found}
use Rattle.kube_cel_walk.specs.Paths.{path_view}
use Rattle.kube_cel_walk.specs.Visits.{visit_at}
use Rattle.kube_schema_rules.specs.CompiledRules.{rules_in}
use Rattle.std.proofs.Common.{◌≡◌, ◌==◌, ◌++◌, map, true, false, sym, ap, ◌∙◌, append-nil, arith}
use Rattle.serde_json.specs.View.{view}
use Rattle.std.proofs.lemmas.Bool.Decides.{nat_tests}

pub returns-then-state-eq-TOO_DEEP-clause-found : goal.returns-then-state-eq-TOO_DEEP-clause-found
returns-then-state-eq-TOO_DEEP-clause-found g c = λ b h.
    let e : c.args.state.now.depth ≡ 65 = omega arith in
    c.in_ok-add_deep.ensures ∙ sym (ap (λ r. map error_view c.args.errors.now.items ++ r) (deep_found g.N.Node.form b (visit_at g.N.Node.seen c.args.state.now (path_view c.args.path.now)) e))

pub returns-then-not-runs_at-clause-found : goal.returns-then-not-runs_at-clause-found
returns-then-not-runs_at-clause-found g c = λ b h.
    let t : (c.args.state.now.depth == 65) ≡ false = grind (arith, nat_tests, c.if-state-eq-TOO_DEEP.false) in
    let runs : g.N.Node.form.runs_at (g.N.Node.seen c.args.state.now.node) (view c.args.state.now.value.now) ≡ false = sym c.runs_at.ensures ∙ c.if-not-runs_at.true in
    let old = map error_view c.args.errors.now.items in
    sym (ap (λ r. old ++ r) (unrun_found g.N.Node.form b (visit_at g.N.Node.seen c.args.state.now (path_view c.args.path.now)) t runs) ∙ append-nil old)

pub returns-in_ok-add_by_rules-in-Lent-clause-found : goal.returns-in_ok-add_by_rules-in-Lent-clause-found
returns-in_ok-add_by_rules-in-Lent-clause-found g c = λ b h.
    let t : (c.args.state.now.depth == 65) ≡ false = grind (arith, nat_tests, c.if-state-eq-TOO_DEEP.false) in
    let runs : g.N.Node.form.runs_at (g.N.Node.seen c.args.state.now.node) (view c.args.state.now.value.now) ≡ true = sym c.runs_at.ensures ∙ c.if-not-runs_at.false in
    c.in_ok-add_by_rules-in-Lent.ensures.found b h
    ∙ sym (ap (λ r. map error_view c.args.errors.now.items ++ r) (shallow_found g.N.Node.form b (visit_at g.N.Node.seen c.args.state.now (path_view c.args.path.now)) t runs))

pub returns-in_ok-add_by_made-in-Made-clause-found : goal.returns-in_ok-add_by_made-in-Made-clause-found
returns-in_ok-add_by_made-in-Made-clause-found g c = λ b h.
    let t : (c.args.state.now.depth == 65) ≡ false = grind (arith, nat_tests, c.if-state-eq-TOO_DEEP.false) in
    let runs : g.N.Node.form.runs_at (g.N.Node.seen c.args.state.now.node) (view c.args.state.now.value.now) ≡ true = sym c.runs_at.ensures ∙ c.if-not-runs_at.false in
    c.in_ok-add_by_made-in-Made.ensures.found b h
    ∙ sym (ap (λ r. map error_view c.args.errors.now.items ++ r) (shallow_found g.N.Node.form b (visit_at g.N.Node.seen c.args.state.now (path_view c.args.path.now)) t runs))
