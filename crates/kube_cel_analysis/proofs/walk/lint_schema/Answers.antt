use Rattle.kube_cel_analysis.proofs.Named.{naming}
use Rattle.kube_cel_analysis.proofs.Nodes.{schema_found}
use Rattle.kube_cel_analysis.proofs.walk.lint_schema.Goals as goal
use Rattle.kube_cel_analysis.specs.Findings.{finding_view}
use Rattle.kube_cel_analysis.specs.Lint.{findings}
use Rattle.kube_cel_analysis.specs.Nodes.{AreFoundAtNodes}
use Rattle.kube_schema.specs.Shown.{whole}
use Rattle.std.proofs.Common.{◌≡◌, [], map, subst, sym, rules, arith}

pub returns-clause-nodes : goal.returns-clause-nodes
returns-clause-nodes c =
    let schema = c.args.schema.now in
    let reported : map finding_view c.lint_node.new.found.items ≡ findings naming [] (whole schema) =
    first_of (search (rules, c.in_ok-lint_node.ensures.found naming, c.new-found.ensures.items, c.root.ensures), grind (arith, c.in_ok-lint_node.ensures.found naming, c.new-found.ensures.items, c.root.ensures)) in
    (naming, subst (AreFoundAtNodes naming (whole schema)) (sym reported) (schema_found naming schema))
