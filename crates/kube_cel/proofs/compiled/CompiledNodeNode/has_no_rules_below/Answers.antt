use Rattle.kube_cel.proofs.compiled.CompiledNodeNode.has_no_rules_below.Goals as goal
use Rattle.kube_cel.proofs.NoRules.{no_rules_below}
use Rattle.kube_schema.specs.Shown.{node_tree}

pub returns : goal.returns
returns g c = λ h. no_rules_below c.args.levels (node_tree c.args.self.now.node) (c.has_no_rules_below.ensures h)
