use Rattle.std.proofs.Common.{codes, ap, ◌∙◌}
use Rattle.kube_schema_rules.specs.Demands.{rules_read}
use Rattle.kube_schema.proofs.node.SchemaNode.demands.Goals as goal

pub returns : goal.returns
returns c =
    let rules = c.rules.result.now in
    (rules.value_read ∙ ap (rules_read (codes "self")) c.rules.ensures, rules.old_read ∙ ap (rules_read (codes "oldSelf")) c.rules.ensures)
