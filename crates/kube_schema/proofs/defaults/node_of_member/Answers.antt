use Rattle.std.proofs.Common.{None, ap, ◌∙◌, if◌then◌else◌}
use Rattle.kube_schema_values.proofs.Fills.{accessors_property, accessors_additional}
use Rattle.kube_schema.specs.CompiledDefaults.{tree_accessors}
use Rattle.kube_schema.specs.Shown.{node_tree}
use Rattle.kube_schema.specs.Tree.{additional_of}
use Rattle.kube_schema.proofs.defaults.node_of_member.Goals as goal

pub returns-in-Some : goal.returns-in-Some
unfolding tree_accessors
returns-in-Some g c = accessors_property tree_accessors (node_tree c.args.node.now) c.args.key.now (node_tree c.in-Some.property) c.in-Some.ensures

pub returns-then-preserve_unknown_fields : goal.returns-then-preserve_unknown_fields
unfolding tree_accessors
returns-then-preserve_unknown_fields g c =
    accessors_additional tree_accessors (node_tree c.args.node.now) c.args.key.now None c.in_default.ensures (ap (λ b. if b then None else additional_of (node_tree c.args.node.now)) c.if-preserve_unknown_fields.ensures)

pub returns : goal.returns
unfolding tree_accessors
returns g c =
    accessors_additional tree_accessors (node_tree c.args.node.now) c.args.key.now _ c.in_default.ensures (c.additional_properties.ensures ∙ ap (λ b. if b then None else additional_of (node_tree c.args.node.now)) c.if-preserve_unknown_fields.ensures)
