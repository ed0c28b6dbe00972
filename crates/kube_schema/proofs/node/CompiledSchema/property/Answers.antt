use Rattle.std.proofs.Common.{◌≡◌, ap, subst, ◌∙◌, Some, IfSome}
use Rattle.kube_schema.specs.Shown.{node_tree}
use Rattle.kube_schema.specs.Tree.{nth_named, named_of, property_of}
use Rattle.kube_schema.proofs.node.CompiledSchema.property.Goals as goal

pub returns-clause-pair : goal.returns-clause-pair
returns-clause-pair c = c.property.ensures.pair ∙ ap (λ n. nth_named c.args.i (named_of n)) c.root.ensures

pub returns-clause-named : goal.returns-clause-named
returns-clause-named c = subst (λ n. IfSome c.property.result (λ p. property_of p.0.now n ≡ Some (node_tree p.1))) c.root.ensures c.property.ensures.named
