use Rattle.std.proofs.Common.{ap, ◌∙◌}
use Rattle.kube_cel.specs.Compiled.{compiled_accessors}
use Rattle.kube_schema.specs.Tree.{Own}
use Rattle.kube_cel.proofs.compiled.CompiledNodeNode.rules.Goals as goal

pub returns : goal.returns
unfolding compiled_accessors
returns g c = record {
  rules = c.in_ok-rules.ensures.rules ∙ ap (λ (o : Own). o.validations) c.keywords.ensures;
}
