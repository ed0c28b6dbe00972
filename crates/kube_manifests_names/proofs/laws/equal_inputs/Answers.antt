use denote.Enum.Bare.{same_true, true_same}
use Rattle.kube_manifests_names.proofs.laws.equal_inputs.Goals as goal
use Rattle.kube_manifests_names.specs.contracts.inputs.Input.{the_type}
use Rattle.std.proofs.Common.{rules, sym, ◌∙◌}

pub returns : goal.returns
returns c = (λ h. same_true the_type (search rules) c.args.a c.args.b (sym c.eq.ensures ∙ h), λ h. c.eq.ensures ∙ true_same the_type c.args.a c.args.b h)
