use Rattle.std.proofs.Common.{sym, ap, ◌∙◌, arith}
use Rattle.serde_json.specs.View.{view}
use Rattle.kube_schema_values.specs.Conversion.{to_cel, levels}
use Rattle.kube_schema.specs.CompiledConversion.{tree_accessors}
use Rattle.kube_schema.proofs.SameBinding.{bound_within}
use Rattle.kube_schema.proofs.binding.bind.Goals as goal

pub returns-clause-value : goal.returns-clause-value
returns-clause-value c =
    c.in_ok-bound.ensures.value
    ∙ ap (λ t. to_cel tree_accessors (levels c.args.depth) t (view c.args.value.now)) (c.root-root.ensures ∙ c.in_ok-compiled.ensures.tree)
    ∙ sym (bound_within (levels c.args.depth) 65 (view c.args.schema.now) (view c.args.value.now) (omega arith))
