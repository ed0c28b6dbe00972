use Rattle.std.proofs.Common.{sym, ap, ◌∙◌, subst}
use Rattle.serde_json.specs.View.{view}
use Rattle.kube_schema_values.specs.DefaultsAccessors.{raw}
use Rattle.kube_schema_values.specs.Defaults.{FillsMembers, defaulted_value}
use Rattle.kube_schema_values.proofs.Members.{raw_names_keys, fills_members}
use Rattle.kube_schema.specs.CompiledDefaults.{tree_accessors}
use Rattle.kube_schema.proofs.SameDefaults.{filled_same}
use Rattle.kube_schema.proofs.defaults.apply_defaults.Goals as goal

pub returns-clause-filled : goal.returns-clause-filled
returns-clause-filled c =
    c.in_ok-filled.ensures.filled
    ∙ ap (λ t. defaulted_value tree_accessors 65 t (view c.args.value.now)) (c.root-root.ensures ∙ c.in_ok-compiled.ensures.tree)
    ∙ sym (filled_same 65 (view c.args.schema.now) (view c.args.value.now))

pub returns-clause-members : goal.returns-clause-members
returns-clause-members c =
    subst (FillsMembers raw 64 (view c.args.schema.now) (view c.args.value.now)) (sym (returns-clause-filled c)) (fills_members raw raw_names_keys 64 (view c.args.schema.now) (view c.args.value.now))
