use Rattle.kube_schema.proofs.Names.{compiled_names_keys}
use Rattle.kube_schema.specs.CompiledDefaults.{tree_accessors}
use Rattle.kube_schema_values.proofs.Members.{fills_members, raw_names_keys}
use Rattle.kube_schema_values.specs.DefaultsAccessors.{raw}
use Rattle.kube_schema.proofs.laws.objects_are_filled_key_by_key.Goals as goal

pub returns-clause-schema : goal.returns-clause-schema
returns-clause-schema c = fills_members raw raw_names_keys

pub returns-clause-tree : goal.returns-clause-tree
returns-clause-tree c = fills_members tree_accessors compiled_names_keys
