use Rattle.kube_cel.proofs.Parts.{raw_sees_alike, tree_sees_alike, values_within, olds_within}
use Rattle.kube_cel.specs.Compiled.{compiled_accessors}
use Rattle.kube_cel.specs.Raw.{raw_accessors}
use Rattle.kube_schema.specs.CompiledConversion.{tree_accessors}
use Rattle.kube_schema.specs.Conversion.{raw}
use Rattle.kube_cel.proofs.laws.self_is_the_part_of_the_roots.Goals as goal

pub returns-clause-schema : goal.returns-clause-schema
returns-clause-schema c = values_within raw_accessors raw raw_sees_alike

pub returns-clause-schema_old : goal.returns-clause-schema_old
returns-clause-schema_old c = olds_within raw_accessors raw raw_sees_alike

pub returns-clause-tree : goal.returns-clause-tree
returns-clause-tree c = values_within compiled_accessors tree_accessors tree_sees_alike

pub returns-clause-tree_old : goal.returns-clause-tree_old
returns-clause-tree_old c = olds_within compiled_accessors tree_accessors tree_sees_alike
