use Rattle.std.proofs.Common.{◌-◌, arith}
use Rattle.kube_schema_values.specs.Conversion.{raw}
use Rattle.kube_schema_values.proofs.Bounds.{bound_past}
use Rattle.kube_schema_values.proofs.bound_laws.deep_values_are_plain.Goals as goal

pub returns : goal.returns
returns c = λ depth schema value deep. bound_past raw (65 - depth) schema value (omega arith)
