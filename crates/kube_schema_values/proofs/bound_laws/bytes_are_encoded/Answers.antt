use Rattle.kube_schema_values.proofs.Read.{decoded_bytes}
use Rattle.kube_schema_values.proofs.bound_laws.bytes_are_encoded.Goals as goal

pub returns : goal.returns
returns c = decoded_bytes
