use Rattle.cel_value.proofs.Equal.{addresses_by_parts, cidrs_by_parts}
use Rattle.cel_value.proofs.laws.addresses_by_parts.Goals as goal

pub returns-clause-address : goal.returns-clause-address
returns-clause-address c = addresses_by_parts

pub returns-clause-cidr : goal.returns-clause-cidr
returns-clause-cidr c = cidrs_by_parts
