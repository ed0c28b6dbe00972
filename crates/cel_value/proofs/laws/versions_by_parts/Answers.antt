use Rattle.std.proofs.Common.{refl}
use Rattle.cel_value.specs.Data.{semver}
use Rattle.cel_value.proofs.Equal.{same_versions}
use Rattle.cel_value.proofs.laws.versions_by_parts.Goals as goal

pub returns : goal.returns
returns c = λ v w. same_versions v (semver w) w refl
