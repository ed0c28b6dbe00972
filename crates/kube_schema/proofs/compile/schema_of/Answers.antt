use Rattle.std.proofs.Common.{refl}
use Rattle.kube_schema.specs.Shown.{whole}
use Rattle.kube_schema.proofs.compile.schema_of.Goals as goal

pub returns : goal.returns
unfolding whole
returns g c = refl
