use Rattle.std.proofs.Common.{refl, sym}
use Rattle.kube_cel.proofs.Alike.{answered_alike, judged_alike}
use Rattle.kube_schema.specs.View.{view_of}
use Rattle.kube_cel.proofs.laws.a_compiled_schema_answers_alike.Goals as goal

pub returns-clause-filled : goal.returns-clause-filled
returns-clause-filled c b schema value old root = sym (judged_alike b schema value old root (view_of 65 schema) refl)

pub returns-clause-plain : goal.returns-clause-plain
returns-clause-plain c = answered_alike
