use Rattle.cel.specs.Bindings.{binding, bindings_of}
use Rattle.cel_value.specs.Data.{null}
use Rattle.kube_cel_walk.proofs.ReadVerdicts.{named_others}
use Rattle.kube_cel_walk.proofs.judge.taken.Goals as goal
use Rattle.std.proofs.Common.{ap}

pub returns-in-Some : goal.returns-in-Some
returns-in-Some g c = named_others c.args.name.now null (bindings_of c.args.context.now) (bindings_of c.take_variable.new.self) c.in-Some.ensures.variables.1

pub returns-in-None : goal.returns-in-None
returns-in-None g c = λ x other. ap (binding x) c.in-None.ensures.variables
