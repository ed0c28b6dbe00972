use Rattle.cel_semantics.specs.Bindings.{bindings, names_of}
use Rattle.cel_semantics.proofs.Anew.{taken_above}
use Rattle.cel_semantics.proofs.context.Context.take_variable.Goals as goal

pub returns-clause-variables : goal.returns-clause-variables
returns-clause-variables g c =
    taken_above c.take.result c.args.name.now (names_of c.take.new.self) (names_of c.args.self.now.names) (bindings c.args.self.now.outer) c.take.ensures
