use Rattle.cel_value.specs.View.{view}
use Rattle.cel_semantics.specs.Bindings.{names_of, bindings}
use Rattle.cel_semantics.proofs.Anew.{bound_above}
use Rattle.cel_semantics.proofs.context.Context.add_variable.Goals as goal

pub returns-clause-variables : goal.returns-clause-variables
returns-clause-variables g c = λ x.
    bound_above x c.args.name.now (names_of c.set.new.self) (names_of c.args.self.now.names) (bindings c.args.self.now.outer) (view c.args.value) (c.in_ok-set.ensures.bound x)
