use Rattle.cel_value.specs.View.{view}
use Rattle.cel_semantics.specs.Bindings.{names_of, bindings}
use Rattle.cel_semantics.proofs.Lookups.{inner_here, inner_past}
use Rattle.cel_semantics.proofs.context.Context.get.Goals as goal

pub returns-in-Some : goal.returns-in-Some
returns-in-Some g c = inner_here c.args.name.now (names_of c.args.self.now.names) (bindings c.args.self.now.outer) (view c.in-Some.value.now) c.in-Some.ensures

pub returns-in-None : goal.returns-in-None
returns-in-None g c = inner_past c.args.name.now (names_of c.args.self.now.names) (bindings c.args.self.now.outer) _ c.in-None.ensures c.get.ensures
