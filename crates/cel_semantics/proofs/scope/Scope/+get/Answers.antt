use Rattle.cel_value.specs.View.{view}
use Rattle.cel_semantics.proofs.Lookups.{named_here, named_past}
use Rattle.cel_semantics.proofs.scope.Scope.+get.Goals as goal

pub returns-in-Some : goal.returns-in-Some
returns-in-Some t c = named_here c.args.name.now c.in-Named.names c.in-Named.outer c.args.self.now (view c.in-Some.value.now) c.in-Named.is c.in-Some.ensures

pub returns-in-None : goal.returns-in-None
returns-in-None t c = named_past c.args.name.now c.in-Named.names c.in-Named.outer c.args.self.now _ c.in-Named.is c.in-None.ensures c.get.ensures
