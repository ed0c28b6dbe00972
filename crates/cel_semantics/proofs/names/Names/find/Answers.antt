use Rattle.cel_value.specs.View.{view}
use Rattle.cel_semantics.specs.Bindings.{named_bindings}
use Rattle.cel_semantics.proofs.Lookups.{inner_here, inner_past}
use Rattle.cel_semantics.proofs.names.Names.find.Goals as goal

pub returns-in-Some : goal.returns-in-Some
returns-in-Some c = inner_here c.args.name.now (named_bindings c.args.self.now.first.items) (named_bindings c.args.self.now.others.entries) (view c.in-Some.value.now) c.in-Some.ensures

pub returns-in-None : goal.returns-in-None
returns-in-None c = inner_past c.args.name.now (named_bindings c.args.self.now.first.items) (named_bindings c.args.self.now.others.entries) _ c.in-None.ensures c.mapped.ensures
