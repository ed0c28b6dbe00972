use Rattle.cel_semantics.specs.Bindings.{names_of}
use Rattle.cel_semantics.proofs.Lookups.{inner_bindings}
use Rattle.cel_semantics.proofs.context.Context.new_inner_scope.Goals as goal

pub returns-clause-variables : goal.returns-clause-variables
returns-clause-variables g c = inner_bindings (names_of c.new.result) _ _ c.new.ensures
