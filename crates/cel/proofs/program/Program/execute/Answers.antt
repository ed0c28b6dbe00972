use Rattle.cel_patterns.specs.Extensions.{HoldsForExtensions}
use Rattle.cel_semantics.specs.Bindings.{bindings_of, functions_of}
use Rattle.cel_semantics.specs.Meaning.{meaning}
use Rattle.cel_semantics.specs.Outcome.{outcome_view}
use Rattle.cel.specs.Program.{program_term}
use Rattle.cel.proofs.Fresh.{for_some_book}
use Rattle.cel.proofs.program.Program.execute.Goals as goal

pub returns : goal.returns
returns g c = record {
  value =
      for_some_book (λ r x. HoldsForExtensions x (outcome_view r) (λ b. meaning (g.F.Functions.library (functions_of c.args.context.now)) b (program_term c.args.self.now) (bindings_of c.args.context.now)))
      c.execute_with.result c.execute_with.new.book c.execute_with.ensures.value;
}
