use Rattle.cel_patterns.proofs.Books.{Extends-refl}
use Rattle.cel_patterns.proofs.Entries.{entries-IsBook}
use Rattle.cel.specs.Entries.{entries_of}
use Rattle.cel.specs.Bindings.{bindings_of}
use Rattle.kube_cel_vap.proofs.evaluator.VapEvaluator.evaluate_compiled.Goals as goal
use Rattle.kube_cel_vap.proofs.Results.{results_same}
use Rattle.kube_cel_vap.specs.Expressions.{compiled_seen}
use Rattle.kube_cel_vap.specs.Variables.{evaluator_view}
use Rattle.std.proofs.Common.{map, ◌∙◌}

pub returns : goal.returns
returns c = record {
  results =
      let b = entries_of c.results_of.new.book in (
        b,
        entries-IsBook c.results_of.new.book,
        c.in_ok-results.ensures.reported b (Extends-refl b)
            ∙ results_same b (evaluator_view c.args.self.now) (map compiled_seen c.args.compiled.now) (bindings_of c.in_ok-context.context) c.in_ok-context.ensures.bound,
      );
}
