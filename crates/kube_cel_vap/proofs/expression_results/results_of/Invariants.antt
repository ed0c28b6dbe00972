use Rattle.cel.specs.Book.{Extends}
use Rattle.cel.specs.Entries.{entries_of}
use Rattle.cel.specs.Bindings.{bindings_of}
use Rattle.kube_cel_vap.proofs.expression_results.results_of.Given as goal
use Rattle.kube_cel_vap.specs.Expressions.{compiled_seen}
use Rattle.kube_cel_vap.specs.CallResults.{AreResultsUnder}
use Rattle.std.proofs.Common.{map, take}

abbrev pub invariant-loop-one : goal.invariant-loop-one
invariant-loop-one l = record {
  keeps : Extends (entries_of l.book) (entries_of l.initial.book);
  reported : AreResultsUnder (entries_of l.book) (bindings_of l.context) (map compiled_seen (take l.one-index l.compiled)) l.results.items;
}
