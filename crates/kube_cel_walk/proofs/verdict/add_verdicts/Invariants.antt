use Rattle.cel.specs.Book.{Extends, Book}
use Rattle.cel.specs.Entries.{entries_of}
use Rattle.cel.specs.Bindings.{bindings_of}
use Rattle.kube_cel_walk.proofs.verdict.add_verdicts.Given as goal
use Rattle.kube_cel_walk.specs.Errors.{error_view}
use Rattle.kube_cel_walk.specs.Paths.{path_view}
use Rattle.kube_cel_walk.specs.Verdicts.{list_of_option, verdict}
use Rattle.kube_cel_walk.specs.Visits.{visit_at}
use Rattle.kube_schema_rules.specs.Compilation.{compiled_seen}
use Rattle.std.proofs.Common.{◌≡◌, ◌++◌, map, take}
use Rattle.std.specs.List.{flat_map}

abbrev pub invariant-loop-rule : goal.invariant-loop-rule
invariant-loop-rule g l = record {
  keeps : (b : Book) → Extends b (entries_of l.book) → Extends b (entries_of l.initial.book);
  found : (b : Book) → Extends b (entries_of l.book) → map error_view l.errors.items ≡ map error_view l.initial.errors.items
      ++ flat_map (λ rule. list_of_option (verdict g.N.Node.form b (bindings_of l.context) (visit_at g.N.Node.seen l.state (path_view l.path)) (compiled_seen rule))) (take l.rule-index l.rules);
}
