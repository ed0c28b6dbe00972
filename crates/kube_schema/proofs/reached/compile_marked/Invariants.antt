use Rattle.kube_schema.specs.Source.{source_own}
use Rattle.kube_schema.specs.Raw.{AreSame}
use Rattle.kube_schema.proofs.reached.compile_marked.Given as goal

abbrev pub invariant-loop-number : goal.invariant-loop-number
invariant-loop-number l = AreSame source_own source_own l.fn.table.nodes.items l.table.nodes.items
