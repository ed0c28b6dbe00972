-- The branch counts of the tree of a schema cover all its branches.
use Rattle.std.proofs.Common.{◌<◌, ℕ, zero, suc, IsSome, arith}
use Rattle.kube_schema_rules.proofs.Candidates.{CountsAll}
use Rattle.kube_schema.specs.Tree.{branches_of, Nodes, no_nodes, more, nodes_length, nth_node}
use Rattle.kube_cel.specs.CompiledSteps.{compiled_steps}

in_branches : (i : ℕ) (ns : Nodes) → IsSome (nth_node i ns) → i < nodes_length ns
in_branches i no_nodes h = cc
in_branches zero (more n ns) h = omega arith
in_branches (suc i) (more n ns) h = let r = in_branches i ns h in omega arith

pub compiled_counts_all : CountsAll compiled_steps
unfolding compiled_steps
compiled_counts_all = record {
  branches = λ kind j node h. in_branches j (branches_of kind node) h;
}
