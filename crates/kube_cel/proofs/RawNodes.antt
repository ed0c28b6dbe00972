-- A schema as JSON, as the walk reads it.
use Rattle.kube_cel.specs.Raw.{raw_accessors}
use Rattle.kube_schema_rules.proofs.Candidates.{CountsAll}
use Rattle.kube_schema_rules.proofs.Raw.{raw_counts_all}

pub raw_accessors_counts_all : CountsAll raw_accessors.steps
unfolding raw_accessors
raw_accessors_counts_all = raw_counts_all
