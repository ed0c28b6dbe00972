-- The branch counts of a schema as JSON cover all its branches.
use Rattle.kube_schema_rules.proofs.Candidates.{CountsAll, counted}
use Rattle.kube_schema_rules.specs.Raw.{raw_steps}
use Rattle.kube_schema_rules.specs.Step.{keyword}
use Rattle.serde_json.specs.Find.{get}

pub raw_counts_all : CountsAll raw_steps
unfolding raw_steps
raw_counts_all = record {
  branches = λ kind j node h. counted j (get (keyword kind) node) h;
}
