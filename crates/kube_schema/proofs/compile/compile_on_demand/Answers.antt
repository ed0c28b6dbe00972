use Rattle.std.proofs.Common.{◌∙◌}
use Rattle.kube_schema.proofs.compile.compile_on_demand.Goals as goal

pub returns-clause-tree : goal.returns-clause-tree
returns-clause-tree c = c.in_ok-compiled.ensures ∙ c.in_ok-source.ensures.tree
