use Rattle.std.proofs.Common.{map, ap, ◌∙◌}
use Rattle.kube_schema_rules.specs.Compilation.{compiled_seen}
use Rattle.kube_schema_rules.proofs.node_rules.compile_rules.Goals as goal

pub returns-clause-rules : goal.returns-clause-rules
returns-clause-rules g c = ap (λ r. map compiled_seen r.items) c.in_ok-made.ensures.rules ∙ c.in_ok-rules.ensures.rules
