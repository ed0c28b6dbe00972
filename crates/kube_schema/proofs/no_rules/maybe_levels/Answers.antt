use Rattle.kube_schema.proofs.no_rules.maybe_levels.Goals as goal

pub returns-in-None : goal.returns-in-None
returns-in-None g c = λ n e. absurd cc
