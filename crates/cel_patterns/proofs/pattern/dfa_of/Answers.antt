use Rattle.cel_patterns.proofs.Answered.{all_built}
use Rattle.cel_patterns.proofs.pattern.dfa_of.Goals as goal

pub returns-in-Ok : goal.returns-in-Ok
returns-in-Ok c = record { built = all_built c.args.text.now c.in-Ok.parsed.hir _ c.default.result c.states_of.result c.default.ensures c.in-Ok.ensures.ok c.states_of.ensures.states }
