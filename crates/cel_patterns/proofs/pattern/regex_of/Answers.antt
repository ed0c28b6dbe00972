use Rattle.cel_patterns.proofs.Answered.{built}
use Rattle.cel_patterns.proofs.pattern.regex_of.Goals as goal

pub returns-in-Ok : goal.returns-in-Ok
returns-in-Ok c = record { built = let h = c.in-Ok.ensures in built c.in-Ok.regex c.args.text.now h.source h.config h.read }
