use Rattle.std.proofs.Common.{subst, IfOk, string_bytes, String, Global}
use Rattle.cel_patterns.specs.Built.{IsMatchAnswer}
use Rattle.cel_patterns.proofs.pattern.Pattern.is_match.Goals as goal

pub returns-in-None : goal.returns-in-None
returns-in-None c = record { found = subst (λ (s : String Global). IfOk c.searched.result (IsMatchAnswer (string_bytes s) c.args.text.now)) c.tabled.ensures.text c.searched.ensures.found }
