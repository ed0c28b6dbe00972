use Rattle.kube_cel_vap.proofs.expression.clone_text.Goals as goal
use Rattle.std.proofs.Common.{Some, option_map, string_bytes, sym, ap, ◌∙◌}

pub returns-in_ok-clone-in-Some : goal.returns-in_ok-clone-in-Some
returns-in_ok-clone-in-Some c = ap Some c.in_ok-clone-in-Some.ensures.cases ∙ sym (ap (option_map string_bytes) c.in-Some.is)

pub returns-in-None : goal.returns-in-None
returns-in-None c = sym (ap (option_map string_bytes) c.in-None.is)
