use Rattle.std.proofs.Common.{subst, sym}
use Rattle.kube_types_address.specs.Texts.{IsIpAnswer}
use Rattle.kube_types_address.proofs.Readings.{answer_is-ip_of, ip_of-is_answer}
use Rattle.kube_types_address.proofs.laws.a_text_has_one_answer.Goals as goal

pub returns : goal.returns
returns c = λ text r. (answer_is-ip_of text r, λ e. subst (IsIpAnswer text) (sym e) (ip_of-is_answer text))
