use Rattle.std.proofs.Common.{subst, sym}
use Rattle.kube_types_address.specs.CidrTexts.{IsCidrAnswer}
use Rattle.kube_types_address.proofs.Cuts.{answer_is-cidr_of, cidr_of-is_answer}
use Rattle.kube_types_address.proofs.laws.a_cidr_text_has_one_answer.Goals as goal

pub returns : goal.returns
returns c = λ text r. (answer_is-cidr_of text r, λ e. subst (IsCidrAnswer text) (sym e) (cidr_of-is_answer text))
