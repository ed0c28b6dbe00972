use Rattle.std.proofs.Common.{◌≡◌, rules, sym, subst}
use Rattle.kube_types_address.proofs.Cuts.{cidr_of-is_answer}
use Rattle.kube_types_address.specs.CidrTexts.{IsCidrAnswer, cidr_of}
use Rattle.kube_types_address.specs.Networks.{cidr_answer}
use Rattle.kube_types_address.proofs.cidr.KubeCIDR.read.Goals as goal

pub returns-clause-grammar : goal.returns-clause-grammar
returns-clause-grammar c =
    let value : cidr_answer c.read_ascii.result ≡ cidr_of c.args.text.now = first_of (cc, search rules) in
    subst (IsCidrAnswer c.args.text.now) (sym value) (cidr_of-is_answer c.args.text.now)
