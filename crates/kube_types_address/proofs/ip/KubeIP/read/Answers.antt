use Rattle.std.proofs.Common.{◌≡◌, rules, sym, subst}
use Rattle.kube_types_address.proofs.Readings.{ip_of-is_answer}
use Rattle.kube_types_address.specs.Shown.{ip_answer}
use Rattle.kube_types_address.specs.Texts.{IsIpAnswer, ip_of}
use Rattle.kube_types_address.proofs.ip.KubeIP.read.Goals as goal

pub returns-clause-grammar : goal.returns-clause-grammar
returns-clause-grammar c =
    let value : ip_answer c.read_ascii.result ≡ ip_of c.args.text.now = first_of (cc, search rules) in
    subst (IsIpAnswer c.args.text.now) (sym value) (ip_of-is_answer c.args.text.now)
