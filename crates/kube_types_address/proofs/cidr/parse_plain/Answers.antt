use Rattle.kube_types_address.proofs.Cuts.{parse_some, plain_from}
use Rattle.kube_types_address.proofs.cidr.parse_plain.Goals as goal

pub returns-in-Ok : goal.returns-in-Ok
returns-in-Ok c = parse_some _ c.args.digits.now c.in-Ok.text.now c.parse.result c.ok.result c.requires c.in-Ok.ensures.cases.0 c.parse.ensures.value.0 c.ok.ensures.value

pub returns-in-Err : goal.returns-in-Err
returns-in-Err c = absurd (c.in-Err.ensures.cases.0 (plain_from c.args.digits.now c.requires).utf8)
