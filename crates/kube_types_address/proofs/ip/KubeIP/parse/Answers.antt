use Rattle.std.proofs.Common.{sym}
use Rattle.kube_types_address.proofs.Readings.{parsed, not_parsed}
use Rattle.kube_types_address.proofs.ip.KubeIP.parse.Goals as goal

pub returns-in-Ok : goal.returns-in-Ok
returns-in-Ok c = sym (parsed c.args.text.now c.in-Ok.address c.in-Ok.ensures)

pub returns-in-Err : goal.returns-in-Err
returns-in-Err c = sym (not_parsed c.args.text.now c.in-Err.ensures)
