use Rattle.std.proofs.Common.{◌≡◌, ◌+◌, ◌-◌, length, take, drop, sym, arith}
use Rattle.std.proofs.lemmas.Grind.{common_steps}
use Rattle.std.proofs.lemmas.List.{take_rest}
use Rattle.kube_types_address.proofs.Matches.{printed_steps}
use Rattle.kube_types_address.proofs.canonical.strip_printed.Goals as goal

pub returns : goal.returns
returns c =
    let groups = c.args.groups.now in
    let run = c.longest_zero_run-start.result in
    let whole : take (length groups - (run.0 + run.1)) (drop (run.0 + run.1) groups) ≡ drop (run.0 + run.1) groups = take_rest groups (run.0 + run.1) in
    let step = printed_steps groups c.args.text.now c.in_ok-head.head.now c.in_ok-middle.middle.now run c.longest_zero_run-start.ensures.value c.if-len-lt2.false (sym c.in_ok-head.ensures) (sym c.in_ok-middle.ensures) in
    first_of (cc (whole, step), grind (arith, common_steps, whole, step))
