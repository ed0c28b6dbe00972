use Rattle.std.proofs.Common.{◌≡◌, ◌-◌, length, take, drop, sym, arith}
use Rattle.std.proofs.lemmas.Grind.{common_steps}
use Rattle.std.proofs.lemmas.List.{take_rest}
use Rattle.kube_types_address.proofs.Matches.{first_some}
use Rattle.kube_types_address.proofs.canonical.strip_groups.Goals as goal

pub returns-in_ok-rest-in-len1-up : goal.returns-in_ok-rest-in-len1-up
returns-in_ok-rest-in-len1-up c =
    let groups = c.args.groups.now in
    let whole : take (length groups - 1) (drop 1 groups) ≡ drop 1 groups = take_rest groups 1 in
    let step = first_some groups c.args.text.now c.in_ok-rest-in-len1-up.rest.now c.in-len1-up.len_at_least (sym c.in_ok-rest-in-len1-up.ensures) in
    first_of (cc (whole, step), grind (arith, common_steps, whole, step))
