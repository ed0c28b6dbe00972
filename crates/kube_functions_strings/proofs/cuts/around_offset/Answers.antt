use Rattle.std.proofs.Common.{refl}
use Rattle.kube_functions_strings.proofs.After.{boundary_past, cut_past, cut_short, front_utf8}
use Rattle.kube_functions_strings.proofs.cuts.around_offset.Goals as goal

pub split_at-requires : goal.split_at-requires
split_at-requires c = boundary_past c.args.text.now c.in-Some.rest.now c.args.offset _ c.in-Some.ensures refl

pub returns-in-Some : goal.returns-in-Some
returns-in-Some c =
    let text = c.args.text.now in
    let parts = c.split_at.ensures in
    record {
      value = cut_past text c.in-Some.rest.now c.split_at.result.0.now c.split_at.result.1.now c.args.offset _ c.utf8.text c.in-Some.ensures refl parts.front parts.back;
      utf8 = front_utf8 text c.in-Some.rest.now c.split_at.result.0.now c.args.offset _ c.utf8.text c.in-Some.ensures refl parts.front;
    }

pub returns-in-None-clause-value : goal.returns-in-None-clause-value
returns-in-None-clause-value c = cut_short _ c.args.offset c.in-None.ensures
