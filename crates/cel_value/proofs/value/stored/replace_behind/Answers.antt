use Rattle.std.proofs.Common.{◌<◌, ◌∙◌, length, ap, arith, slice_set}
use Rattle.cel_value.proofs.Indexed.{set_value}
use Rattle.cel_value.proofs.value.stored.replace_behind.Goals as goal

pub returns : goal.returns
returns c =
    let rest = c.args.rest.now.items in
    let l : c.args.index < length rest = omega (arith, c.if-index-as_slice.false, ap length c.as_slice.ensures.value) in (
      l,
      (λ i. slice_set rest c.args.index ((c.index_mut.ensures.value i).0, c.replace.ensures.after i))
          ∙ set_value rest c.args.index c.index_mut.result.now c.args.value l,
    )
