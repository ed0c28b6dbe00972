use Rattle.std.proofs.Common.{option_map, sym, ap, ◌∙◌, arith, refl}
use Rattle.std.proofs.lemmas.Option.{slice_get_past, slice_get_read}
use Rattle.cel_value.specs.View.{view}
use Rattle.cel_value.proofs.Members.{listed_get}
use Rattle.cel_value.proofs.value.lists.nth.Goals as goal

pub returns-then-index-items : goal.returns-then-index-items
returns-then-index-items c = sym (listed_get c.args.items.now c.args.index ∙ ap (option_map view) (slice_get_read c.args.items.now _ c.args.index c.index-items-index.result refl (omega (arith, c.if-index-items.true)) c.index-items-index.is))

pub returns-else-index-items : goal.returns-else-index-items
returns-else-index-items c = sym (listed_get c.args.items.now c.args.index ∙ ap (option_map view) (slice_get_past c.args.items.now c.args.index c.if-index-items.false))
