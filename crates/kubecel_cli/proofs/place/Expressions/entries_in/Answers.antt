use Rattle.kubecel_cli.proofs.place.Expressions.entries_in.Goals as goal
use Rattle.kubecel_io.proofs.Lists.{items_each}
use Rattle.kubecel_io.specs.Objects.{each_item}
use Rattle.serde_json.specs.View.{view}
use Rattle.std.proofs.Common.{ap, map, sym, [], ◌∙◌}
use Rattle.std.specs.Option.{option_map_or}

pub returns-in-Some : goal.returns-in-Some
returns-in-Some c =
    ap (map view) c.as_slice.ensures.value
    ∙ (sym (items_each c.in-Some.entries.now.items)
    ∙ ap (λ o. option_map_or each_item o []) c.in-Some.ensures)
