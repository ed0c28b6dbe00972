use Rattle.std.proofs.Common.{◌≡◌, ◌++◌, map}
use Rattle.cel_value.specs.Rows.{row_maps}
use Rattle.cel_value.specs.View.{view}
use Rattle.cel_value.specs.declared.value.MapBlock.TheVariants as block
use Rattle.cel_value.proofs.value.MapRows.add_maps.Given as goal

abbrev pub invariant-loop-row : goal.invariant-loop-row
invariant-loop-row l =
    (map view l.maps.items ≡ map view l.fn.maps.items ++ row_maps l.fn.self.keys l.fn.self.values l.row)
    × (l.block.value ≡ block.Rows l.fn.self)
