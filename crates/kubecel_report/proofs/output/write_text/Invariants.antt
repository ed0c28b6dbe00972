use Rattle.kubecel_report.proofs.output.write_text.Given as goal
use Rattle.kubecel_report.specs.Items.{item_view}
use Rattle.kubecel_report.specs.Lines.{text_item}
use Rattle.std.proofs.Common.{map, take, flat_map}
use Rattle.std.specs.Io.KnownBytes.{Appends}

abbrev pub invariant-loop-item : goal.invariant-loop-item
invariant-loop-item g l = Appends (g.O.Write.contents l.fn.out) (g.O.Write.contents l.out) (flat_map (text_item l.colours) (map item_view (take l.item-index l.items)))
