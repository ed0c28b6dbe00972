use Rattle.kubecel_io.proofs.sources.add_values.Given as goal
use Rattle.kubecel_io.specs.Reads.{document_view, with_indices}
use Rattle.serde_json.specs.View.{view}
use Rattle.std.proofs.Common.{◌≡◌, ◌++◌, length, map}
use Rattle.std.specs.Vec.Iter.{into_iter_items, into_iter_len}

abbrev pub invariant-loop-index : goal.invariant-loop-index
invariant-loop-index l = record {
  found : map document_view l.found.items ++ with_indices l.file l.index-iterator.count (map view (into_iter_items l.index-iterator.iter))
      ≡ map document_view l.fn.found.items ++ with_indices l.fn.file 0 (map view l.fn.values.items);
  left : into_iter_len l.index-iterator.iter ≡ length (into_iter_items l.index-iterator.iter);
}
