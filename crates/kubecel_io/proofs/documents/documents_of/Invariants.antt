use Rattle.kubecel_io.proofs.documents.documents_of.Given as goal
use Rattle.kubecel_io.specs.Documents.{IsAt}
use Rattle.std.proofs.Common.{◌≡◌, ◌≤◌, ◌-◌, drop, length, take}

abbrev pub invariant-loop-i : goal.invariant-loop-i
invariant-loop-i l = record {
  at : IsAt l.fn.text l.reading (drop l.i l.bytes);
  within : length l.reading.piece.now ≤ l.i;
  piece : l.reading.piece.now ≡ take (length l.reading.piece.now) (drop (l.i - length l.reading.piece.now) l.bytes);
}
