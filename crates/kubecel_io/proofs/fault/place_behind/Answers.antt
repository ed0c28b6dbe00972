use Rattle.kubecel_io.proofs.fault.place_behind.Goals as goal
use Rattle.kubecel_io.specs.Faults.{is_line_feed}
use Rattle.std.proofs.Common.{not, take, arith}
use Rattle.std.proofs.lemmas.List.{length-take}
use Rattle.std.proofs.lemmas.List.Sums.{suffix_len-le-length}

pub overflow_add-column : goal.overflow_add-column
overflow_add-column c =
    let before = take c.loop-byte.byte-index c.args.text.now in
    omega (arith, c.loop-byte.invariant.1, suffix_len-le-length (λ x. not (is_line_feed x)) before, length-take c.loop-byte.byte-index c.args.text.now)
