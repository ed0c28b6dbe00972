use Rattle.std.proofs.Common.{FitsSigned, arith, rules}
use Rattle.std.specs.Int.{w16, w64, w128}
use Rattle.std.proofs.lemmas.Int.{to_z-of_z}
use Rattle.jiff_core.proofs.SignedLemmas.{signed_arith}
use Rattle.cel_value_times.proofs.timestamp.Timestamp.checked_sub.Goals as goal

pub returns-clause-succeeds : goal.returns-clause-succeeds
returns-clause-succeeds c =
    let instant : FitsSigned w128 c.instant_before.result = search rules in
    let offset : FitsSigned w16 c.args.self.offset_minutes = omega (arith, signed_arith) in
    let nanoseconds : FitsSigned w64 c.args.duration.nanoseconds = search rules in
    let reported = simp to_z-of_z at c.at.ensures.succeeds in
    let there = rw c.instant_before.ensures at reported in
    simp to_z-of_z at there
