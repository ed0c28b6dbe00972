use Rattle.std.proofs.Common.{take, drop, arith, rules}
use Rattle.std.proofs.lemmas.List.{length-take-le, length-drop}
use Rattle.std.proofs.lemmas.Nat.{le_bytes_2}
use Rattle.cel_value.proofs.ShortTexts.{small_take, small_drop}
use Rattle.cel_value.proofs.string.third_word.Goals as goal

pub returns-clause-bytes : goal.returns-clause-bytes
returns-clause-bytes c =
    let xs = c.args.bytes.now in
    let long = length-drop 12 xs in
    le_bytes_2 (take 2 (drop 12 xs)) c.from_le_bytes.result (length-take-le 2 (drop 12 xs) (omega (arith, c.told-bytes, long)))
    (small_take 2 (drop 12 xs) (small_drop 12 xs (λ i. c.fits-bytes i))) (search rules)
