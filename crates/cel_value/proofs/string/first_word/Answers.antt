use Rattle.std.proofs.Common.{take, arith, rules}
use Rattle.std.proofs.lemmas.List.{length-take-le}
use Rattle.std.proofs.lemmas.Nat.{le_bytes_8}
use Rattle.cel_value.proofs.ShortTexts.{small_take}
use Rattle.cel_value.proofs.string.first_word.Goals as goal

pub returns-clause-bytes : goal.returns-clause-bytes
returns-clause-bytes c =
    let xs = c.args.bytes.now in
    le_bytes_8 (take 8 xs) c.from_le_bytes.result (length-take-le 8 xs (omega (arith, c.told-bytes)))
    (small_take 8 xs (λ i. c.fits-bytes i)) (search rules)
