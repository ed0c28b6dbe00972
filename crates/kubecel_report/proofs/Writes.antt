-- Writes that follow one another.
use Rattle.std.proofs.Common.{ℕ, List, ◌++◌, Option, Result, Ok, Err, OnOk}
use Rattle.std.proofs.KnownBytes.{Appends-trans}
use Rattle.std.specs.Io.KnownBytes.{Appends}

-- the bytes of two writes, if the last one succeeds
pub then_last : {E : Type 0} (a b c : Option (List ℕ)) (bs cs : List ℕ) (r : Result (Unit {0}) E) → Appends a b bs → OnOk r (Appends b c cs) → OnOk r (Appends a c (bs ++ cs))
then_last a b c bs cs (Ok u) p q = Appends-trans a b c bs cs p q
then_last a b c bs cs (Err e) p q = tt
