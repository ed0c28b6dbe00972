-- A write followed by a flush.
use Rattle.std.proofs.Common.{ℕ, List, Option, Result, Ok, Err, OnOk}
use Rattle.std.proofs.KnownBytes.{Appends-kept}
use Rattle.std.specs.Io.KnownBytes.{Appends, Keeps}

pub kept_behind : {E : Type 0} (a b c : Option (List ℕ)) (bs : List ℕ) (r : Result (Unit {0}) E) → Appends a b bs → Keeps b c → OnOk r (Appends a c bs)
kept_behind a b c bs (Ok u) written kept = Appends-kept a b c bs written kept
kept_behind a b c bs (Err e) written kept = tt
