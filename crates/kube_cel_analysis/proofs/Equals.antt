-- What the parts of `==` decide.
use Rattle.std.proofs.Common.{◌≡◌, ◌&&◌, Bool, String, Global, string_bytes}
use Rattle.std.proofs.lemmas.Bool.{and_from, and_parts}
use Rattle.std.proofs.lemmas.Slice.Eq.{bytes_eq-Decides}
use Rattle.std.specs.Bool.{Decides}
use Rattle.std.specs.String.{string_eq}

pub and_decides : {P Q : Type 0} (a b : Bool) → Decides a P → Decides b Q → Decides (a && b) (P × Q)
and_decides a b d e = (λ h. let p = and_parts a b h in (d.0 p.0, e.0 p.1), λ h. and_from a b (d.1 h.0) (e.1 h.1))

pub texts_decide : (s t : String Global) → Decides (string_eq s t) (string_bytes s ≡ string_bytes t)
texts_decide s t = bytes_eq-Decides (string_bytes s) (string_bytes t)
