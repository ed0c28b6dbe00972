-- What the parts of `==` of errors decide.
use Rattle.std.proofs.Common.{◌≡◌, ◌&&◌, [], Bool, Option, Some, None, option_map, unwrap_or, String, Global, string_bytes, refl, ap}
use Rattle.std.proofs.lemmas.Bool.{and_from, and_parts}
use Rattle.std.proofs.lemmas.Slice.Eq.{bytes_eq-Decides}
use Rattle.std.specs.Bool.{Decides}
use Rattle.std.specs.Option.{option_eq}
use Rattle.std.specs.String.{string_eq}

pub and_decides : {P Q : Type 0} (a b : Bool) → Decides a P → Decides b Q → Decides (a && b) (P × Q)
and_decides a b d e = (λ h. let p = and_parts a b h in (d.0 p.0, e.0 p.1), λ h. and_from a b (d.1 h.0) (e.1 h.1))

pub texts_decide : (s t : String Global) → Decides (string_eq s t) (string_bytes s ≡ string_bytes t)
texts_decide s t = bytes_eq-Decides (string_bytes s) (string_bytes t)

pub reasons_decide : (o p : Option (String Global)) → Decides (option_eq string_eq o p) (option_map string_bytes o ≡ option_map string_bytes p)
reasons_decide None None = (λ h. refl, λ e. refl)
reasons_decide None (Some t) = (λ h. cc, λ e. cc)
reasons_decide (Some s) None = (λ h. cc, λ e. cc)
reasons_decide (Some s) (Some t) = (λ h. ap Some ((texts_decide s t).0 h), λ e. (texts_decide s t).1 (ap (λ o. unwrap_or o []) e))
