-- Calls of functions that aren't in the table.
use Rattle.std.proofs.Common.{◌≡◌, ℕ, List, Bool, true, false, Option, Some, None, ap, refl, sym, ◌∙◌}
use Rattle.std.specs.Prelude.{is_some, if◌then◌else◌}
use Rattle.cel_semantics.specs.declared.functions.Form.{Form}
use Rattle.cel_semantics.specs.declared.functions.Form.TheVariants.{Unknown, Wrong, Known}
use Rattle.kube_functions.specs.Kube.{kube_form}
use Rattle.kube_server_functions.specs.Server.{form_beside, server_form}
use Rattle.kube_server_functions.specs.Table.{is_named, known_function}
use Rattle.kube_server_functions.specs.declared.functions.Function.{Function}

beside_known : (named : Bool) (form : Form) → form_beside named form ≡ Known → form ≡ Known
beside_known true Unknown h = cc
beside_known true Wrong h = cc
beside_known true Known h = h
beside_known false form h = h

-- a call that this set knows without the table is known to `kube_functions`
pub other_is_known : (name : List ℕ) (receiver : Bool) (count : ℕ) → known_function name receiver count ≡ None → server_form name receiver count ≡ Known → kube_form name receiver count ≡ Known
other_is_known name receiver count none known =
    let without = ap (λ o. if is_some o then Known else form_beside (is_named name) (kube_form name receiver count)) none in
    beside_known (is_named name) (kube_form name receiver count) (sym without ∙ known)

known_beside : (named : Bool) → form_beside named Known ≡ Known
known_beside true = refl
known_beside false = refl

by_function : (o : Option Function) (named : Bool) (form : Form) → form ≡ Known → (if is_some o then Known else form_beside named form) ≡ Known
by_function (Some f) named form h = refl
by_function None named form h = ap (form_beside named) h ∙ known_beside named

-- a call that `kube_functions` knows is known
pub stays_known : (name : List ℕ) (receiver : Bool) (count : ℕ) → kube_form name receiver count ≡ Known → server_form name receiver count ≡ Known
stays_known name receiver count h = by_function (known_function name receiver count) (is_named name) (kube_form name receiver count) h
