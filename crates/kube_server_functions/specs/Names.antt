-- Trusted by the clauses of other library calls.
-- A name that is unknown in one form is unknown in all.
use Rattle.cel_semantics.specs.declared.functions.Form.{Form}
use Rattle.cel_semantics.specs.declared.functions.Form.TheVariants.{Unknown, Wrong, Known}
use Rattle.kube_functions.specs.Kube.{kube_form}
use Rattle.kube_functions.specs.Names.{kube_unknown}
use Rattle.kube_server_functions.specs.Server.{form_beside, server_form}
use Rattle.kube_server_functions.specs.Table.{function_named, is_named, known_function, takes}
use Rattle.kube_server_functions.specs.declared.functions.Declaration.{Declaration}
use Rattle.kube_server_functions.specs.declared.functions.Function.{Function}
use Rattle.std.proofs.Common.{◌≡◌, ℕ, List, Bool, true, false, ◌||◌, Option, Some, None, if◌then◌else◌, refl, ap, ◌∙◌}
use Rattle.std.specs.Option.{option_and_then}
use Rattle.std.specs.Prelude.{is_some}

-- an unknown call has neither a name of the table nor one that is known beside it
neither : (o : Option Function) (named : Bool) (form : Form) → (if is_some o then Known else form_beside named form) ≡ Unknown → (named ≡ false) × (form ≡ Unknown)
neither (Some f) named form h = cc
neither None true Unknown h = cc
neither None true Wrong h = cc
neither None true Known h = cc
neither None false form h = (refl, h)

unnamed : (name : List ℕ) (other : Bool) (number : ℕ) → is_named name ≡ false → known_function name other number ≡ None
unnamed name true number h = by (function_named name true) (function_named name false) h
  where
    by : (m g : Option Declaration) → (is_some m || is_some g) ≡ false → option_and_then (λ d. if takes d number then Some d.function else None) m ≡ None
    by None g h = refl
    by (Some m) g h = cc
unnamed name false number h = by (function_named name true) (function_named name false) h
  where
    by : (m g : Option Declaration) → (is_some m || is_some g) ≡ false → option_and_then (λ d. if takes d number then Some d.function else None) g ≡ None
    by None None h = refl
    by None (Some g) h = cc
    by (Some m) g h = cc

pub server_unknown : (name : List ℕ) (receiver other : Bool) (count number : ℕ) → server_form name receiver count ≡ Unknown → server_form name other number ≡ Unknown
server_unknown name receiver other count number h =
    let p = neither (known_function name receiver count) (is_named name) (kube_form name receiver count) h in
    let none = ap (λ o. if is_some o then Known else form_beside (is_named name) (kube_form name other number)) (unnamed name other number p.0) in
    let beside = ap (λ named. form_beside named (kube_form name other number)) p.0 in
    none ∙ (beside ∙ kube_unknown name receiver other count number p.1)
