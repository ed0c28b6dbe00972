-- The names of a policy's expressions.
use Rattle.cel.proofs.Bound.{bound, under}
use Rattle.cel.specs.Bindings.{Bindings, binding}
use Rattle.cel_value.specs.Data.{Data}
use Rattle.cel_value.specs.View.{view}
use Rattle.cel_value.specs.declared.value.Value.{Value}
use Rattle.kube_cel_vap.specs.Bound.{always_bound, value_or_null, with_given}
use Rattle.kube_cel_vap.specs.Variables.{Variables, bindings_always, policy_bindings}
use Rattle.kube_schema_values.specs.Plain.{plain}
use Rattle.kube_types.specs.Refused.{Refused}
use Rattle.serde_json.specs.Data.{Data as Json}
use Rattle.std.proofs.Common.{◌≡◌, ℕ, List, [], ◌∷◌, Option, Some, None, Result, Ok, Err, IfOk, codes, if◌then◌else◌, refl, sym, ap, ◌∙◌, subst}
use Rattle.std.specs.Result.{IsOkAnd}
use Rattle.std.specs.Str.{bytes_eq}

-- f binds one more name than e
abbrev pub Adds : List ℕ → Data → Bindings → Bindings → Type 0
Adds name d e f = (x : List ℕ) → binding x f ≡ (if bytes_eq name x then Some d else binding x e)

-- what is known of a value that was made
pub of_made : (r : Result Value Refused) (d : Data) (P : Data → Type 0) → IsOkAnd r (λ v. P (view v)) → IfOk r (λ v. view v ≡ d) → P d
of_made (Ok v) d P h p = subst P p h
of_made (Err x) d P h p = absurd h

pub made_so : {P Q : Value → Type 0} (r : Result Value Refused) → ((v : Value) → P v → Q v) → IsOkAnd r P → IsOkAnd r Q
made_so (Ok v) f h = f v h
made_so (Err x) f h = h

pub given_under : (value : Json → Data) (name : List ℕ) (o : Option Json) (e f : Bindings) → ((y : List ℕ) → binding y e ≡ binding y f) → (y : List ℕ)
    → binding y (with_given value name o e) ≡ binding y (with_given value name o f)
given_under value name None e f h y = h y
given_under value name (Some d) e f h y = under name (value d) e f h y

-- one more name is bound, if its value is given
pub given : (value : Json → Data) (name : List ℕ) (o : Option Json) (d : Json) (v : Data) (e f : Bindings) → o ≡ Some d → v ≡ value d → Adds name v e f → (x : List ℕ)
    → binding x f ≡ binding x (with_given value name o e)
given value name o d v e f p q h x = bound x name v (value d) (binding x f) (binding x e) e (h x) q refl ∙ sym (ap (λ o. binding x (with_given value name o e)) p)

-- the names that are always bound, one by one
pub always : (value : Json → Data) (object old_object : Option Json) (request : Data) (e0 e1 e2 e3 : Bindings) → e0 ≡ [] → Adds (codes "request") request e0 e1
    → Adds (codes "oldObject") (value_or_null value old_object) e1 e2 → Adds (codes "object") (value_or_null value object) e2 e3 → (x : List ℕ)
    → binding x e3 ≡ binding x (always_bound value object old_object request)
always value object old_object request e0 e1 e2 e3 empty h1 h2 h3 x =
    let f1 : Bindings = (codes "request", request) ∷ [] in
    let f2 : Bindings = (codes "oldObject", value_or_null value old_object) ∷ f1 in
    let q1 = bound x (codes "request") request request (binding x e1) (binding x e0) [] (h1 x) refl (ap (λ e. binding x e) empty) in
    let q2 = bound x (codes "oldObject") (value_or_null value old_object) (value_or_null value old_object) (binding x e2) (binding x e1) f1 (h2 x) refl q1 in
    bound x (codes "object") (value_or_null value object) (value_or_null value object) (binding x e3) (binding x e2) f2 (h3 x) refl q2

-- then those that are bound if a value was set
pub all_bound : (v : Variables) (e0 e1 e2 : Bindings) → ((x : List ℕ) → binding x e0 ≡ binding x (bindings_always v))
    → ((x : List ℕ) → binding x e1 ≡ binding x (with_given plain (codes "params") v.params e0))
    → ((x : List ℕ) → binding x e2 ≡ binding x (with_given plain (codes "namespaceObject") v.namespace_object e1))
    → (x : List ℕ) → binding x e2 ≡ binding x (policy_bindings v)
unfolding policy_bindings
all_bound v e0 e1 e2 h0 h1 h2 x =
    let f1 = with_given plain (codes "params") v.params (bindings_always v) in
    h2 x ∙ given_under plain (codes "namespaceObject") v.namespace_object e1 f1
    (λ y. h1 y ∙ given_under plain (codes "params") v.params e0 (bindings_always v) h0 y) x
