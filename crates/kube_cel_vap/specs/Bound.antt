-- Trusted by the clauses of policies.
-- What the names of a policy's expressions are bound to (Kubernetes API reference, Validation of
-- ValidatingAdmissionPolicySpec: the variables of `expression`). `value` makes CEL values of JSON.
use Rattle.cel.specs.Bindings.{Bindings}
use Rattle.cel_value.specs.Data.{Data, null}
use Rattle.serde_json.specs.Data.{Data as Json}
use Rattle.std.specs.Prelude.{ℕ, List, [], ◌∷◌, codes, Option, Some, None}

abbrev pub value_or_null : (Json → Data) → Option Json → Data
value_or_null value None = null
value_or_null value (Some d) = value d

-- a name that is bound only if its value is given
abbrev pub with_given : (Json → Data) → List ℕ → Option Json → Bindings → Bindings
with_given value name None e = e
with_given value name (Some d) e = (name, value d) ∷ e

-- the names that are always bound
abbrev pub always_bound : (Json → Data) → Option Json → Option Json → Data → Bindings
always_bound value object old_object request =
    (codes "object", value_or_null value object)
    ∷ (codes "oldObject", value_or_null value old_object) ∷ (codes "request", request) ∷ []
