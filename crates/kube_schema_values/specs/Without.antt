-- Trusted by laws alone.
-- Schemas without defaults.
use Rattle.std.specs.Prelude.{◌≡◌, ℕ, zero, suc, List, Some, None, ⊤}
use Rattle.kube_schema_values.specs.DefaultsAccessors.{DefaultsAccessors}
use Rattle.kube_schema_values.specs.Defaults.{member_schema}

-- no declared key has a default, within this number of levels
unfoldable pub HasNoDefaults : {S : Type 0} → DefaultsAccessors S → ℕ → S → Type 0
HasNoDefaults accessors zero s = ⊤
HasNoDefaults {S} accessors (suc n) s =
    ((k : List ℕ) (p : S) → accessors.property k s ≡ Some p → accessors.default p ≡ None)
    × ((k : List ℕ) (p : S) → member_schema accessors s k ≡ Some p → HasNoDefaults accessors n p)
    × ((p : S) → accessors.items s ≡ Some p → HasNoDefaults accessors n p)
