-- Trusted by the clauses of other library calls.
-- A name that is unknown in one form is unknown in all.
use Rattle.std.proofs.Common.{◌≡◌, ℕ, List, Bool, true, false, Option, Some, None, refl}
use Rattle.std.specs.Option.{option_map_or}
use Rattle.cel_semantics.specs.declared.functions.Form.TheVariants.{Unknown}
use Rattle.cel_stdlib.specs.Standard.{known_if, standard_form}
use Rattle.cel_stdlib.specs.Table.{function_named, takes}
use Rattle.cel_stdlib.specs.declared.names.Function.{Function}

never_unknown : (taken : Bool) → known_if taken ≡ Unknown → ⊥
never_unknown true h = cc
never_unknown false h = cc

pub standard_unknown : (name : List ℕ) (receiver other : Bool) (count number : ℕ) → standard_form name receiver count ≡ Unknown → standard_form name other number ≡ Unknown
standard_unknown name receiver other count number h = by (function_named name) h
  where
    by : (o : Option Function) → option_map_or (λ f. known_if (takes f receiver count)) o Unknown ≡ Unknown → option_map_or (λ f. known_if (takes f other number)) o Unknown ≡ Unknown
    by None h = refl
    by (Some f) h = absurd (never_unknown (takes f receiver count) h)
