-- Calls with values have the same form as calls with the views of these values.
use Rattle.std.proofs.Common.{◌≡◌, ℕ, Bool, List, Option, Some, None, Bor, map, length, refl, ap, ◌∙◌, option_map}
use Rattle.std.specs.Prelude.{is_some}
use Rattle.std.proofs.Math.ListN.{length-map}
use Rattle.cel_value.specs.View.{view}
use Rattle.cel_value.specs.declared.value.Value.{Value}

is_some-map : {A B : Type 0} (f : A → B) (o : Option A) → is_some (option_map f o) ≡ is_some o
is_some-map f None = refl
is_some-map f (Some x) = refl

-- what depends only on whether there is a receiver and on the number of arguments
pub same_count : {A : Type 0} (f : Bool → ℕ → A) (r : Option (Bor Value)) (vs : List Value)
    → f (is_some (option_map (λ v. view v.now) r)) (length (map view vs)) ≡ f (is_some r) (length vs)
same_count f r vs = ap (λ b. f b (length (map view vs))) (is_some-map (λ v. view v.now) r) ∙ ap (λ n. f (is_some r) n) (length-map vs view)
