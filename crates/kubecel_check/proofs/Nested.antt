-- Optional values that are there.
use Rattle.kubecel_check.specs.Judgements.{narrow_text}
use Rattle.std.proofs.Common.{◌≡◌, ℕ, List, Bool, true, false, Option, Some, None, is_some, option_map, refl}

-- what an optional value is mapped to is there exactly if it is
pub some_mapped : {A B : Type 0} (f : A → B) (o : Option A) → is_some (option_map f o) ≡ is_some o
some_mapped f None = refl
some_mapped f (Some a) = refl

-- something is said of a limit alone
pub narrow_some : (is_limit : Bool) (name : List ℕ) → is_some (narrow_text is_limit name) ≡ is_limit
narrow_some true name = refl
narrow_some false name = refl
