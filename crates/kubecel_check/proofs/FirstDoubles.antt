-- The first double of several.
use Rattle.kubecel_check.specs.Doubles.{IsDouble, first_or}
use Rattle.kubecel_check.specs.declared.doubles.Double.{Double}
use Rattle.serde_json.specs.Data.{Num}
use Rattle.std.proofs.Common.{◌≡◌, ℕ, List, true, false, Option, Some, None, is_some, refl}

-- if it is found in the first, it is that of both
pub double_here : (a b : Option (List ℕ × Num)) (o : Option Double) → IsDouble a o → is_some o ≡ true → IsDouble (first_or a b) o
double_here None b None h e = cc
double_here None b (Some d) h e = absurd h
double_here (Some x) b None h e = absurd h
double_here (Some x) b (Some d) h e = h

-- if none is found in the first, the other decides
pub double_later : (a b : Option (List ℕ × Num)) (o : Option Double) → IsDouble a o → is_some o ≡ false → first_or a b ≡ b
double_later None b None h e = refl
double_later None b (Some d) h e = absurd h
double_later (Some x) b None h e = absurd h
double_later (Some x) b (Some d) h e = cc
