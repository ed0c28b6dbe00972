-- What is kept of a result if an error may become anything: a value stays as it is.
use Rattle.cel.specs.Outcome.{and_then, all_values}
use Rattle.cel_value.specs.Data.{Data}
use Rattle.cel_value.specs.Faults.{Fault}
use Rattle.std.proofs.Common.{◌≡◌, List, [], ◌∷◌, map, Option, Some, None, option_map, Result, Ok, Err, IfOk, IfSome, refl, sym, ap, subst}
use Rattle.std.specs.Option.{option_map_or}
use Rattle.std.specs.Prelude.{⊤}

-- if the first is a value, the second is the same value
abbrev pub Keeps : {A E : Type 0} → Result A E → Result A E → Type 0
Keeps r s = IfOk r (λ v. s ≡ Ok v)

pub keeps_itself : {A E : Type 0} (r : Result A E) → Keeps r r
keeps_itself (Ok v) = refl
keeps_itself (Err e) = tt

pub kept_value : {A E : Type 0} (r s : Result A E) (v : A) → Keeps r s → r ≡ Ok v → s ≡ Ok v
kept_value r s v k e = subst (λ x. Keeps x s) e k

pub and_then_kept : {A B : Type 0} (r s : Result A Fault) (f g : A → Result B Fault) → Keeps r s → ((v : A) → Keeps (f v) (g v)) → Keeps (and_then r f) (and_then s g)
and_then_kept (Ok v) s f g k h = subst (λ x. Keeps (f v) (and_then x g)) (sym k) (h v)
and_then_kept (Err e) s f g k h = tt

-- the same function of both
pub mapped_kept : {A B : Type 0} (r s : Result A Fault) (f : A → Result B Fault) → Keeps r s → Keeps (and_then r f) (and_then s f)
mapped_kept r s f k = and_then_kept r s f f k (λ v. keeps_itself (f v))

-- ---- lists of results

-- the lists are as long, and each result keeps the one at its place
abbrev pub AllKept : {A : Type 0} → List (Result A Fault) → List (Result A Fault) → Type 0
AllKept [] [] = ⊤
AllKept [] (s ∷ ss) = ⊥
AllKept (r ∷ rs) [] = ⊥
AllKept (r ∷ rs) (s ∷ ss) = Keeps r s × AllKept rs ss

pub each_kept : {A B : Type 0} (f g : A → Result B Fault) → ((a : A) → Keeps (f a) (g a)) → (xs : List A) → AllKept (map f xs) (map g xs)
each_kept f g h [] = tt
each_kept f g h (x ∷ xs) = (h x, each_kept f g h xs)

pub all_values_kept : (rs ss : List (Result Data Fault)) → AllKept rs ss → Keeps (all_values rs) (all_values ss)
all_values_kept [] [] k = refl
all_values_kept [] (s ∷ ss) k = absurd k
all_values_kept (r ∷ rs) [] k = absurd k
all_values_kept (r ∷ rs) (s ∷ ss) k = and_then_kept r s _ _ k.0 (λ v. mapped_kept _ _ (λ vs. Ok (v ∷ vs)) (all_values_kept rs ss k.1))

-- ---- optional parts

-- the outcomes of two functions at the same operands, or an error if there are none
pub operands_kept : {A : Type 0} (f g : A → Result Data Fault) (x : Fault) (o : Option A) → ((a : A) → Keeps (f a) (g a)) → Keeps (option_map_or f o (Err x)) (option_map_or g o (Err x))
operands_kept f g x None h = tt
operands_kept f g x (Some a) h = h a

-- the value made of what is there, or an error if it isn't
pub made_kept : {A : Type 0} (f : A → Data) (x : Fault) (o p : Option A) → IfSome o (λ a. p ≡ Some a) → Keeps (option_map_or (λ a. Ok (f a)) o (Err x)) (option_map_or (λ a. Ok (f a)) p (Err x))
made_kept f x None p k = tt
made_kept f x (Some a) p k = ap (λ q. option_map_or (λ a. Ok (f a)) q (Err x)) k

pub some_kept : {A B : Type 0} (f : A → B) (o p : Option A) → IfSome o (λ a. p ≡ Some a) → IfSome (option_map f o) (λ b. option_map f p ≡ Some b)
some_kept f None p k = tt
some_kept f (Some a) p k = ap (option_map f) k
