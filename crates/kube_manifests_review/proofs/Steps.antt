-- Steps of loops that append to a list.
use Rattle.std.proofs.Common.{◌≡◌, List, [], ◌++◌, Option, Some, None, is_some, option_map, refl, sym, ap, ◌∙◌, append_assoc, append-nil}

-- one addition, and those that remain
pub one_more : {A : Type 0} (new old x rest all : List A) → new ≡ old ++ x → old ++ (x ++ rest) ≡ all → new ++ rest ≡ all
one_more new old x rest all e h = ap (λ r. r ++ rest) e ∙ append_assoc old x rest ∙ h

-- no addition remains
pub no_more : {A : Type 0} (new rest all : List A) → rest ≡ [] → new ++ rest ≡ all → new ≡ all
no_more new rest all e h = sym (append-nil new) ∙ ap (λ r. new ++ r) (sym e) ∙ h

-- two additions, one after the other
pub two_steps : {A : Type 0} (old mid new a b : List A) → mid ≡ old ++ a → new ≡ mid ++ b → new ≡ old ++ (a ++ b)
two_steps old mid new a b e f = f ∙ ap (λ xs. xs ++ b) e ∙ append_assoc old a b

pub some_mapped : {A B : Type 0} (f : A → B) (o : Option A) → is_some (option_map f o) ≡ is_some o
some_mapped f None = refl
some_mapped f (Some a) = refl
