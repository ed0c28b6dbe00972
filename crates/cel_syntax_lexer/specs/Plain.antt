-- Trusted by laws alone.
-- A predicate that the laws use.
use Rattle.std.specs.Prelude.{ℕ, nat_eq, Bool, not, List}
use Rattle.std.specs.List.{list_all}

-- The list doesn't contain this byte.
abbrev pub is_free_of : ℕ → List ℕ → Bool
is_free_of b s = list_all (λ c. not (nat_eq c b)) s
