-- Trusted by the clauses of analysis and linter.
-- Lists of names without duplicates, sorted by their bytes.
use Rattle.std.specs.Prelude.{◌≡◌, ℕ, List, Bool, map, string_bytes, String}
use Rattle.std.specs.List.{list_any}
use Rattle.std.specs.List.Sorted.{IsStrictlySortedBy}
use Rattle.std.specs.Ordering.{nat_cmp}
use Rattle.std.specs.Cmp.Lexicographic.{slice_cmp}
use Rattle.std.specs.Str.{bytes_eq}
use Rattle.std.specs.declared.alloc.Global.{Global}

abbrev pub names_of : List (String Global) → List (List ℕ)
names_of ns = map string_bytes ns

-- the list holds exactly the names with this property, sorted and without duplicates
pub record AreNames (names : List (List ℕ)) (has : List ℕ → Bool) : Type 0 where
  pub ascending : IsStrictlySortedBy (slice_cmp nat_cmp) names
  pub exactly : (x : List ℕ) → list_any (bytes_eq x) names ≡ has x
