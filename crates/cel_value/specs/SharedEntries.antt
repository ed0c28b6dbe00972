-- Trusted by the clauses of other library calls.
-- The entries of a map, wherever its keys are.
use Rattle.std.specs.Prelude.{◌≡◌, ◌≤◌, ◌<◌, suc, List, length, take, drop, ⊤}
use Rattle.std.specs.List.{AllByRecursion}
use Rattle.cel_value.specs.Levels.{entries_levels, max_levels}
use Rattle.cel_value.specs.Listed.{Entry}
use Rattle.cel_value.specs.Same.{entries_have_double}
use Rattle.cel_value.specs.Shared.{shared_entries}
use Rattle.cel_value.specs.View.{entries_view}
use Rattle.cel_value.specs.declared.value.MapEntries.{MapEntries}
use Rattle.cel_value.specs.declared.value.MapEntries.TheVariants as map
use Rattle.cel_value.specs.declared.value.Nesting.{Nesting}
use Rattle.cel_value.specs.declared.value.Value.{Value}
use Rattle.cel_value.specs.declared.value.Value.TheVariants as value
use Rattle.cel_value.specs.declared.key.Key.{Key}
use Rattle.cel_value.specs.declared.value.Values.{Values}
use Rattle.cel_value.specs.declared.value.Values.TheVariants as values

abbrev pub values_of : Values → List Value
values_of (values.Few a) = take a.count a.values
values_of (values.Many vs) = vs.items

abbrev pub map_entries : MapEntries → List Entry
map_entries (map.Own e) = e.entries
map_entries (map.Shared s) = shared_entries s

-- the nesting of a map is that of its entries
abbrev pub IsNestingOf : Nesting → List Entry → Type 0
IsNestingOf n es = (n.doubles ≡ entries_have_double (entries_view es))
    × (n.levels ≡ suc (entries_levels (entries_view es))) × (n.levels ≤ max_levels)

-- whether there is a place for one more value
abbrev pub HasPlace : Values → Type 0
HasPlace (values.Few a) = a.count < 3
HasPlace (values.Many vs) = ⊤

-- the places behind the values hold `null`
abbrev pub AreInPlace : Values → Type 0
AreInPlace (values.Few a) = (length a.values ≡ 3) × (a.count ≤ 3) × AllByRecursion (λ v. v ≡ value.Null) (drop a.count a.values)
AreInPlace (values.Many vs) = ⊤

-- the values at more than three keys are in a vector
abbrev pub Suits : List Key → Values → Type 0
Suits ks (values.Few a) = length ks ≤ 3
Suits ks (values.Many vs) = ⊤
