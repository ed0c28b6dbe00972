-- Scaffolding: only proofs and private clauses cite it.
-- Each part of a value has a smaller weight than the whole.
use Rattle.std.specs.Prelude.{◌≡◌, ◌≤◌, ℕ, true, zero, suc, max, take, drop, ◌+◌, List, [], ◌∷◌, ◌++◌, Option, Some, None, length, map, zip}
use Rattle.std.specs.List.{AllByRecursion}
use Rattle.std.proofs.Common.{arith, ap}
use Rattle.std.specs.declared.alloc.Global.{Global}
use Rattle.std.specs.declared.rc.Rc.{Rc}
use Rattle.std.specs.Global.{Vec, Box}
use Rattle.std.specs.BTreeMap.{BTreeMap}
use Rattle.cel_value.specs.Weights.{weight, items_weight, entries_weight, single_weight, rows_weight, map_weight, held_weight, listed_weight, shared_weight}
use Rattle.cel_value.specs.SharedEntries.{AreInPlace, map_entries, values_of}
use Rattle.cel_value.specs.StoredEntries.{AreStored, all_entries, tree_entries}
use Rattle.cel_value.specs.View.{view, items_view, entries_view, alone, held_view}
use Rattle.cel_value.specs.declared.key.Key.{Key}
use Rattle.cel_value.specs.declared.value.Value.{Value}
use Rattle.cel_value.specs.declared.value.Value.TheVariants as value
use Rattle.cel_value.specs.declared.value.Entries.TheDeep.{deep-Value, deep-Entries, deep-Held, deep-List, deep-Map, deep-MapBlock, deep-MapEntries, deep-MapRows, deep-OptionalValue, deep-SharedEntries, deep-SingleMap, deep-Values}
use Rattle.cel_value.specs.declared.value.Held.{Held}
use Rattle.cel_value.specs.declared.value.Entries.TheInside as listings
use Rattle.cel_value.specs.declared.value.Entries.TheShapes as shapes
use Rattle.cel_value.specs.Blocks.{map_in}
use Rattle.cel_value.specs.Data.{Data, null, bool, int, uint, double, text, bytes, list, map_of, timestamp, duration, optional, ip, cidr, quantity, semver, url, format, Entries, no_entries, entry}
use Rattle.cel_value.specs.Rows.{AreFlat, is_flat, row_entries}
use Rattle.cel_value.specs.declared.value.Held.TheInside as holds
use Rattle.cel_value.specs.declared.value.List.TheInside as lists
use Rattle.cel_value.specs.declared.value.Map.TheInside as maps
use Rattle.cel_value.specs.declared.value.MapBlock.{MapBlock}
use Rattle.cel_value.specs.declared.value.MapBlock.TheVariants as block
use Rattle.cel_value.specs.declared.value.MapRows.TheInside as rows
use Rattle.cel_value.specs.declared.value.SingleMap.TheInside as singles
use Rattle.cel_value.specs.declared.value.MapEntries.{MapEntries}
use Rattle.cel_value.specs.declared.value.MapEntries.TheVariants as map_entry
use Rattle.cel_value.specs.declared.value.SharedEntries.TheInside as sharings
use Rattle.cel_value.specs.declared.value.Values.{Values}
use Rattle.cel_value.specs.declared.value.Values.TheVariants as values
use Rattle.cel_value.specs.declared.value.OptionalValue.TheInside as optionals
use denote.Param.Weighed.{most}

pub lighter : (v : Value) → deep-Value v ≤ weight (view v)
lighter value.Null = omega arith
lighter (value.Bool b) = omega arith
lighter (value.Int n) = omega arith
lighter (value.UInt n) = omega arith
lighter value.Float = omega arith
lighter (value.String s) = omega arith
lighter (value.Bytes s) = omega arith
lighter (value.List l) = omega arith
lighter (value.Map m) = omega arith
lighter (value.Timestamp t) = omega arith
lighter (value.Duration d) = omega arith
lighter (value.Optional o) = omega arith
lighter (value.Ip a) = omega arith
lighter (value.Cidr c) = omega arith
lighter (value.Quantity q) = omega arith
lighter (value.Semver v) = omega arith
lighter (value.Url u) = omega arith
lighter (value.Format f) = omega arith

most_items : (vs : List Value) → suc (most (λ v. deep-Value v) vs) ≤ items_weight (items_view vs)
most_items [] = omega arith
most_items (v ∷ vs) = omega (arith, lighter v, most_items vs)

pub items_fall : (a : lists.Inside) → deep-List a ≤ items_weight (items_view a.items.items)
items_fall a = omega (arith, most_items a.items.items)

entry_falls : (e : Key × Value)
    → shapes.weighed-Entries-rest-at-2.weight Value deep-Value e ≤ weight (view e.1)
entry_falls e = omega (arith, lighter e.1)

most_entries : (es : List (Key × Value))
    → suc (most (λ e. shapes.weighed-Entries-rest-at-2.weight Value deep-Value e) es) ≤ entries_weight (entries_view es)
most_entries [] = omega arith
most_entries (e ∷ es) = omega (arith, entry_falls e, most_entries es)

rest_falls : (v : Vec (Key × Value))
    → suc (shapes.weighed-Entries-rest.weight Value deep-Value v) ≤ entries_weight (entries_view v.items)
rest_falls v = most_entries v.items

most_values : (es : List (Key × Value))
    → suc (most (λ v. deep-Value v) (map (λ e. e.1) es)) ≤ entries_weight (entries_view es)
most_values [] = omega arith
most_values (e ∷ es) = omega (arith, lighter e.1, most_values es)

no_more : (m n : ℕ) → suc m ≤ n → suc (max m 0) ≤ n
no_more m n h = omega (arith, h)

tail_falls : (t : Option (Box (BTreeMap Key Value)))
    → suc (shapes.weighed-Entries-tail.weight Value deep-Value t) ≤ entries_weight (entries_view (tree_entries t))
tail_falls None = omega arith
tail_falls (Some tree) =
    no_more (most (λ v. deep-Value v) (map (λ e. e.1) tree.value.entries)) (entries_weight (entries_view tree.value.entries)) (most_values tree.value.entries)

first_falls : (e : Key × Value)
    → shapes.weighed-Entries-first.weight Value deep-Value (Some e) ≤ weight (view e.1)
first_falls e = omega (arith, lighter e.1)

joined_weight : (es fs : List (Key × Value))
    → suc (entries_weight (entries_view (es ++ fs))) ≡ entries_weight (entries_view es) + entries_weight (entries_view fs)
joined_weight [] fs = omega arith
joined_weight (e ∷ es) fs = omega (arith, joined_weight es fs)

all_fall : (o : Option (Key × Value)) (v : Vec (Key × Value)) (t : Option (Box (BTreeMap Key Value))) → AreStored o (v.items ++ tree_entries t)
    → deep-Entries (record { first = o; rest = v; tail = t }) ≤ listed_weight (record { entries = all_entries o (v.items ++ tree_entries t) })
all_fall None v t h = omega (arith, rest_falls v, tail_falls t, joined_weight v.items (tree_entries t), ap (λ es. entries_weight (entries_view es)) h)
all_fall (Some e) v t h = omega (arith, first_falls e, rest_falls v, tail_falls t, joined_weight v.items (tree_entries t))

pub listed_falls : (a : listings.Inside) → AreStored a.first (a.rest.items ++ tree_entries a.tail)
    → deep-Entries a ≤ listed_weight (record { entries = all_entries a.first (a.rest.items ++ tree_entries a.tail) })
listed_falls a h = all_fall a.first a.rest a.tail h

some_weight : (es : Entries) → 1 ≤ entries_weight es
some_weight no_entries = omega arith
some_weight (entry k d es) = omega (arith, some_weight es)

-- the values of shared entries, which are no more than the keys
zipped : (ks : List Key) (vs : List Value) → length vs ≤ length ks
    → items_weight (items_view vs) ≤ entries_weight (entries_view (zip ks vs))
zipped [] [] h = omega arith
zipped [] (v ∷ vs) h = absurd (omega (arith, h))
zipped (k ∷ ks) [] h = omega arith
zipped (k ∷ ks) (v ∷ vs) h = omega (arith, zipped ks vs (omega (arith, h)))

-- what is `null` weighs nothing
most_places : (n : ℕ) (vs : List Value) → AllByRecursion (λ v. v ≡ value.Null) (drop n vs)
    → suc (most (λ v. deep-Value v) vs) ≤ items_weight (items_view (take n vs))
most_places zero [] h = omega arith
most_places (suc n) [] h = omega arith
most_places zero (v ∷ vs) h = omega (arith, ap (λ v. deep-Value v) h.0, most_places zero vs h.1)
most_places (suc n) (v ∷ vs) h = omega (arith, lighter v, most_places n vs h)

values_fall : (vs : Values) → AreInPlace vs → suc (deep-Values vs) ≤ items_weight (items_view (values_of vs))
values_fall (values.Few a) h = omega (arith, most_places a.count a.values h.2)
values_fall (values.Many vs) h = no_more (most (λ v. deep-Value v) vs.items) (items_weight (items_view vs.items)) (most_items vs.items)

pub shared_falls : (a : sharings.Inside) → length (values_of a.values) ≤ length a.keys.value.items → AreInPlace a.values
    → deep-SharedEntries a ≤ shared_weight (record { keys = a.keys.value.items; values = values_of a.values })
shared_falls a h p = omega (arith, values_fall a.values p, zipped a.keys.value.items (values_of a.values) h)

map_entries_fall : (m : MapEntries) → deep-MapEntries m ≤ entries_weight (entries_view (map_entries m))
map_entries_fall (map_entry.Own e) = omega (arith, some_weight (entries_view e.entries))
map_entries_fall (map_entry.Shared s) = omega (arith, some_weight (entries_view (zip s.keys s.values)))

pub entries_fall : (a : singles.Inside) → deep-SingleMap a ≤ single_weight (entries_view (map_entries a.entries))
entries_fall a = omega (arith, map_entries_fall a.entries)

-- what is flat has no parts
flat_weight : (d : Data) → is_flat d ≡ true → weight d ≤ 1
flat_weight (list ds) h = absurd cc
flat_weight (map_of es) h = absurd cc
flat_weight (optional ds) h = absurd cc
flat_weight double h = omega arith
flat_weight null h = omega arith
flat_weight (bool b) h = omega arith
flat_weight (int n) h = omega arith
flat_weight (uint n) h = omega arith
flat_weight (text s) h = omega arith
flat_weight (bytes s) h = omega arith
flat_weight (timestamp t o) h = omega arith
flat_weight (duration n) h = omega arith
flat_weight (ip a) h = omega arith
flat_weight (cidr c) h = omega arith
flat_weight (quantity q) h = omega arith
flat_weight (semver v) h = omega arith
flat_weight (url u) h = omega arith
flat_weight (format f) h = omega arith

most_flat : (vs : List Value) → AreFlat vs → most (λ v. deep-Value v) vs ≤ 1
most_flat [] h = omega arith
most_flat (v ∷ vs) h = omega (arith, lighter v, flat_weight (view v) h.0, most_flat vs h.1)

pub rows_fall : (a : rows.Inside) → AreFlat a.values.items → deep-MapRows a ≤ rows_weight (record { keys = a.keys.value.items; values = a.values.items })
unfolding rows_weight
rows_fall a h = omega (arith, most_flat a.values.items h)

block_falls : (b : MapBlock) (i : ℕ) → suc (deep-MapBlock b) ≤ map_weight (map_in b i)
unfolding rows_weight
block_falls (block.Single m) i = omega arith
block_falls (block.Rows r) i = omega (arith, some_weight (entries_view (row_entries r i)))

pub map_falls : (a : maps.Inside) → deep-Map a ≤ map_weight (map_in a.block.value a.row)
map_falls a = omega (arith, block_falls a.block.value a.row)

pub held_falls : (a : holds.Inside) → deep-Held a ≤ items_weight (alone (view a.value))
held_falls a = omega (arith, lighter a.value)

none_falls : (o : Option (Rc Held Global))
    → deep-OptionalValue (record { held = o }) ≤ held_weight (held_view o)
none_falls None = omega arith
none_falls (Some r) = omega arith

pub optional_falls : (a : optionals.Inside) → deep-OptionalValue a ≤ held_weight (held_view a.held)
optional_falls a = none_falls a.held
