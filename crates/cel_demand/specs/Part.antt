-- Trusted by the clauses of other library calls.
-- A part of a value: what an expression needs to know of it,
-- if it goes on by selecting members and iterating over items.
use Rattle.std.specs.Prelude.{ℕ, List, Bool, false, ◌||◌, Option, Some, None, if◌then◌else◌}
use Rattle.std.specs.Cmp.Lexicographic.{slice_cmp}
use Rattle.std.specs.Ordering.{nat_cmp, match_ordering}
use Rattle.std.specs.Str.{bytes_eq}

mutual
  pub data Part : Type 0 where
    -- only that the value exists
    nothing : Part
    whole : Part
    -- the number of items of a list, and this part of each
    each_item : Part → Part
    -- which of these members a map has, and these parts of them
    some_members : Members → Part

  -- names, each with a part of its value
  pub data Members : Type 0 where
    no_members : Members
    member : List ℕ → Part → Members → Members

-- one more member, before the first whose name comes after
-- its name; if it is already there, the parts are joined
abbrev pub with_member : List ℕ → Part → (Part → Part) → Members → Members
with_member x p joined no_members = member x p no_members
with_member x p joined (member y q ms) =
    match_ordering (slice_cmp nat_cmp x y)
    (member x p (member y q ms)) (member y (joined q) ms) (member y q (with_member x p joined ms))

abbrev mutual
  -- the union of two parts. A list has no members and a map
  -- has no items, so the only part with both is the whole.
  pub both : Part → Part → Part
  both nothing q = q
  both whole q = whole
  both (each_item p) nothing = each_item p
  both (each_item p) whole = whole
  both (each_item p) (each_item q) = each_item (both p q)
  both (each_item p) (some_members ms) = whole
  both (some_members ms) nothing = some_members ms
  both (some_members ms) whole = whole
  both (some_members ms) (each_item q) = whole
  both (some_members ms) (some_members ns) = some_members (all_members ms ns)

  -- the members of both, with parts joined
  pub all_members : Members → Members → Members
  all_members no_members ns = ns
  all_members (member x p ms) ns = all_members ms (with_member x p (both p) ns)

-- the part of a name's value
abbrev pub part_at : List ℕ → Members → Part
part_at x no_members = nothing
part_at x (member y p ms) = if bytes_eq y x then both p (part_at x ms) else part_at x ms

-- the name is among them
abbrev pub has_name : List ℕ → Members → Bool
has_name x no_members = false
has_name x (member y p ms) = bytes_eq y x || has_name x ms

-- the part that is read of a name's value, if any
abbrev pub part_read : List ℕ → Members → Option Part
part_read x ms = if has_name x ms then Some (part_at x ms) else None

-- the union of what two read
abbrev pub both_read : Option Part → Option Part → Option Part
both_read None q = q
both_read (Some p) None = Some p
both_read (Some p) (Some q) = Some (both p q)

-- all members except those with one name
abbrev pub without : List ℕ → Members → Members
without x no_members = no_members
without x (member y p ms) = if bytes_eq y x then without x ms else member y p (without x ms)

-- the part of each item, from the part of a list
abbrev pub in_items : Part → Part
in_items nothing = nothing
in_items whole = whole
in_items (each_item p) = p
in_items (some_members ms) = whole
