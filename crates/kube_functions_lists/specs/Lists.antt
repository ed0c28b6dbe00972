-- Trusted by the headline.
-- Lists made of a list's items (Kubernetes documentation, "CEL in Kubernetes", list library;
-- documentation of CEL-Go, "Lists": `slice`, `flatten`, `reverse`, `distinct`, `first`, `last`,
-- `lists.range`). Items are compared as `==` compares them.
use Rattle.std.specs.Prelude.{ℕ, suc, ◌++◌, ℤ, pos, negsuc, List, [], ◌∷◌, map, reverse as backwards, length, codes, decimal, not, ◌&&◌, nat_le, Option, None, Some, option_map, Ok, Err, take, drop, if◌then◌else◌}
use Rattle.std.specs.Fmt.{signed_decimal}
use Rattle.std.specs.List.{filter, list_any, range_with_len}
use Rattle.std.specs.Option.{option_map_or}
use Rattle.cel_value.specs.Data.{Data, int, list, optional, Items, no_items, item}
use Rattle.cel_value.specs.Faults.{Fault, no_overload, function_error}
use Rattle.cel_value.specs.Parts.{int_in, items_in}
use Rattle.cel_value.specs.Same.{same}
use Rattle.cel_value.specs.View.{items_of}
use Rattle.cel_semantics.specs.Outcome.{Outcome}
use Rattle.cel_semantics.specs.Ranges.{items_list}

-- the items of a list, or none if the value isn't a list
abbrev pub items_if_list : Data → Option (List Data)
items_if_list v = option_map items_list (items_in v)

-- the list of these items
abbrev pub as_list : List Data → Data
as_list ds = list (items_of ds)

-- the result of a function with this name on the items of a list; other operands are an error
abbrev pub of_list : List ℕ → (List Data → Outcome) → Data → Outcome
of_list name f v = option_map_or f (items_if_list v) (Err (no_overload name))

-- ---- parts

abbrev pub slice_message : ℤ → ℤ → ℕ → List ℕ
slice_message a b n =
    codes "slice(" ++ (signed_decimal a ++ (codes ", " ++ (signed_decimal b
    ++ (codes ") out of range for list of length " ++ decimal n))))

abbrev pub slice_fault : ℤ → ℤ → ℕ → Fault
slice_fault a b n = function_error (codes "slice") (slice_message a b n)

-- the items from index a up to, but without, index b; the length of the list is allowed as an index
abbrev pub part_between : List Data → ℤ → ℤ → Option (List Data)
part_between ds (pos a) (pos b) =
    if nat_le a b && nat_le b (length ds) then Some (drop a (take b ds)) else None
part_between ds a b = None

abbrev pub slice_outcome : List Data → ℤ → ℤ → Outcome
slice_outcome ds a b =
    option_map_or (λ es. Ok (as_list es)) (part_between ds a b) (Err (slice_fault a b (length ds)))

-- the ints of two values, or none if either isn't an int
abbrev pub ints_in : Data → Data → Option (ℤ × ℤ)
ints_in a b = option_map_or (λ m. option_map (λ n. (m, n)) (int_in b)) (int_in a) None

abbrev pub slice : Data → Data → Data → Outcome
slice v a b = of_list (codes "slice")
    (λ ds. option_map_or (λ p. slice_outcome ds p.0 p.1) (ints_in a b) (Err (no_overload (codes "slice")))) v

-- an optional that holds the item, or an empty one if there is none
abbrev pub as_optional : Option Data → Data
as_optional None = optional no_items
as_optional (Some d) = optional (item d no_items)

abbrev pub first_of : List Data → Option Data
first_of [] = None
first_of (d ∷ ds) = Some d

abbrev pub last_of : List Data → Option Data
last_of [] = None
last_of (d ∷ []) = Some d
last_of (d ∷ e ∷ ds) = last_of (e ∷ ds)

abbrev pub first : Data → Outcome
first v = of_list (codes "first") (λ ds. Ok (as_optional (first_of ds))) v

abbrev pub last : Data → Outcome
last v = of_list (codes "last") (λ ds. Ok (as_optional (last_of ds))) v

-- ---- order and selection

abbrev pub reverse : Data → Outcome
reverse v = of_list (codes "reverse") (λ ds. Ok (as_list (backwards ds))) v

-- the items without those that equal an earlier one
abbrev pub distinct_items : List Data → List Data
distinct_items [] = []
distinct_items (d ∷ ds) = d ∷ filter (λ e. not (same d e)) (distinct_items ds)

-- the items, with one more at the end unless it is among them
abbrev pub with_new : List Data → Data → List Data
with_new ds d = if list_any (same d) ds then ds else ds ++ d ∷ []

abbrev pub distinct : Data → Outcome
distinct v = of_list (codes "distinct") (λ ds. Ok (as_list (distinct_items ds))) v

-- ---- levels

-- a value's items, with the lists inside replaced by their items down to n levels
abbrev mutual
  pub flat_item : Data → ℕ → List Data
  flat_item (list ds) (suc n) = flat_items ds n
  flat_item d n = d ∷ []

  pub flat_items : Items → ℕ → List Data
  flat_items no_items n = []
  flat_items (item d ds) n = flat_item d n ++ flat_items ds n

abbrev pub depth_fault : Fault
depth_fault = function_error (codes "flatten") (codes "depth must be non-negative")

abbrev pub flatten_outcome : Items → ℤ → Outcome
flatten_outcome ds (pos n) = Ok (as_list (flat_items ds n))
flatten_outcome ds (negsuc n) = Err depth_fault

-- the depth, which is 1 if none is given
abbrev pub depth_in : Option Data → Option ℤ
depth_in None = Some (pos 1)
depth_in (Some d) = int_in d

abbrev pub flatten : Data → Option Data → Outcome
flatten v d =
    option_map_or
    (λ ds. option_map_or (flatten_outcome ds) (depth_in d) (Err (no_overload (codes "flatten"))))
    (items_in v) (Err (no_overload (codes "flatten")))

-- ---- numbers

abbrev pub range_fault : Fault
range_fault = function_error (codes "lists.range") (codes "range argument must be non-negative")

-- the ints from 0 up to a count, without the count itself
abbrev pub first_ints : ℕ → List Data
first_ints n = map (λ k. int (pos k)) (range_with_len 0 n)

abbrev pub range_below : ℤ → Outcome
range_below (pos n) = Ok (as_list (first_ints n))
range_below (negsuc n) = Err range_fault

abbrev pub range : Data → Outcome
range v = option_map_or range_below (int_in v) (Err (no_overload (codes "lists.range")))
