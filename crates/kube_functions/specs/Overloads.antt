-- Trusted by the headline.
-- Functions that take operands of different kinds under one name: `reverse`, `indexOf`
-- and `lastIndexOf` of lists and of strings; `string` of addresses and of other values
-- (Kubernetes documentation, "CEL in Kubernetes", extended string library, list
-- library, IP address library; documentation of CEL-Go, "Strings", "Lists").
use Rattle.std.specs.Prelude.{ℕ, List, codes, Bool, true, false, Option, Some, None, is_some, Err, if◌then◌else◌}
use Rattle.std.specs.Option.{option_map_or}
use Rattle.std.specs.Str.{bytes_eq}
use Rattle.cel_value.specs.Data.{Data, ip, cidr}
use Rattle.cel_value.specs.Faults.{no_overload}
use Rattle.cel_value.specs.Parts.{items_in}
use Rattle.cel_semantics.specs.Outcome.{Outcome}
use Rattle.cel_stdlib.specs.Standard.{first_operand}
use Rattle.kube_functions_lists.specs.Lists as lists
use Rattle.kube_functions_lists.specs.Indices as indices
use Rattle.kube_functions_strings.specs.Letters as letters
use Rattle.kube_functions_strings.specs.Offsets as offsets

abbrev pub is_list : Data → Bool
is_list v = is_some (items_in v)

abbrev pub reverse_overload : Data → Outcome
reverse_overload v = if is_list v then lists.reverse v else letters.reverse_outcome v

-- the answer for a list, on which the function takes no start
abbrev pub unless_started : List ℕ → Outcome → Option Data → Outcome
unless_started name answer None = answer
unless_started name answer (Some start) = Err (no_overload name)

abbrev pub index_of : Data → Data → Option Data → Outcome
index_of v w start =
    if is_list v then unless_started (codes "indexOf") (indices.index_of v w) start
    else offsets.index_of v w start

abbrev pub last_index_of : Data → Data → Option Data → Outcome
last_index_of v w start =
    if is_list v then unless_started (codes "lastIndexOf") (indices.last_index_of v w) start
    else offsets.last_index_of v w start

-- ---- `string` of addresses

abbrev pub is_address : Data → Bool
is_address (ip a) = true
is_address (cidr c) = true
is_address _ = false

abbrev pub address_in : Data → Option Data
address_in v = if is_address v then Some v else None

-- the operand of `string` if it is an IP address or a
-- CIDR; none for other operands and other functions
abbrev pub address_operand : List ℕ → Option Data → List Data → Option Data
address_operand name receiver args =
    if bytes_eq name (codes "string")
    then option_map_or address_in (first_operand receiver args) None else None
