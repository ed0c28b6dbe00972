-- Trusted by laws alone.
-- What laws say of trees: whether one is known to be an optional, and what it means.
use Rattle.std.specs.Prelude.{◌≡◌, ℕ, suc, pos, nat_eq, List, [], ◌∷◌, ◌++◌, Bool, true, false, Option, Some, None, Result, Ok, Err, if◌then◌else◌}
use Rattle.std.specs.List.{list_all}
use Rattle.cel_patterns.specs.Book.{Book}
use Rattle.cel_value.specs.Data.{Data, int, list, map_of, Items, no_items, item, Entries, no_entries, entry}
use Rattle.cel_value.specs.Faults.{Fault}
use Rattle.cel_value.specs.Find.{option_items}
use Rattle.cel_value.specs.Same.{has_double, items_have_double}
use Rattle.cel_value.specs.View.{items_of}
use Rattle.cel_semantics.specs.Bindings.{Bindings}
use Rattle.cel_semantics.specs.Meaning.{meaning}
use Rattle.cel_semantics.specs.Outcome.{Outcome, no_doubles}
use Rattle.cel_semantics.specs.Ranges.{key_data}
use Rattle.cel_syntax_ast.specs.Term.{Term}
use Rattle.kube_server_functions.specs.Server.{server_library}
use Rattle.kube_server_laws.specs.Meaning.{server_meaning}
use Rattle.kube_server_syntax.specs.Tree.{Tree}
use Rattle.kube_server_translation.specs.Made.{Made, plain, Names, is_optional, held_of}
use Rattle.kube_server_translation.specs.Translation.{made}
use Rattle.kube_server_values.specs.Maps.{map_of_pairs}
use Rattle.kube_server_values.specs.Optionals.{some_of, none_of_all}

-- ---- names that no text has

abbrev pub begins_at : List ℕ → Bool
begins_at [] = false
begins_at (b ∷ bs) = nat_eq 64 b

-- only names that begin with `@` are bound
abbrev pub AreMade : Bindings → Type 0
AreMade es = list_all (λ e. begins_at e.0) es ≡ true

-- ---- trees

-- `t` means `r`
abbrev pub Means : Book → Names → Tree → Bindings → Outcome → Type 0
Means book names t env r = server_meaning book names t env ≡ Ok r

-- the same, whatever the names that the translation makes are bound to outside of these variables
abbrev pub MeansIn : Book → Names → Tree → Bindings → Bindings → Outcome → Type 0
MeansIn book names t variables env r =
    (es : Bindings) → AreMade es → Means book names t (variables ++ (es ++ env)) r

-- `t` has a translation
abbrev pub Translates : Names → Tree → Type 0
Translates names t = (m : Made) × (made names t ≡ Ok m)

-- `t` isn't known to be an optional, and means `r`
abbrev pub Plain : Book → Names → Tree → Bindings → Outcome → Type 0
Plain book names t env r =
    (u : Term) × (made names t ≡ Ok (plain u)) × (meaning server_library book u env ≡ r)

-- the list of what is held, or the error
abbrev pub listed : Result (Option Data) Fault → Outcome
listed (Ok o) = Ok (list (option_items o))
listed (Err e) = Err e

-- `t` is known to be an optional, and holds this, or is this error
abbrev pub Holds : Book → Names → Tree → Bindings → Result (Option Data) Fault → Type 0
Holds book names t env r =
    (m : Made) × (made names t ≡ Ok m) × (is_optional m ≡ true)
    × (meaning server_library book (held_of m) env ≡ listed r)

abbrev pub is_map : Data → Bool
is_map (map_of es) = true
is_map _ = false

-- ---- what two variables go over

-- each item with its index, the first of which is given
abbrev pub with_indices : ℕ → Items → List (Data × Data)
with_indices n no_items = []
with_indices n (item d ds) = (int (pos n), d) ∷ with_indices (suc n) ds

-- each key with its value
abbrev pub with_keys : Entries → List (Data × Data)
with_keys no_entries = []
with_keys (entry k d es) = (key_data k, d) ∷ with_keys es

abbrev pub parts_of : Data → List (Data × Data)
parts_of (list ds) = with_indices 0 ds
parts_of (map_of es) = with_keys es
parts_of _ = []

abbrev pub is_range : Data → Bool
is_range (list ds) = true
is_range (map_of es) = true
is_range _ = false

-- ---- optionals as values

-- an optional with this value; one that holds a double is an error
abbrev pub held_value : Option Data → Outcome
held_value None = Ok none_of_all
held_value (Some d) = if has_double d then Err no_doubles else Ok (some_of d)

-- the map of pairs of a key and a value; values that hold doubles are an error
abbrev pub map_of_all : List Data → Outcome
map_of_all ps = if items_have_double (items_of ps) then Err no_doubles else map_of_pairs (list (items_of ps))
