-- Trusted by the clauses of other library calls.
-- The functions that an API server of Kubernetes 1.33 knows beyond those of `kube_functions`: the name
-- of each, and the forms in which it may be called (CEL language definition, "List of Standard
-- Definitions"; documentation of CEL-Go, `cel.OptionalTypes`), those of the authorizer, and those that
-- its macros and optional syntax stand for, whose names no text can write.
use Rattle.std.specs.Prelude.{ℕ, nat_le, ◌&&◌, ◌||◌, List, [], ◌∷◌, codes, Bool, true, false, Option, Some, None, is_some, option_map, if◌then◌else◌}
use Rattle.std.specs.Map.{lookup}
use Rattle.std.specs.Option.{option_and_then, option_or}
use Rattle.std.specs.Str.{bytes_eq}
use Rattle.kube_server_authorizer.specs.Methods as authorizer
use Rattle.kube_server_times.specs.declared.field.Field.TheVariants as field
use Rattle.kube_server_functions.specs.declared.functions.Function.{Function}
use Rattle.kube_server_functions.specs.declared.functions.Function.TheVariants as function
use Rattle.kube_server_functions.specs.declared.functions.Declaration.{Declaration}

-- a function that may be called with `least` to `greatest` arguments
abbrev pub takes_from : ℕ → ℕ → Function → Declaration
takes_from least greatest f = record { least = least; greatest = greatest; function = f }

-- ---- the tables

-- the functions that are called on a receiver
abbrev pub methods : List (List ℕ × Declaration)
methods =
    (codes "or", takes_from 1 1 function.Or)
    ∷ (codes "orValue", takes_from 1 1 function.OrValue)
    ∷ (codes "getFullYear", takes_from 0 1 (function.Getter field.FullYear))
    ∷ (codes "getMonth", takes_from 0 1 (function.Getter field.Month))
    ∷ (codes "getDayOfYear", takes_from 0 1 (function.Getter field.DayOfYear))
    ∷ (codes "getDayOfMonth", takes_from 0 1 (function.Getter field.DayOfMonth))
    ∷ (codes "getDate", takes_from 0 1 (function.Getter field.Date))
    ∷ (codes "getDayOfWeek", takes_from 0 1 (function.Getter field.DayOfWeek))
    ∷ (codes "getHours", takes_from 0 1 (function.Getter field.Hours))
    ∷ (codes "getMinutes", takes_from 0 1 (function.Getter field.Minutes))
    ∷ (codes "getSeconds", takes_from 0 1 (function.Getter field.Seconds))
    ∷ (codes "getMilliseconds", takes_from 0 1 (function.Getter field.Milliseconds))
    ∷ []

-- those that are called without one
abbrev pub globals : List (List ℕ × Declaration)
globals =
    (codes "optional.of", takes_from 1 1 function.OptionalOf)
    ∷ (codes "optional.ofNonZeroValue", takes_from 1 1 function.OptionalOfNonZeroValue)
    ∷ (codes "optional.none", takes_from 0 0 function.OptionalNone)
    ∷ (codes "bool", takes_from 1 1 function.Bool)
    ∷ (codes "dyn", takes_from 1 1 function.Dynamic)
    ∷ []

-- those whose names no text can write
abbrev pub internals : List (List ℕ × Declaration)
internals =
    (codes "_?._", takes_from 2 2 function.OptionalField)
    ∷ (codes "_[?_]", takes_from 2 2 function.OptionalIndex)
    ∷ (codes "@pairs", takes_from 1 1 function.Pairs)
    ∷ (codes "@map_of_pairs", takes_from 1 1 function.MapOfPairs)
    ∷ (codes "@map_of_maps", takes_from 1 1 function.MapOfMaps)
    ∷ (codes "@type_name", takes_from 1 1 function.TypeName)
    ∷ []

-- ---- looking up a call in them

-- a method of the authorizer
abbrev pub authorizer_method : List ℕ → Option Declaration
authorizer_method name =
    option_map (λ m. takes_from m.arguments m.arguments (function.Authorizer m.function))
    (lookup (bytes_eq name) authorizer.methods)

abbrev pub method_named : List ℕ → Option Declaration
method_named name = option_or (lookup (bytes_eq name) methods) (authorizer_method name)

abbrev pub global_named : List ℕ → Option Declaration
global_named name = option_or (lookup (bytes_eq name) globals) (lookup (bytes_eq name) internals)

abbrev pub function_named : List ℕ → Bool → Option Declaration
function_named name true = method_named name
function_named name false = global_named name

-- whether a function has this name
abbrev pub is_named : List ℕ → Bool
is_named name = is_some (function_named name true) || is_some (function_named name false)

-- whether it may be called with this number of arguments
abbrev pub takes : Declaration → ℕ → Bool
takes d count = nat_le d.least count && nat_le count d.greatest

-- the function that may be called by this name and in this form, if any
abbrev pub known_function : List ℕ → Bool → ℕ → Option Function
known_function name receiver count =
    option_and_then (λ d. if takes d count then Some d.function else None) (function_named name receiver)
