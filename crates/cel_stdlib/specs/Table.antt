-- Trusted by the headline.
-- The standard functions: their names, and the forms in which each may be called (CEL language
-- definition, "List of Standard Definitions"; documentation of CEL-Go, "Optional types" for
-- `hasValue` and `value`, "Math" and "Lists" for `min` and `max`).
use Rattle.std.specs.Prelude.{ℕ, ◌==◌, nat_eq, nat_lt, ◌&&◌, ◌||◌, not, List, [], ◌∷◌, length, codes, Bool, Option, Some, None, if◌then◌else◌}
use Rattle.std.specs.List.{filter}
use Rattle.std.specs.Map.{lookup}
use Rattle.std.specs.Option.{option_and_then}
use Rattle.std.specs.Str.{bytes_eq}
use Rattle.cel_stdlib.specs.declared.names.OfOne.{OfOne}
use Rattle.cel_stdlib.specs.declared.names.OfOne.TheVariants.{Size, Int, Uint, String, Bytes, Timestamp, Duration, HasValue, Value}
use Rattle.cel_stdlib.specs.declared.names.OfTwo.{OfTwo}
use Rattle.cel_stdlib.specs.declared.names.OfTwo.TheVariants.{Contains, StartsWith, EndsWith, Matches}
use Rattle.cel_stdlib.specs.declared.names.Function.{Function}
use Rattle.cel_stdlib.specs.declared.names.Function.TheVariants.{One, Two, Many}
use Rattle.cel_stdlib.specs.declared.extremes.Extreme.TheVariants.{Least, Greatest}

-- the entries of a table whose names have n bytes
abbrev pub of_length : {A : Type 0} → ℕ → List (List ℕ × A) → List (List ℕ × A)
of_length n es = filter (λ e. nat_eq (length e.0) n) es

abbrev pub standard_functions : List (List ℕ × Function)
standard_functions =
    (codes "size", One Size)
    ∷ (codes "int", One Int)
    ∷ (codes "uint", One Uint)
    ∷ (codes "string", One String)
    ∷ (codes "bytes", One Bytes)
    ∷ (codes "timestamp", One Timestamp)
    ∷ (codes "duration", One Duration)
    ∷ (codes "hasValue", One HasValue)
    ∷ (codes "value", One Value)
    ∷ (codes "contains", Two Contains)
    ∷ (codes "startsWith", Two StartsWith)
    ∷ (codes "endsWith", Two EndsWith)
    ∷ (codes "matches", Two Matches)
    ∷ (codes "min", Many Least)
    ∷ (codes "max", Many Greatest)
    ∷ []

abbrev pub function_named : List ℕ → Option Function
function_named name = lookup (bytes_eq name) standard_functions

-- a call v.f(..) with this number of arguments; below, a call f(..)
abbrev pub method : ℕ → Bool → ℕ → Bool
method n receiver count = receiver && (count == n)

abbrev pub global : ℕ → Bool → ℕ → Bool
global n receiver count = not receiver && (count == n)

abbrev pub takes_one : OfOne → Bool → ℕ → Bool
takes_one Size receiver count = method 0 receiver count || global 1 receiver count
takes_one Int receiver count = global 1 receiver count
takes_one Uint receiver count = global 1 receiver count
takes_one String receiver count = method 0 receiver count || global 1 receiver count
takes_one Bytes receiver count = global 1 receiver count
takes_one Timestamp receiver count = global 1 receiver count
takes_one Duration receiver count = global 1 receiver count
takes_one HasValue receiver count = method 0 receiver count
takes_one Value receiver count = method 0 receiver count

abbrev pub takes_two : OfTwo → Bool → ℕ → Bool
takes_two Contains receiver count = method 1 receiver count
takes_two StartsWith receiver count = method 1 receiver count
takes_two EndsWith receiver count = method 1 receiver count
takes_two Matches receiver count = method 1 receiver count || global 2 receiver count

-- one or more arguments
abbrev pub takes_many : Bool → ℕ → Bool
takes_many receiver count = not receiver && nat_lt 0 count

abbrev pub takes : Function → Bool → ℕ → Bool
takes (One f) receiver count = takes_one f receiver count
takes (Two f) receiver count = takes_two f receiver count
takes (Many end) receiver count = takes_many receiver count

-- the function that may be called by this name and in this form, if any
abbrev pub known_function : List ℕ → Bool → ℕ → Option Function
known_function name receiver count =
    option_and_then (λ f. if takes f receiver count then Some f else None) (function_named name)
