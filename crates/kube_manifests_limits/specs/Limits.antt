-- Trusted by the clauses of policies.
-- Which errors of an evaluation are limits of this project: an API server may have a value there, so that such an error
-- says nothing of an object or a request. Where an error doesn't tell whether an API server has the same, it is a limit.
-- Sources: CEL language definition, "List of Standard Definitions" (`string`, `int`, `timestamp`); Go's package `time`,
-- `ParseDuration`, and its reading of RFC 3339, package `net/url`, `ParseRequestURI`; Kubernetes documentation, "CEL in Kubernetes" (the libraries of lists and
-- of `format`, optionals); cel-go, package `ext`, `Strings` (what `%s` may be used on).
use Rattle.cel_value.specs.Faults.{Fault, function_error, invalid_pattern, no_overload, undeclared}
use Rattle.kube_manifests_texts.specs.Spelling.{is_word}
use Rattle.std.specs.Prelude.{ℕ, List, [], ◌∷◌, ◌||◌, ◌&&◌, Bool, true, false, codes}
use Rattle.std.specs.Str.{bytes_eq}

-- the functions that an API server has for operands that they have none for here: `string` of a bool, `int` of a timestamp
-- and of a duration, `timestamp` of an int, and what reads an optional, where an API server has one (`oldSelf`, a named
-- format)
unfoldable pub narrow_functions : List (List ℕ)
narrow_functions =
    codes "string" ∷ codes "int" ∷ codes "timestamp" ∷ codes "hasValue" ∷ codes "value" ∷ []

-- those whose own errors are limits: `sum` of durations, and the texts of times and URLs that Go reads and this project
-- doesn't
unfoldable pub narrow_errors : List (List ℕ)
narrow_errors = codes "sum" ∷ codes "duration" ∷ codes "timestamp" ∷ codes "url" ∷ []

-- what `format` says of the values that `%s` has a text for in an API server
unfoldable pub narrow_formats : List (List ℕ)
narrow_formats =
    codes "%s does not support bytes" ∷ codes "%s does not support duration"
    ∷ codes "%s does not support timestamp" ∷ []

-- whether the error of a function is a limit, given the function and what it says
abbrev pub is_narrow : List ℕ → List ℕ → Bool
is_narrow function message =
    is_word narrow_errors function || (bytes_eq function (codes "format") && is_word narrow_formats message)

-- a name that isn't known, a double, and a pattern of a syntax that isn't read are limits, too
abbrev pub is_limit : Fault → Bool
is_limit (undeclared name) = true
is_limit (invalid_pattern function) = true
is_limit (no_overload name) = is_word narrow_functions name
is_limit (function_error function message) = is_narrow function message
is_limit _ = false
