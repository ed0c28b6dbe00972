-- Trusted by the clauses of manifests.
-- What this project lacks of the CEL that Kubernetes has, by the name at which an evaluation ends.
-- Sources: CEL language definition, "List of Standard Definitions"; Kubernetes documentation, "CEL in
-- Kubernetes", "CEL language libraries, features, and quirks".
use Rattle.std.specs.Prelude.{ℕ, List, [], ◌∷◌, ◌++◌, ◌||◌, Bool, if◌then◌else◌, codes}
use Rattle.std.specs.Str.{bytes_eq}
use Rattle.kube_manifests_texts.specs.Spelling.{is_word}

-- the macros of two variables
unfoldable pub two_variable_macros : List (List ℕ)
two_variable_macros =
    codes "all" ∷ codes "exists" ∷ codes "exists_one" ∷ codes "existsOne"
    ∷ codes "transformList" ∷ codes "transformMap" ∷ codes "transformMapEntry" ∷ []

-- other macros and functions
unfoldable pub missing_functions : List (List ℕ)
missing_functions =
    codes "type" ∷ codes "dyn" ∷ codes "bool" ∷ codes "of" ∷ codes "ofNonZeroValue" ∷ codes "none"
    ∷ codes "orValue" ∷ codes "or" ∷ codes "optMap" ∷ codes "optFlatMap" ∷ codes "sortBy" ∷ codes "bind"
    ∷ codes "ceil" ∷ codes "floor" ∷ codes "round" ∷ codes "trunc" ∷ codes "sqrt" ∷ codes "isInf"
    ∷ codes "isNaN" ∷ codes "isFinite" ∷ codes "asApproximateFloat" ∷ codes "getFullYear"
    ∷ codes "getMonth" ∷ codes "getDate" ∷ codes "getDayOfMonth" ∷ codes "getDayOfWeek"
    ∷ codes "getDayOfYear" ∷ codes "getHours" ∷ codes "getMinutes" ∷ codes "getSeconds"
    ∷ codes "getMilliseconds" ∷ codes "double" ∷ []

-- the names of types, as values
unfoldable pub type_names : List (List ℕ)
type_names =
    codes "int" ∷ codes "uint" ∷ codes "string" ∷ codes "bytes" ∷ codes "list" ∷ codes "map"
    ∷ codes "null_type" ∷ []

-- whether a call of a function of this name is one that this project lacks
abbrev pub is_lacked : List ℕ → Bool
is_lacked name = is_word two_variable_macros name || is_word missing_functions name

abbrev pub doubles_text : List ℕ
doubles_text = codes "numbers of kind double aren't supported"

-- in words: the feature that is lacking if this name isn't known
unfoldable pub lacking_text : List ℕ → List ℕ
lacking_text name =
    if bytes_eq name (codes "double") then doubles_text
    else if is_word two_variable_macros name then name ++ codes "() with two variables isn't supported"
    else if is_word missing_functions name then name ++ codes "() isn't supported"
    else if is_word type_names name
    then codes "the type '" ++ (name ++ codes "' as a value isn't supported")
    else codes "'" ++ (name ++ codes "' is neither a variable nor a function that is known here")
