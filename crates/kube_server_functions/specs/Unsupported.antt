-- Trusted by the clauses of other library calls.
-- The functions of `kube_functions` that an API server of Kubernetes 1.33 doesn't have for the rules of
-- CRDs and for policies: its documentation ("CEL in Kubernetes") lists none of them there. `math` and
-- `base64` are libraries of CEL-Go that it doesn't load; `jsonpatch.escapeKey` is there for mutating
-- policies alone.
use Rattle.std.specs.Prelude.{ℕ, List, [], ◌∷◌, codes, Bool, true, false}
use Rattle.std.specs.List.{list_any}
use Rattle.std.specs.Str.{bytes_eq}

-- without a receiver
abbrev pub globals : List (List ℕ)
globals =
    codes "min" ∷ codes "max"
    ∷ codes "isIPv4" ∷ codes "isIPv6" ∷ codes "isCIDRv4" ∷ codes "isCIDRv6"
    ∷ codes "math.abs" ∷ codes "math.sign" ∷ codes "math.greatest" ∷ codes "math.least"
    ∷ codes "math.bitAnd" ∷ codes "math.bitOr" ∷ codes "math.bitXor" ∷ codes "math.bitNot"
    ∷ codes "math.bitShiftLeft" ∷ codes "math.bitShiftRight"
    ∷ codes "base64.encode" ∷ codes "base64.decode"
    ∷ codes "jsonpatch.escapeKey"
    ∷ []

-- on a receiver
abbrev pub methods : List (List ℕ)
methods = codes "string" ∷ []

-- whether an API server doesn't have this function, called with or without a receiver
abbrev pub is_unsupported : List ℕ → Bool → Bool
is_unsupported name true = list_any (bytes_eq name) methods
is_unsupported name false = list_any (bytes_eq name) globals
