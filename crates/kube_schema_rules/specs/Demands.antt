-- Trusted by the clauses of other library calls.
-- What rules read of the value of a name.
use Rattle.std.specs.Prelude.{◌≡◌, ℕ, List, [], ◌∷◌, Option, None, option_map, Result, Ok, Err, codes}
use Rattle.cel.specs.Demand.{part_of}
use Rattle.cel.specs.Part.{Part, both_read}
use Rattle.kube_schema_rules.specs.Compilation.{Compiled, Malformed}
use Rattle.kube_schema_rules.specs.Reads.{texts_read}
use Rattle.kube_schema_rules.specs.declared.demands.Demands.{Demands}

-- what one rule reads; a malformed rule reads nothing
abbrev pub rule_read : List ℕ → Result Compiled Malformed → Option Part
rule_read x (Ok c) = texts_read x c.tree c.message_tree
rule_read x (Err m) = None

-- what at least one of these rules reads
abbrev pub rules_read : List ℕ → List (Result Compiled Malformed) → Option Part
rules_read x [] = None
rules_read x (r ∷ rs) = both_read (rule_read x r) (rules_read x rs)

-- ---- views of the code's values

-- the demands are what `read` gives for `self` and for `oldSelf`
abbrev pub AreDemands : Demands → (List ℕ → Option Part) → Type 0
AreDemands d read =
    (option_map part_of d.value ≡ read (codes "self")) × (option_map part_of d.old ≡ read (codes "oldSelf"))
