-- Trusted by the clauses of analysis and linter.
-- The estimated cost of an expression, for the greatest sizes that a schema allows
-- (Kubernetes documentation, "Resource use by validation functions": cost grows with
-- the lists and strings that a rule goes over). Sums and products saturate at 64 bits.
use Rattle.std.specs.Prelude.{ℕ, ◌+◌, ◌*◌, ◌-◌, ◌^◌, ◌/◌, min, max, List, [], ◌∷◌, codes, Bool, true, false, if◌then◌else◌}
use Rattle.std.specs.List.{list_any}
use Rattle.std.specs.Str.{bytes_eq}
use Rattle.cel_syntax.specs.MacroKind.{MacroKind}
use Rattle.cel_syntax.specs.MacroKind.TheVariants.{All, Exists, ExistsOne, Map, Filter}
use Rattle.cel_syntax.specs.Term.{Term, literal, ident, select, has, index, unary, binary, conditional, list_of, map_with, call, qualified, macro, Terms, no_terms, term_and}

-- the greatest sizes that a schema allows
pub record Sizes : Type 0 where
  -- the greatest number of items of a list
  pub items : ℕ
  -- the greatest length of a string
  pub length : ℕ

-- sum and product, both saturating at 64 bits
unfoldable pub sum : ℕ → ℕ → ℕ
sum a b = min (a + b) (2 ^ 64 - 1)

unfoldable pub product : ℕ → ℕ → ℕ
product a b = min (a * b) (2 ^ 64 - 1)

-- the functions whose cost grows with the length of a string; among the
-- names with a dot only `sets.contains`, which ends like one of them
unfoldable pub reads_text : List ℕ → Bool
reads_text name = list_any (bytes_eq name) (
    codes "contains"
    ∷ codes "startsWith"
    ∷ codes "endsWith"
    ∷ codes "matches"
    ∷ codes "find"
    ∷ codes "findAll"
    ∷ codes "replace"
    ∷ codes "split"
    ∷ codes "indexOf"
    ∷ codes "lastIndexOf"
    ∷ codes "sets.contains"
    ∷ [])

-- the cost of a call without its operands; a string costs one for every ten characters
abbrev pub call_cost : Sizes → List ℕ → ℕ
call_cost s name = if reads_text name then 1 + s.length / 10 else 1

abbrev pub is_there : Terms → Bool
is_there no_terms = false
is_there (term_and t ts) = true

-- the cost per item that a macro adds to that of its
-- filter and body; `map` costs more with a filter
abbrev pub step_cost : MacroKind → Bool → ℕ
step_cost All is_filtered = 2
step_cost Exists is_filtered = 2
step_cost ExistsOne is_filtered = 5
step_cost Filter is_filtered = 5
step_cost Map false = 2
step_cost Map true = 4

abbrev mutual
  -- A literal, a name and a map cost 1. A list costs the sum of its items, but at least 1. A
  -- macro costs its filter, its body and its step for each item of the longest list; its range
  -- isn't counted. Anything else costs 1, or the cost of its call, and the sum of its operands.
  pub cost : Sizes → Term → ℕ
  cost s (literal v) = 1
  cost s (ident x) = 1
  cost s (select a x) = sum 1 (cost s a)
  cost s (has a x) = sum 1 (cost s a)
  cost s (index a b) = sum 1 (sum (cost s a) (cost s b))
  cost s (unary o a) = sum 1 (cost s a)
  cost s (binary o a b) = sum 1 (sum (cost s a) (cost s b))
  cost s (conditional a b c) = sum 1 (sum (cost s a) (sum (cost s b) (cost s c)))
  cost s (list_of ts) = max 1 (cost_of_all s ts)
  cost s (map_with ps) = 1
  cost s (call target name ts) = sum (call_cost s name) (sum (cost_of_all s target) (cost_of_all s ts))
  -- what stands before the dot costs as a name
  cost s (qualified name ts) = sum (call_cost s name) (sum 1 (cost_of_all s ts))
  cost s (macro k r x f b) =
      product s.items (sum (step_cost k (is_there f)) (sum (cost_of_all s f) (cost s b)))

  pub cost_of_all : Sizes → Terms → ℕ
  cost_of_all s no_terms = 0
  cost_of_all s (term_and t ts) = sum (cost s t) (cost_of_all s ts)
