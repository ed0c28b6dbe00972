-- Trusted by the clauses of other library calls.
-- The number of rules of a schema: Kubernetes API reference, JSONSchemaProps
-- (x-kubernetes-validations).
use Rattle.std.specs.Prelude.{ℕ, ◌+◌, ◌-◌, ◌^◌, length, min, Option, Some, None}
use Rattle.kube_schema.specs.Tree.{Node, node, Maybe, nothing, just, Named, no_named, named, Nodes, no_nodes, more}

unfoldable mutual
  -- the number of rules of a node and of all nodes within it; a node past the depth limit has one
  -- error in place of its rules, which counts as one
  pub rules_in : Node → ℕ
  rules_in (node o ps it ad xs ys zs) =
      length o.validations + (rules_in_named ps
      + (rules_in_maybe it + (rules_in_maybe ad
      + (rules_in_nodes xs + (rules_in_nodes ys + rules_in_nodes zs)))))

  pub rules_in_maybe : Maybe → ℕ
  rules_in_maybe nothing = 0
  rules_in_maybe (just n) = rules_in n

  pub rules_in_named : Named → ℕ
  rules_in_named no_named = 0
  rules_in_named (named k n ns) = rules_in n + rules_in_named ns

  pub rules_in_nodes : Nodes → ℕ
  rules_in_nodes no_nodes = 0
  rules_in_nodes (more n ns) = rules_in n + rules_in_nodes ns

-- as a number of 64 bits: the greatest one if there are more
abbrev pub saturated_count : ℕ → ℕ
saturated_count n = min n (2 ^ 64 - 1)

-- the number of rules of an optional node
abbrev pub rules_in_option : Option Node → ℕ
rules_in_option None = 0
rules_in_option (Some n) = rules_in n
