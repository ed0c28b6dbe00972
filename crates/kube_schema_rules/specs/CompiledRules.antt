-- Trusted by the clauses of other library calls.
-- The compiled rules of a node, stored or made.
use Rattle.std.specs.Prelude.{List, map, Result}
use Rattle.kube_schema_rules.specs.Compilation.{Compiled, Malformed, compiled_seen}
use Rattle.kube_schema_rules.specs.declared.node_rules.CompiledRules.{CompiledRules}
use Rattle.kube_schema_rules.specs.declared.node_rules.CompiledRules.TheVariants as compiled

abbrev pub rules_in : CompiledRules → List (Result Compiled Malformed)
rules_in (compiled.Lent r) = map compiled_seen r.now.rules.items
rules_in (compiled.Made r) = map compiled_seen r.rules.items
