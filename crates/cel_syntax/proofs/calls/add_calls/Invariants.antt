use Rattle.std.proofs.Common.{◌≡◌, ℕ, List, map, drop, ◌||◌}
use Rattle.std.specs.BTreeSet.{contains_text}
use Rattle.std.specs.List.{list_any}
use Rattle.cel_syntax_ast.specs.Term.{term}
use Rattle.cel_syntax.specs.CallNames.{calls}
use Rattle.cel_syntax.proofs.calls.add_calls.Given as goal

-- the names so far, with those of the calls among the remaining nodes
abbrev pub invariant-loop-node : goal.invariant-loop-node
invariant-loop-node l = (x : List ℕ) →
    (contains_text l.names x || list_any (calls x) (map (λ n. term n.now) (drop l.node-index l.node-items)))
    ≡ (contains_text l.fn.names x || list_any (calls x) (map (λ n. term n.now) l.node-items))
