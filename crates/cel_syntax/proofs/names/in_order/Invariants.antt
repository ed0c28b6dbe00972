use Rattle.std.proofs.Common.{◌≡◌, ◌++◌}
use Rattle.cel_syntax.proofs.names.in_order.Given as goal

abbrev pub invariant-loop-name : goal.invariant-loop-name
invariant-loop-name l = l.list.items ++ l.name-iterator ≡ l.fn.names.keys
