use Rattle.std.proofs.Common.{◌≡◌, None, take}
use Rattle.cel_semantics.specs.Bindings.{binding, named_bindings}
use Rattle.cel_semantics.proofs.names.index_of.Given as goal

abbrev pub invariant-loop-i : goal.invariant-loop-i
invariant-loop-i l = binding l.name (named_bindings (take l.i l.names.items)) ≡ None
