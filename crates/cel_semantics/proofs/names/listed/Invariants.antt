use Rattle.std.proofs.Common.{◌≡◌, drop}
use Rattle.cel_semantics.specs.Bindings.{binding, named_bindings}
use Rattle.cel_semantics.proofs.names.listed.Given as goal

abbrev pub invariant-loop-entry : goal.invariant-loop-entry
invariant-loop-entry l = binding l.name (named_bindings l.entry-items) ≡ binding l.name (named_bindings (drop l.entry-index l.entry-items))
