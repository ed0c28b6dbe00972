use Rattle.std.proofs.Common.{sym, ◌∙◌}
use Rattle.cel_semantics.specs.Outcome.{outcome_view}
use Rattle.cel_vm.specs.State.{outcomes}
use Rattle.cel_vm.proofs.Tops.{top_is}
use Rattle.cel_vm.proofs.stack.top.Goals as goal

pub returns-in-Some : goal.returns-in-Some
returns-in-Some c = (outcomes c.in-Some.field-0-1.now, top_is outcome_view c.args.values.now.items c.in-Some.field-0-1.now c.in-Some.answer.now (sym c.as_slice.ensures.value ∙ c.in-Some.ensures.cases.0))
