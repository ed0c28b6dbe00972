use Rattle.cel_value.specs.View.{view}
use Rattle.cel_semantics.specs.Bindings.{named_bindings}
use Rattle.cel_semantics.proofs.Anew.{set_first, bound_above}
use Rattle.cel_semantics.proofs.names.Names.set.Goals as goal

pub returns-in-Some-clause-bound : goal.returns-in-Some-clause-bound
returns-in-Some-clause-bound c = λ x.
    let es = c.args.self.now.first.items in
    bound_above x c.args.name.now _ (named_bindings es) (named_bindings c.args.self.now.others.entries) (view c.args.value)
    (set_first x c.args.name.now es c.in-Some.slot c.index_mut.result.now c.args.value c.in-Some.ensures.slot c.index_mut.ensures.value)
