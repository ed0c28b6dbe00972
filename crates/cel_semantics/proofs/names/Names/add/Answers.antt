use Rattle.std.proofs.Common.{ap, ◌∙◌}
use Rattle.cel_value.specs.View.{view}
use Rattle.cel_semantics.specs.Bindings.{binding, named_bindings}
use Rattle.cel_semantics.proofs.Anew.{added_last, inserted, bound_above, bound_below}
use Rattle.cel_semantics.proofs.names.Names.add.Goals as goal

pub returns-in_ok-push-clause-bound : goal.returns-in_ok-push-clause-bound
returns-in_ok-push-clause-bound c = λ x.
    let es = c.args.self.now.first.items in
    bound_above x c.args.name.now (named_bindings c.push.new.self.items) (named_bindings es) (named_bindings c.args.self.now.others.entries) (view c.args.value)
    (ap (λ l. binding x (named_bindings l)) c.in_ok-push.ensures.items ∙ added_last x c.args.name.now es c.in_ok-key.key c.args.value c.requires c.in_ok-key.ensures.ok)

pub returns-in_ok-insert-clause-bound : goal.returns-in_ok-insert-clause-bound
returns-in_ok-insert-clause-bound c = λ x.
    bound_below x c.args.name.now (named_bindings c.args.self.now.first.items) (named_bindings c.insert.new.self.entries) (named_bindings c.args.self.now.others.entries) (view c.args.value) c.requires
    (inserted x c.args.name.now c.in_ok-key.key c.args.value c.args.self.now.others c.insert.new.self c.in_ok-key.ensures.ok c.in_ok-insert.ensures.updates)
