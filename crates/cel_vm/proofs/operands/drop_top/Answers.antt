use Rattle.std.proofs.Common.{◌-◌, ◌∙◌, ap}
use Rattle.cel_vm.proofs.StackSteps.{drop_outcomes}
use Rattle.cel_vm.proofs.operands.drop_top.Goals as goal

pub returns : goal.returns
returns c = drop_outcomes c.args.count c.saturating_sub-kept.result c.args.values.now.items c.truncate.new.self.items (c.saturating_sub-kept.ensures ∙ ap (λ n. n - c.args.count) (c.len.ensures ∙ c.args.values.now.ok.0)) c.truncate.ensures.items
