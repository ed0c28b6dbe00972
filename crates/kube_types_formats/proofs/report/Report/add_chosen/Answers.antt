use Rattle.std.proofs.Common.{◌∙◌}
use Rattle.kube_types_formats.specs.Found.{texts_of}
use Rattle.kube_types_formats.proofs.FoundLemmas.{chosen_turn, chosen_done}
use Rattle.kube_types_formats.proofs.report.Report.add_chosen.Goals as goal

pub loop-rule-preserved : goal.loop-rule-preserved
loop-rule-preserved c =
    chosen_turn c.args.prefix.now c.args.rules.now c.loop-rule.rule-index _ (texts_of c.loop-rule.self) (texts_of c.add_if.new.self) c.loop-rule-test.true c.in_ok-add_if.ensures.added
    ∙ c.loop-rule.invariant

pub returns : goal.returns
returns c = record {
  added =
      chosen_done c.args.prefix.now c.args.rules.now c.loop-rule.rule-index _ (texts_of c.loop-rule.self) c.loop-rule-test.false c.loop-rule.invariant;
}
