use Rattle.celcheck_cli.proofs.Reports.{failed_here, none_left, passed_on}
use Rattle.celcheck_cli.proofs.vap.status_of.Goals as goal
use Rattle.std.proofs.Common.{◌<◌, ◌≤◌, length, sym, ◌∙◌, arith}

pub returns-then-not-result-clause-status : goal.returns-then-not-result-clause-status
returns-then-not-result-clause-status c =
    let below : c.loop-result.result-index < length c.args.results.now = omega arith in
    sym (c.loop-result.invariant ∙ failed_here c.args.results.now c.loop-result.result-index c.result-item.result below c.result-item.is c.if-not-result.true)

pub loop-result-preserved : goal.loop-result-preserved
loop-result-preserved c =
    let below : c.loop-result.result-index < length c.args.results.now = omega arith in
    c.loop-result.invariant ∙ passed_on c.args.results.now c.loop-result.result-index c.result-item.result below c.result-item.is c.if-not-result.false

pub returns-clause-status : goal.returns-clause-status
returns-clause-status c =
    let past : length c.args.results.now ≤ c.loop-result.result-index = omega arith in
    sym (c.loop-result.invariant ∙ none_left c.args.results.now c.loop-result.result-index past)
