use Rattle.std.proofs.Common.{codes, option_map, sym, ap}
use Rattle.cel.specs.Demand.{part_of}
use Rattle.kube_schema_rules.specs.Compilation.{compiled_seen, error_view, result_view}
use Rattle.kube_schema_rules.proofs.RulesRead.{compiled_read, malformed_read}
use Rattle.kube_schema_rules.proofs.demands.with_rule.Goals as goal

pub returns-in-Err-clause-value : goal.returns-in-Err-clause-value
returns-in-Err-clause-value c = malformed_read (codes "self") (compiled_seen c.args.rule.now) (error_view c.in-Err._error) (option_map part_of c.args.demands.value) (ap compiled_seen (sym c.in-Err.is))

pub returns-in-Err-clause-old : goal.returns-in-Err-clause-old
returns-in-Err-clause-old c = malformed_read (codes "oldSelf") (compiled_seen c.args.rule.now) (error_view c.in-Err._error) (option_map part_of c.args.demands.old) (ap compiled_seen (sym c.in-Err.is))

pub returns-in_ok-more-in-Ok-clause-value : goal.returns-in_ok-more-in-Ok-clause-value
returns-in_ok-more-in-Ok-clause-value c =
    compiled_read (codes "self") (compiled_seen c.args.rule.now) (result_view c.in-Ok.rule) (option_map part_of c.in-Ok.rule.demands.value) (option_map part_of c.in_ok-more-in-Ok.more.value) (option_map part_of c.args.demands.value)
    (ap compiled_seen (sym c.in-Ok.is)) c.in-Ok.rule.value_read c.in_ok-more-in-Ok.ensures.value

pub returns-in_ok-more-in-Ok-clause-old : goal.returns-in_ok-more-in-Ok-clause-old
returns-in_ok-more-in-Ok-clause-old c =
    compiled_read (codes "oldSelf") (compiled_seen c.args.rule.now) (result_view c.in-Ok.rule) (option_map part_of c.in-Ok.rule.demands.old) (option_map part_of c.in_ok-more-in-Ok.more.old) (option_map part_of c.args.demands.old)
    (ap compiled_seen (sym c.in-Ok.is)) c.in-Ok.rule.old_read c.in_ok-more-in-Ok.ensures.old
