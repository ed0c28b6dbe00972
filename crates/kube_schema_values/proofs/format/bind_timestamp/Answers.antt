use Rattle.std.proofs.Common.{◌∙◌}
use Rattle.cel_value.specs.Instants.{instant}
use Rattle.kube_schema_values.proofs.Read.{timed_read, timed_unread, view_timestamp}
use Rattle.kube_schema_values.proofs.format.bind_timestamp.Goals as goal

pub returns-in-Some-clause-value : goal.returns-in-Some-clause-value
returns-in-Some-clause-value c = view_timestamp c.in-Some.timestamp ∙ timed_read c.args.chars.now (instant c.in-Some.timestamp) c.in-Some.timestamp.offset_minutes c.in-Some.ensures.function

pub returns-in_ok-plain-in-None-clause-value : goal.returns-in_ok-plain-in-None-clause-value
returns-in_ok-plain-in-None-clause-value c = c.in_ok-plain-in-None.ensures.value ∙ timed_unread c.args.chars.now c.in-None.ensures.function
