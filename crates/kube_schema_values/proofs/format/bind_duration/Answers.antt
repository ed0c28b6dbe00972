use Rattle.std.proofs.Common.{◌∙◌}
use Rattle.kube_schema_values.proofs.Read.{lasting_read, lasting_unread, view_duration}
use Rattle.kube_schema_values.proofs.format.bind_duration.Goals as goal

pub returns-in-Some-clause-value : goal.returns-in-Some-clause-value
returns-in-Some-clause-value c = view_duration c.in-Some.duration ∙ lasting_read c.args.chars.now c.in-Some.duration.nanoseconds c.in-Some.ensures.function

pub returns-in_ok-plain-in-None-clause-value : goal.returns-in_ok-plain-in-None-clause-value
returns-in_ok-plain-in-None-clause-value c = c.in_ok-plain-in-None.ensures.value ∙ lasting_unread c.args.chars.now c.in-None.ensures.function
