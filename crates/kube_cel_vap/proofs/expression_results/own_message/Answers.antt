use Rattle.kube_cel_vap.proofs.Results.{own_given, own_made}
use Rattle.kube_cel_vap.proofs.expression_results.own_message.Goals as goal
use Rattle.kube_cel_vap.specs.Expressions.{compiled_view}
use Rattle.std.proofs.Common.{option_map, string_bytes, ap}

pub returns-in-Some : goal.returns-in-Some
returns-in-Some c =
    own_given (compiled_view c.args.compiled.now) (string_bytes c.in-Some.message) (string_bytes c.in_ok-copied.copied)
    (ap (option_map string_bytes) c.in-Some.is) c.in_ok-copied.ensures.cases

pub returns : goal.returns
returns c =
    own_made (compiled_view c.args.compiled.now) (string_bytes c.in_ok-made.made) c.text-text.result.now
    (ap (option_map string_bytes) c.in_default.is) c.in_ok-made.ensures.ok c.text-text.ensures
