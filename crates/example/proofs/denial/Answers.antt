use Rattle.example.proofs.denial.Goals as goal
use Rattle.kube_cel.specs.Answers.{IsReportOf}
use Rattle.kube_cel.specs.Raw.{raw_accessors}
use Rattle.kube_cel.specs.Starts.{call_start}
use Rattle.std.proofs.Common.{None, subst}

-- the errors are those that `validate` returned, and the text is what they print
pub returns-in_ok-to_string-in-Err-clause-denied : goal.returns-in_ok-to_string-in-Err-clause-denied
returns-in_ok-to_string-in-Err-clause-denied c =
    let reported = subst (IsReportOf raw_accessors (call_start c.args.schema.now c.args.object.now None None)) c.in-Err.is c.in_ok-validate.ensures.answer in
    (c.in-Err.errors, reported, c.in_ok-to_string-in-Err.ensures.ok)
