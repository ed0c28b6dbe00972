use Rattle.std.proofs.Common.{◌≡◌, Err, subst}
use Rattle.kube_server_parser.specs.Answers.{Reads}
use Rattle.kube_server_parser.specs.Texts.{TextDerives}
use Rattle.kube_server_parser.specs.declared.parser.Failure.TheVariants.{Wrong}
use Rattle.kube_server_parser.proofs.Cuts.{no_tree}
use Rattle.kube_server_parser.proofs.parser.parse.Goals as goal

pub returns-in-Err-Wrong-clause-grammar : goal.returns-in-Err-Wrong-clause-grammar
returns-in-Err-Wrong-clause-grammar c = λ t d.
    let v = c.as_bytes.ensures.value in
    let w = c.in-Err-Wrong.field-0-is in
    let same : c.args.text.now ≡ c.as_bytes.result.now = cc in
    let is : c.in-Err-Wrong.field-0 ≡ Wrong c.in-Err-Wrong.error = cc in
    no_tree c.as_bytes.result.now c.in-Err-Wrong.error t (subst (λ f. Reads c.as_bytes.result.now (Err f)) is c.in-Err-Wrong.ensures)
    (subst (λ z. TextDerives z t) same d)
