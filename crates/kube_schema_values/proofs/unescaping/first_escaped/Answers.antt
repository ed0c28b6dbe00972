use Rattle.std.proofs.Common.{codes, lit<}
use Rattle.kube_schema_values.proofs.Fronts.{prefix_before, shorter, reads_underscores, reads_dot, reads_dash, reads_slash, kept}
use Rattle.kube_schema_values.proofs.unescaping.first_escaped.Goals as goal

pub returns-in-Some : goal.returns-in-Some
returns-in-Some c =
    let is = prefix_before (codes "__underscores__") c.args.text.now c.in-Some.rest.now c.in-Some.ensures.cases in
    (reads_underscores c.args.text.now c.in-Some.rest.now is, shorter (codes "__underscores__") c.args.text.now c.in-Some.rest.now is (lit< tt))

pub returns-in-Some-strip_prefix : goal.returns-in-Some-strip_prefix
returns-in-Some-strip_prefix c =
    let is = prefix_before (codes "__dot__") c.args.text.now c.in-Some-strip_prefix.rest.now c.in-Some-strip_prefix.ensures.cases in
    (reads_dot c.args.text.now c.in-Some-strip_prefix.rest.now is, shorter (codes "__dot__") c.args.text.now c.in-Some-strip_prefix.rest.now is (lit< tt))

pub returns-in-Some-strip_prefix-2 : goal.returns-in-Some-strip_prefix-2
returns-in-Some-strip_prefix-2 c =
    let is = prefix_before (codes "__dash__") c.args.text.now c.in-Some-strip_prefix-2.rest.now c.in-Some-strip_prefix-2.ensures.cases in
    (reads_dash c.args.text.now c.in-Some-strip_prefix-2.rest.now is, shorter (codes "__dash__") c.args.text.now c.in-Some-strip_prefix-2.rest.now is (lit< tt))

pub returns-in-Some-strip_prefix-3 : goal.returns-in-Some-strip_prefix-3
returns-in-Some-strip_prefix-3 c =
    let is = prefix_before (codes "__slash__") c.args.text.now c.in-Some-strip_prefix-3.rest.now c.in-Some-strip_prefix-3.ensures.cases in
    (reads_slash c.args.text.now c.in-Some-strip_prefix-3.rest.now is, shorter (codes "__slash__") c.args.text.now c.in-Some-strip_prefix-3.rest.now is (lit< tt))

pub returns : goal.returns
returns c = kept c.args.text.now c.in_default.ensures.cases c.in_default-strip_prefix.ensures.cases c.in_default-strip_prefix-2.ensures.cases c.in_default-strip_prefix-3.ensures.cases
