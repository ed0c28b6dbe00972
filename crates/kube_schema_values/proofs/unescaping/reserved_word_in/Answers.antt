use Rattle.std.proofs.Common.{codes, sym, ◌∙◌, true, false}
use Rattle.kube_schema_values.proofs.Fronts.{prefix_before, suffix_after, no_front, no_end, word_is_inner, form_is}
use Rattle.kube_schema_values.proofs.unescaping.reserved_word_in.Goals as goal

pub returns-in_default : goal.returns-in_default
returns-in_default c = no_front c.args.text.now c.in_default.ensures.cases

pub returns-in_default-strip_suffix : goal.returns-in_default-strip_suffix
returns-in_default-strip_suffix c =
    no_end c.args.text.now c.in-Some.after.now (prefix_before (codes "__") c.args.text.now c.in-Some.after.now c.in-Some.ensures.cases) c.in_default-strip_suffix.ensures.cases

pub returns-then-is_reserved : goal.returns-then-is_reserved
returns-then-is_reserved c =
    let t = c.args.text.now in
    let x = c.in-Some.after.now in
    let y = c.in-Some-strip_suffix.word.now in
    let front = prefix_before (codes "__") t x c.in-Some.ensures.cases in
    let end = suffix_after (codes "__") x y c.in-Some-strip_suffix.ensures.cases in
    (form_is t x y true front end (sym c.is_reserved.ensures ∙ c.if-is_reserved.true), word_is_inner t x y front end)

pub returns-else-is_reserved : goal.returns-else-is_reserved
returns-else-is_reserved c =
    let t = c.args.text.now in
    let x = c.in-Some.after.now in
    let y = c.in-Some-strip_suffix.word.now in
    let front = prefix_before (codes "__") t x c.in-Some.ensures.cases in
    let end = suffix_after (codes "__") x y c.in-Some-strip_suffix.ensures.cases in
    form_is t x y false front end (sym c.is_reserved.ensures ∙ c.if-is_reserved.false)
