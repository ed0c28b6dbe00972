use Rattle.std.proofs.Common.{lit<, refl, inl, inr}
use Rattle.std.proofs.lemmas.Str.Pattern.{strip_prefix_char}
use Rattle.std.specs.Prelude.{Some, None}
use Rattle.kube_types.proofs.Version.Texts.{without_v-kept, without_v-dropped}
use Rattle.kube_types.proofs.versions.reading.without_v.Goals as goal

pub returns-in-Some : goal.returns-in-Some
returns-in-Some c =
    let text = c.args.text.now in
    let found = strip_prefix_char 118 text (Some c.in-Some.rest) c.in-Some.ensures.cases (lit< tt) in
    without_v-dropped text c.in-Some.rest.now 118 (inl refl) found

pub returns-in-Some-strip_prefix : goal.returns-in-Some-strip_prefix
returns-in-Some-strip_prefix c =
    let text = c.args.text.now in
    let found = strip_prefix_char 86 text (Some c.in-Some-strip_prefix.rest) c.in-Some-strip_prefix.ensures.cases (lit< tt) in
    without_v-dropped text c.in-Some-strip_prefix.rest.now 86 (inr refl) found

pub returns : goal.returns
returns c =
    let text = c.args.text.now in
    let small = strip_prefix_char 118 text None c.in_default.ensures.cases (lit< tt) in
    let capital = strip_prefix_char 86 text None c.in_default-strip_prefix.ensures.cases (lit< tt) in
    without_v-kept text small capital
