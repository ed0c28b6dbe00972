use Rattle.std.proofs.Common.{lit<}
use Rattle.std.proofs.lemmas.Str.Pattern.{strip_prefix_char, strip_suffix_char}
use Rattle.std.specs.Prelude.{Some, None}
use Rattle.kube_types.proofs.Url.Hosts.{no_first_bracket, no_last_bracket}
use Rattle.kube_types.proofs.urls.parts.without_brackets.Goals as goal

pub returns-in_default : goal.returns-in_default
returns-in_default c = λ inner e. no_first_bracket c.args.host.now inner (strip_prefix_char 91 c.args.host.now None c.in_default.ensures.cases (lit< tt)) e

pub returns-in_default-strip_suffix : goal.returns-in_default-strip_suffix
returns-in_default-strip_suffix c = λ inner e.
    let rest = c.in-Some.rest in
    let first = strip_prefix_char 91 c.args.host.now (Some rest) c.in-Some.ensures.cases (lit< tt) in
    let none = strip_suffix_char 93 rest.now None c.in_default-strip_suffix.ensures.cases (lit< tt) in
    no_last_bracket c.args.host.now rest.now inner first none e
