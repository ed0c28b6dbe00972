use Rattle.std.proofs.Common.{◌≡◌, Some, lit<, ap, ◌∙◌}
use Rattle.kube_types.specs.Url.Reading.{is_path}
use Rattle.kube_types.proofs.Url.Parsed.{read_some, read_none}
use Rattle.kube_types.proofs.urls.kube_url.KubeUrl.read.Goals as goal

pub returns-in-Some : goal.returns-in-Some
returns-in-Some c =
    let text = c.args.text.now in
    let flag : c.starts_with-is_path.result ≡ is_path text = c.starts_with-is_path.ensures.byte (lit< tt) (lit< tt) (λ w o x. x) in
    let full = c.as_str.ensures.value ∙ c.in_ok-full.ensures.answer in
    record { url = ap Some c.in_ok-of_url-in-Some.ensures.answer ∙ read_some text c.as_str.result.now c.in_ok-url.field-0 c.in-Some.url c.starts_with-is_path.result full flag c.in_ok-url.ensures.url c.in-Some.is; large = tt }

pub returns : goal.returns
returns c =
    let full = c.as_str.ensures.value ∙ c.in_ok-full.ensures.answer in
    record { url = read_none c.args.text.now c.as_str.result.now c.in_ok-url.field-0 full c.in_ok-url.ensures.url c.in-None.is; large = tt }
