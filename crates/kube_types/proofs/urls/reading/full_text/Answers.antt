use Rattle.std.proofs.Common.{◌≡◌, true, false, lit<, sym, ◌∙◌}
use Rattle.kube_types.specs.Url.Reading.{is_path}
use Rattle.kube_types.proofs.Url.Parsed.{full_path, full_other}
use Rattle.kube_types.proofs.urls.reading.full_text.Goals as goal

pub returns-in_ok-format : goal.returns-in_ok-format
returns-in_ok-format c = record {
  answer =
      let flag : is_path c.args.text.now ≡ true = sym (c.starts_with.ensures.byte (lit< tt) (lit< tt) (λ w o x. x)) ∙ c.if-starts_with.true in
      c.in_ok-format.ensures.ok ∙ full_path c.args.text.now flag;
}

pub returns-in_ok-from_str : goal.returns-in_ok-from_str
returns-in_ok-from_str c = record {
  answer =
      let flag : is_path c.args.text.now ≡ false = sym (c.starts_with.ensures.byte (lit< tt) (lit< tt) (λ w o x. x)) ∙ c.if-starts_with.false in
      c.in_ok-from_str.ensures.ok ∙ full_other c.args.text.now flag;
}
