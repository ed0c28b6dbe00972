use Rattle.std.proofs.Common.{◌≡◌, true, refl, sym, ◌∙◌}
use Rattle.semver.specs.Order.{is_numeric, strip_zeros}
use Rattle.kube_types.proofs.Version.Texts.{trimmed_zeros}
use Rattle.kube_types.proofs.versions.order.build_key.Goals as goal

pub returns-then-is_numeric-clause-text : goal.returns-then-is_numeric-clause-text
returns-then-is_numeric-clause-text c =
    let numeric : is_numeric c.args.part.now ≡ true = sym c.is_numeric.ensures ∙ c.if-is_numeric.true in
    let left : strip_zeros c.args.part.now ≡ c.trim_start_matches-number.result.now = trimmed_zeros c.args.part.now c.trim_start_matches-number.result.now c.trim_start_matches-number.ensures.matches in
    rw numeric (sym left)

pub returns-then-is_numeric-clause-digits : goal.returns-then-is_numeric-clause-digits
returns-then-is_numeric-clause-digits c =
    let numeric : is_numeric c.args.part.now ≡ true = sym c.is_numeric.ensures ∙ c.if-is_numeric.true in
    let left : strip_zeros c.args.part.now ≡ c.trim_start_matches-number.result.now = trimmed_zeros c.args.part.now c.trim_start_matches-number.result.now c.trim_start_matches-number.ensures.matches in
    rw (numeric, left) refl
