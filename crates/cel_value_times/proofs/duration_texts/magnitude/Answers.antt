use Rattle.std.proofs.Common.{◌≡◌, ℕ, List, Some, sym, ap, subst}
use Rattle.std.specs.Prelude.{codes}
use Rattle.std.proofs.lemmas.Bool.{both_ways}
use Rattle.cel_value_times.specs.DurationTexts.{IsMagnitude}
use Rattle.cel_value_times.proofs.SumLemmas.{magnitude_only, bare_zero_only}
use Rattle.cel_value_times.proofs.duration_texts.magnitude.Goals as goal

pub returns-then-is_bare_zero-clause-only : goal.returns-then-is_bare_zero-clause-only
returns-then-is_bare_zero-clause-only c =
    let zero_text : c.args.text.now ≡ codes "0" = c.is_bare_zero.ensures.0 c.if-is_bare_zero.true in
    λ n h fits. ap (λ (m : ℕ). Some m) (sym (bare_zero_only n (subst (λ (t : List ℕ). IsMagnitude t n) zero_text h)))

pub returns-clause-only : goal.returns-clause-only
returns-clause-only c = λ n h fits.
    magnitude_only c.args.text.now n c.amounts.result (λ e. both_ways c.is_bare_zero.result c.if-is_bare_zero.false (c.is_bare_zero.ensures.1 e)) c.amounts.ensures.only h fits
