use Rattle.std.proofs.Common.{arith, rules, ◌≡◌, sym, subst}
use Rattle.kube_functions_strings.specs.Cuts.{IsPast}
use Rattle.kube_functions_strings.proofs.After.{past_none, past_more, past_end}
use Rattle.kube_functions_strings.proofs.cuts.past_characters.Goals as goal

pub loop-offset-init : goal.loop-offset-init
loop-offset-init c = record {
  next = search rules;
  past = past_none c.args.text.now c.chars-characters.result.rest.now c.utf8.text c.chars-characters.ensures.rest;
}

pub loop-offset-preserved : goal.loop-offset-preserved
loop-offset-preserved c = record {
  next = search rules;
  past = past_more c.args.text.now c.loop-offset.characters.rest.now c.next.new.self.rest.now c.loop-offset.offset c.in-Some.field-0 c.loop-offset.invariant.past c.in-Some.ensures.steps.0;
}

pub returns-in_default : goal.returns-in_default
returns-in_default c =
    past_end c.args.text.now c.loop-offset.characters.rest.now c.loop-offset.offset c.args.count c.loop-offset.invariant.past c.in_default.ensures.steps.0.0 (omega arith)

pub returns : goal.returns
returns c =
    let e : c.loop-offset.offset ≡ c.args.count = omega arith in
    subst (λ r. IsPast c.args.text.now c.args.count r) (sym c.as_str.ensures) (subst (λ k. IsPast c.args.text.now k c.loop-offset.characters.rest.now) e c.loop-offset.invariant.past)
