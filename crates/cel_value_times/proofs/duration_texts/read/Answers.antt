use Rattle.std.proofs.Common.{sym}
use Rattle.cel_value_times.proofs.DurationLemmas.{backward_found, backward_answers, backward_nothing, forward_found, forward_answers}
use Rattle.cel_value_times.proofs.duration_texts.read.Goals as goal

pub returns-in_err-magnitude-in-Some-clause-only : goal.returns-in_err-magnitude-in-Some-clause-only
returns-in_err-magnitude-in-Some-clause-only c = λ n h. absurd (backward_nothing c.args.text.now c.in-Some.rest.now (sym c.in-Some.ensures) c.in_err-magnitude-in-Some.ensures.only n h)

pub returns-in_ok-magnitude-in-Some-clause-found : goal.returns-in_ok-magnitude-in-Some-clause-found
returns-in_ok-magnitude-in-Some-clause-found c =
    backward_found c.args.text.now c.in-Some.rest.now c.in_ok-magnitude-in-Some.field-0 c.backward.result (sym c.in-Some.ensures) c.in_ok-magnitude-in-Some.ensures.found c.backward.ensures.succeeds c.backward.ensures.value

pub returns-in_ok-magnitude-in-Some-clause-only : goal.returns-in_ok-magnitude-in-Some-clause-only
returns-in_ok-magnitude-in-Some-clause-only c =
    backward_answers c.args.text.now c.in-Some.rest.now c.in_ok-magnitude-in-Some.field-0 c.backward.result (sym c.in-Some.ensures) c.in_ok-magnitude-in-Some.ensures.only c.backward.ensures.succeeds c.backward.ensures.value

pub returns-in_ok-magnitude-in-None-clause-found : goal.returns-in_ok-magnitude-in-None-clause-found
returns-in_ok-magnitude-in-None-clause-found c =
    forward_found c.args.text.now c.in_ok-magnitude-in-None.field-0 c.forward.result c.in_ok-magnitude-in-None.ensures.found c.forward.ensures.succeeds c.forward.ensures.value

pub returns-in_ok-magnitude-in-None-clause-only : goal.returns-in_ok-magnitude-in-None-clause-only
returns-in_ok-magnitude-in-None-clause-only c =
    forward_answers c.args.text.now c.in_ok-magnitude-in-None.field-0 c.forward.result (sym c.in-None.ensures) c.in_ok-magnitude-in-None.ensures.only c.forward.ensures.succeeds c.forward.ensures.value
