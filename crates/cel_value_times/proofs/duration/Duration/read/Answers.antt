use Rattle.cel_value_times.proofs.TextFunctionLemmas.{duration_function}
use Rattle.cel_value_times.proofs.duration.Duration.read.Goals as goal

pub returns-clause-found : goal.returns-clause-found
returns-clause-found c = rw c.as_bytes.ensures.value at c.read.ensures.found

pub returns-clause-only : goal.returns-clause-only
returns-clause-only c = rw c.as_bytes.ensures.value at c.read.ensures.only

pub returns-clause-function : goal.returns-clause-function
returns-clause-function c = duration_function c.args.text.now c.read.result (rw c.as_bytes.ensures.value at c.read.ensures.found) (rw c.as_bytes.ensures.value at c.read.ensures.only)
