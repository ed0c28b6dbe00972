use Rattle.cel_value_times.proofs.TimestampLemmas.{read_found, read_only}
use Rattle.cel_value_times.proofs.TextFunctionLemmas.{timestamp_function}
use Rattle.cel_value_times.proofs.timestamp.Timestamp.read.Goals as goal

pub returns-clause-found : goal.returns-clause-found
returns-clause-found c = read_found c.args.text.now c.read_parts.result (rw c.as_bytes.ensures.value at c.read_parts.ensures)

pub returns-clause-only : goal.returns-clause-only
returns-clause-only c = read_only c.args.text.now c.read_parts.result (rw c.as_bytes.ensures.value at c.read_parts.ensures)

pub returns-clause-function : goal.returns-clause-function
returns-clause-function c = timestamp_function c.args.text.now c.read_parts.result (rw c.as_bytes.ensures.value at c.read_parts.ensures)
