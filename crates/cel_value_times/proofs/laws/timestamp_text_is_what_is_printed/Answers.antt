use Rattle.cel_value_times.proofs.TextFunctionLemmas.{printed_function}
use Rattle.cel_value_times.proofs.laws.timestamp_text_is_what_is_printed.Goals as goal

pub returns : goal.returns
returns c = printed_function
