use Rattle.cel_value_times.proofs.TextFunctionLemmas.{timestamp_law}
use Rattle.cel_value_times.proofs.laws.timestamp_of_is_what_a_text_means.Goals as goal

pub returns : goal.returns
returns c = timestamp_law
