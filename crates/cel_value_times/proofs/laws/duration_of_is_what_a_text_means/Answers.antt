use Rattle.cel_value_times.proofs.TextFunctionLemmas.{duration_law}
use Rattle.cel_value_times.proofs.laws.duration_of_is_what_a_text_means.Goals as goal

pub returns : goal.returns
returns c = duration_law
