use Rattle.cel_value_times.proofs.LawLemmas.{one_meaning}
use Rattle.cel_value_times.proofs.laws.a_text_means_one_timestamp.Goals as goal

pub returns : goal.returns
returns c = one_meaning
