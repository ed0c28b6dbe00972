use Rattle.cel_value_times.proofs.LawLemmas.{one_printed}
use Rattle.cel_value_times.proofs.laws.a_timestamp_has_one_printed_text.Goals as goal

pub returns : goal.returns
returns c = one_printed
