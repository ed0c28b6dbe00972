use Rattle.cel_value_times.proofs.PrintLemmas.{duration_round}
use Rattle.cel_value_times.proofs.laws.printed_durations_mean_themselves.Goals as goal

pub returns : goal.returns
returns c = duration_round
