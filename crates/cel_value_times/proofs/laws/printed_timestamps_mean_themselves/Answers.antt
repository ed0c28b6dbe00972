use Rattle.cel_value_times.proofs.PrintLemmas.{timestamp_round}
use Rattle.cel_value_times.proofs.laws.printed_timestamps_mean_themselves.Goals as goal

pub returns : goal.returns
returns c = timestamp_round
