use Rattle.cel_value_times.proofs.LawLemmas.{first_second, last_second}
use Rattle.cel_value_times.proofs.laws.the_range_is_the_years_1_to_9999.Goals as goal

pub returns-clause-first : goal.returns-clause-first
returns-clause-first c = first_second

pub returns-clause-last : goal.returns-clause-last
returns-clause-last c = last_second
