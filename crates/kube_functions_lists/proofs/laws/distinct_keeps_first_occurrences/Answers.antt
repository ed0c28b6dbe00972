use Rattle.kube_functions_lists.proofs.Occurrences.{first_kept, each_once, next_kept}
use Rattle.kube_functions_lists.proofs.laws.distinct_keeps_first_occurrences.Goals as goal

pub returns-clause-first : goal.returns-clause-first
returns-clause-first c = first_kept

pub returns-clause-once : goal.returns-clause-once
returns-clause-once c = each_once

pub returns-clause-next : goal.returns-clause-next
returns-clause-next c = next_kept
