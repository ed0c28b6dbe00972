use Rattle.cel_value.specs.View.{entries_view}
use Rattle.kube_cel_vap.proofs.Entries.{all_inserted}
use Rattle.kube_cel_vap.proofs.value.versioned_value.Goals as goal
use Rattle.std.proofs.Common.{ap}

pub put_versioned-inserted-requires : goal.put_versioned-inserted-requires
put_versioned-inserted-requires c = ap entries_view c.new-entries.ensures.empty

pub returns-clause-value : goal.returns-clause-value
returns-clause-value c = all_inserted c.put_versioned-inserted.result c.map_value.result _ _ c.map_value.ensures.value c.put_versioned-inserted.ensures.entered
