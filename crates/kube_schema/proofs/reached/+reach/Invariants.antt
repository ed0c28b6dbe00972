use Rattle.std.proofs.Common.{◌+◌, ◌*◌}
use Rattle.kube_schema.proofs.reached.+reach.Given as goal

abbrev pub decreases-reach : goal.decreases-reach
decreases-reach g l = 3 * l.levels

abbrev pub decreases-reach_parts : goal.decreases-reach_parts
decreases-reach_parts g l = 3 * l.levels + 2

abbrev pub decreases-reach_members : goal.decreases-reach_members
decreases-reach_members g l = 3 * l.levels + 1

abbrev pub decreases-reach_items : goal.decreases-reach_items
decreases-reach_items g l = 3 * l.levels + 1

abbrev pub decreases-reach_branches : goal.decreases-reach_branches
decreases-reach_branches g l = 3 * l.levels + 1
