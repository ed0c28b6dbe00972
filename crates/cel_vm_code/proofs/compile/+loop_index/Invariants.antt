use Rattle.std.proofs.Common.{length}
use Rattle.cel_vm_code.proofs.compile.+loop_index.Given as goal

abbrev pub decreases-loop_index : goal.decreases-loop_index
decreases-loop_index l = length l.names.now
