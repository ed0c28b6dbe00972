use Rattle.std.proofs.Common.{option_map}
use Rattle.cel_value.specs.Faults.{fault_view}
use Rattle.cel_vm.proofs.Tops.{is_empty}
use Rattle.cel_vm.proofs.stack.keeps_none.Goals as goal

pub returns : goal.returns
returns c = is_empty (option_map fault_view) c.args.absorbed.now.items _ c.is_empty.result c.args.absorbed.now.ok.0 c.is_empty.ensures
