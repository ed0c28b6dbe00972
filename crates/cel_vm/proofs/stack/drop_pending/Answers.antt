use Rattle.std.proofs.Common.{option_map}
use Rattle.cel_value.specs.Faults.{fault_view}
use Rattle.cel_vm.proofs.Tops.{rest_is}
use Rattle.cel_vm.proofs.stack.drop_pending.Goals as goal

pub returns-then-count-gt0 : goal.returns-then-count-gt0
returns-then-count-gt0 c = λ k ks h. rest_is (option_map fault_view) c.args.absorbed.now.items c.take_last.new.self.items c.take_last.result k ks c.take_last.ensures.items h
