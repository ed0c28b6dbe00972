use Rattle.cel_semantics.specs.Outcome.{outcome_view}
use Rattle.cel_vm.proofs.Tops.{rest_is}
use Rattle.cel_vm.proofs.stack.drop_answer.Goals as goal

pub returns-then-count-gt0 : goal.returns-then-count-gt0
returns-then-count-gt0 c = λ r vs h. rest_is outcome_view c.args.values.now.items c.take_last.new.self.items c.take_last.result r vs c.take_last.ensures.items h
