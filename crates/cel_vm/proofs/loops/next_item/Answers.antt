use Rattle.cel_vm.specs.State.{at_end, values_of, pending_of, loops_of}
use Rattle.cel_vm.proofs.Rounds.{next_inside}
use Rattle.cel_vm.proofs.loops.next_item.Goals as goal

pub returns-then-go_on : goal.returns-then-go_on
returns-then-go_on c = record {
  value = λ body k ab l ls a o s f.
      let t = c.args.stacks.now in
      next_inside (at_end c.args.rule k l.results) c.args.pc body k l (values_of t) ab (pending_of t) ls _ (loops_of t) o c.if-go_on.ensures s f a;
}
