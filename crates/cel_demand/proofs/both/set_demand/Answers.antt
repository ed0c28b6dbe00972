use Rattle.cel_demand.proofs.Views.{set_there}
use Rattle.cel_demand.proofs.both.set_demand.Goals as goal

pub returns : goal.returns
returns c = λ name part joined place same.
    set_there name part joined c.args.members.now.items c.args.index c.index_mut.result.now c.args.demand place c.index_mut.ensures.value (same c.index_mut.result.now c.index_mut.ensures.value)
