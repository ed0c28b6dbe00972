use Rattle.cel_syntax.proofs.Trees.{none_derives}
use Rattle.cel_syntax.proofs.reading.parse.Goals as goal

pub returns-in-None-clause-grammar : goal.returns-in-None-clause-grammar
returns-in-None-clause-grammar c =
    let e = rw c.in-None.is at c.in_ok-tree.ensures in
    none_derives c.args.text.now (rw (← c.as_bytes.ensures.value) e)
