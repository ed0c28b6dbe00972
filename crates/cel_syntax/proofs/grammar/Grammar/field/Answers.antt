use Rattle.cel_syntax.specs.Parser as spec
use Rattle.cel_syntax.proofs.grammar.Grammar.field.Goals as goal

pub returns-in-Some-Word : goal.returns-in-Some-Word
unfolding spec.field
returns-in-Some-Word g c =
    let e = rw c.in-Some-Word.field-0-is at c.in-Some-Word.ensures.token in
    rw e c.selection_or_method.ensures
