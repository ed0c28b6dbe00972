use Rattle.std.proofs.Common.{◌∙◌}
use Rattle.cel_value.proofs.KeyOrder.{texts_equal}
use Rattle.cel_value.proofs.key.KeyPartialEq.eq.Goals as goal

pub returns-in-String-String : goal.returns-in-String-String
returns-in-String-String c =
    let a = c.in-String-String.a in
    let b = c.in-String-String.b in
    c.is_same.ensures
    ∙ texts_equal c.args.self.now c.args.other.now a b c.in-String-String.is-0 c.in-String-String.is-1
