use Rattle.std.proofs.Common.{◌≡◌, Some, sym, ◌∙◌}
use Rattle.cel_value.specs.View.{view}
use Rattle.kube_functions_lists.specs.Hashed.{held_at}
use Rattle.kube_functions_lists.proofs.Hashed.{held_is_among}
use Rattle.kube_functions_lists.proofs.keyed.is_held.Goals as goal

pub returns-then-eq : goal.returns-then-eq
returns-then-eq c =
    let held : held_at c.args.others.now c.hash.result ≡ Some c.in-Some.held.now = sym c.in-Some.ensures.value in
    c.if-eq.true
    ∙ sym (held_is_among c.args.others.now c.args.items.now c.hash.result c.in-Some.held.now (view c.args.value.now) c.requires.held held (sym c.eq.ensures ∙ c.if-eq.true))
