use Rattle.std.proofs.Common.{sym, ◌∙◌}
use Rattle.std.proofs.lemmas.Result.{on_ok_weaker}
use Rattle.std.specs.BTreeSet.{contains_text}
use Rattle.cel_syntax.specs.Bound.{bound_names}
use Rattle.cel_syntax.proofs.Sets.{bound_adds_nothing, other_adds_itself}
use Rattle.cel_syntax.proofs.variables.add_unbound.Goals as goal

pub returns-then-has : goal.returns-then-has
returns-then-has c = record {
  added = λ x.
      bound_adds_nothing c.args.name.now x (bound_names c.args.bound.now) (contains_text c.args.names.now x) (sym c.has.ensures ∙ c.if-has.true);
}

pub returns : goal.returns
returns c = record {
  added = on_ok_weaker c.add.result
      (λ h x. other_adds_itself c.args.name.now x (bound_names c.args.bound.now) (contains_text c.args.names.now x) (contains_text c.add.new.names x) (sym c.has.ensures ∙ c.if-has.false) (h x)) c.add.ensures.added;
}
