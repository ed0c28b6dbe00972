use Rattle.std.proofs.Common.{option_map, ap, sym, ◌∙◌}
use Rattle.cel_value.specs.Keys.{key_view}
use Rattle.cel_value.specs.View.{view}
use Rattle.kube_functions_lists.proofs.Hashed.{knows_key, knows_other}
use Rattle.kube_functions_lists.proofs.keyed.Known.add.Goals as goal

pub returns-in_ok-insert-in-Some : goal.returns-in_ok-insert-in-Some
returns-in_ok-insert-in-Some c = record {
  known =
      knows_key c.args.self.now.keys c.insert.new.self c.args.self.now.others c.in-Some.key (view c.args.value.now)
      (ap (option_map key_view) (sym c.in-Some.is) ∙ c.in_ok-key.ensures.value) c.in_ok-insert-in-Some.ensures.updates;
}

pub returns-in_ok-insert-in-None : goal.returns-in_ok-insert-in-None
returns-in_ok-insert-in-None c = record {
  known =
      knows_other c.args.self.now.keys c.args.self.now.others c.insert-in-None.new.self c.hash.result c.args.value
      (ap (option_map key_view) (sym c.in-None.is) ∙ c.in_ok-key.ensures.value) c.hash.ensures c.in_ok-insert-in-None.ensures.updates;
}
