use Rattle.std.proofs.Common.{option_map, ap, sym, ◌∙◌}
use Rattle.cel_value.specs.Keys.{key_view}
use Rattle.cel_value.specs.View.{view}
use Rattle.kube_functions_lists.specs.Hashed.{among}
use Rattle.kube_functions_lists.proofs.Hashed.{knows_key, knows_other}
use Rattle.kube_functions_lists.proofs.keyed.Known.add_new.Goals as goal

pub returns-in_ok-insert-in-Some-clause-known : goal.returns-in_ok-insert-in-Some-clause-known
returns-in_ok-insert-in-Some-clause-known c =
    knows_key c.args.self.now.keys c.insert.new.self c.args.self.now.others c.in-Some.key (view c.args.value.now)
    (ap (option_map key_view) (sym c.in-Some.is) ∙ c.in_ok-key.ensures.value) c.in_ok-insert-in-Some.ensures.updates (among c.args.items.now) c.requires

pub returns-in_ok-insert-in-None-clause-known : goal.returns-in_ok-insert-in-None-clause-known
returns-in_ok-insert-in-None-clause-known c =
    knows_other c.args.self.now.keys c.args.self.now.others c.insert-in-None.new.self c.hash.result c.args.value
    (ap (option_map key_view) (sym c.in-None.is) ∙ c.in_ok-key.ensures.value) c.hash.ensures c.in_ok-insert-in-None.ensures.updates (among c.args.items.now) c.requires
