use Rattle.std.specs.BTreeMap.{get_by_text}
use Rattle.std.specs.Option.{option_map}
use Rattle.kube_types.specs.Url.Shown.{texts}
use Rattle.kube_types.proofs.Url.Queries.{no_values, values_step}
use Rattle.kube_types.proofs.urls.query.grouped.Goals as goal

pub loop-name-init : goal.loop-name-init
loop-name-init c = λ other. no_values c.new-query.result other c.new-query.ensures.empty

pub loop-name-preserved : goal.loop-name-preserved
loop-name-preserved c = λ other.
    values_step c.loop-name.yielded c.in-Some.name c.in-Some.value other (option_map texts (get_by_text c.loop-name.query other)) (option_map texts (get_by_text c.add_value.new.query other))
    (c.loop-name.invariant other) (c.in_ok-add_value.ensures.answer other)
