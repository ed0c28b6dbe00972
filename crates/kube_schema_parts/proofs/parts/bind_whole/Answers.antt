use Rattle.std.proofs.Common.{option_map}
use Rattle.serde_json.specs.View.{view as json_view}
use Rattle.cel_value.specs.View.{view}
use Rattle.kube_schema_values.specs.Conversion.{levels}
use Rattle.kube_schema_parts.proofs.Bound.{scalar_bound}
use Rattle.kube_schema_parts.proofs.parts.bind_whole.Goals as goal

pub returns-in-Some-clause-value : goal.returns-in-Some-clause-value
returns-in-Some-clause-value g c =
    scalar_bound g.N.Node.accessors (levels c.args.depth) (option_map g.N.Node.seen c.args.node) (json_view c.args.value.now) (view c.in-Some.scalar) c.in-Some.ensures
