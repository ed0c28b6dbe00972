use Rattle.std.proofs.Common.{option_map, ap, ◌∙◌}
use Rattle.serde_json.proofs.Views.{view-lookup}
use Rattle.serde_json.specs.View.{view}
use Rattle.kube_schema_parts.proofs.Bound.{copied}
use Rattle.kube_schema_parts.proofs.parts.member_of.Goals as goal

pub returns : goal.returns
returns c = copied c.get.result ∙ ap (option_map view) c.get.ensures.value ∙ view-lookup c.args.name.now c.args.object.now.entries
