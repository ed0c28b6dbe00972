use Rattle.std.proofs.Common.{◌∙◌, ap, option_map}
use Rattle.cel_value.specs.View.{view}
use Rattle.cel_semantics.proofs.Lookups.{view-lookup, view_of_ref}
use Rattle.cel_semantics.proofs.names.mapped.Goals as goal

pub returns : goal.returns
returns c = view_of_ref _ ∙ ap (option_map view) c.get.ensures.value ∙ view-lookup c.args.name.now c.args.names.now.entries
