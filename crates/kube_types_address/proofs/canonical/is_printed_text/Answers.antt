use Rattle.std.proofs.Common.{◌∙◌, ap}
use Rattle.std.specs.Net.Text.{hex_groups_text}
use Rattle.kube_types_address.proofs.Matches.{whole_is}
use Rattle.kube_types_address.specs.Matching.{is_whole}
use Rattle.kube_types_address.proofs.canonical.is_printed_text.Goals as goal

pub returns : goal.returns
returns c = c.is_empty_rest.ensures ∙ ap is_whole c.strip_printed.ensures ∙ whole_is (hex_groups_text c.args.groups.now) c.args.text.now
