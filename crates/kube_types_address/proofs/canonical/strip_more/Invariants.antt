use Rattle.std.proofs.Common.{◌≡◌, drop}
use Rattle.kube_types_address.specs.Matching.{rest_after, more_text}
use Rattle.kube_types_address.proofs.canonical.strip_more.Given as goal

abbrev pub invariant-loop-group : goal.invariant-loop-group
invariant-loop-group l = rest_after (more_text (drop l.group-index l.groups)) l.rest ≡ rest_after (more_text l.groups) l.text
