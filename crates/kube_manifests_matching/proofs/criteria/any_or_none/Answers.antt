use Rattle.kube_manifests_matching.proofs.Blanks.{no_rules, some_rules}
use Rattle.kube_manifests_matching.proofs.criteria.any_or_none.Goals as goal
use Rattle.kube_manifests_matching.specs.Attributes.{attributes_view}
use Rattle.std.proofs.Common.{sym, ◌∙◌}

pub returns-then-is_empty : goal.returns-then-is_empty
returns-then-is_empty c =
    no_rules c.args.is_exact (attributes_view c.args.attributes.now) c.args.rules.now (sym c.is_empty.ensures ∙ c.if-is_empty.true)

pub returns : goal.returns
returns c =
    c.any_matches.ensures
    ∙ some_rules c.args.is_exact (attributes_view c.args.attributes.now) c.args.rules.now (sym c.is_empty.ensures ∙ c.if-is_empty.false)
