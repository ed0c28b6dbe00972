use Rattle.std.proofs.Common.{sym, ap}
use Rattle.kube_schema.specs.Tree.{own}
use Rattle.kube_schema.specs.Raw.{assemble, with_children, keywords_view}
use Rattle.kube_schema.proofs.node.SchemaNode.rules.Goals as goal

pub returns : goal.returns
unfolding assemble with_children keywords_view
returns c = sym (ap (λ n. (own n).validations) c.raw.ensures.is)
