use Rattle.std.proofs.Common.{◌<◌, sym, ap, ◌∙◌, subst}
use Rattle.kube_schema.specs.Source.{source_own}
use Rattle.kube_schema.specs.Tree.{count}
use Rattle.kube_schema.proofs.Kept.{same_length, same_tree}
use Rattle.kube_schema.proofs.compile.read_schema.Goals as goal

pub schema_of-requires-clause-rooted : goal.schema_of-requires-clause-rooted
schema_of-requires-clause-rooted g c = subst (λ n. 0 < n) (sym (same_length source_own g.K.NodeKeywords.own _ _ c.in_ok-table.ensures.same)) c.in_ok-source.ensures.rooted

pub schema_of-requires-clause-counted : goal.schema_of-requires-clause-counted
schema_of-requires-clause-counted g c =
    same_length source_own g.K.NodeKeywords.own _ _ c.in_ok-table.ensures.same ∙ c.in_ok-source.ensures.counted ∙ sym (ap count (same_tree source_own g.K.NodeKeywords.own _ _ c.in_ok-table.ensures.same 0))

pub returns-clause-tree : goal.returns-clause-tree
returns-clause-tree g c = c.in_ok-compiled.ensures ∙ same_tree source_own g.K.NodeKeywords.own _ _ c.in_ok-table.ensures.same 0 ∙ c.in_ok-source.ensures.tree
