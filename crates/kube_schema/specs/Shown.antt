-- Trusted by the headline.
-- The tree of a compiled schema.
use Rattle.kube_schema.specs.declared.node.CompiledSchema.{CompiledSchema}
use Rattle.kube_schema.specs.declared.node.SchemaNode.{SchemaNode}
use Rattle.kube_schema.specs.declared.node_keywords.NodeKeywords.{Ghosts}
use Rattle.kube_schema.specs.Tree.{Node}
use Rattle.kube_schema.specs.Raw.{tree}

-- g says which keywords are those that a table keeps as a K
module _ {K : Type 0} {g : Ghosts K} where
  unfoldable pub node_tree : SchemaNode K g → Node
  node_tree n = tree g.own n.schema.now.table.nodes.items n.number.0

  -- the tree of the root
  unfoldable pub whole : CompiledSchema K g → Node
  whole s = tree g.own s.table.nodes.items 0
