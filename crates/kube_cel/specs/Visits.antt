-- Trusted by laws alone.
-- The same place in another form of a schema.
use Rattle.kube_schema.specs.Visit.{Visit, visit}

-- a visit, with its node replaced by the node of another form
abbrev pub with_node_of : {S T : Type 0} → (S → T) → Visit S → Visit T
with_node_of f s = visit (f s.node) s.value s.old s.root s.path s.depth
