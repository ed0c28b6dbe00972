-- Scaffolding: only proofs and private clauses cite it.
-- What the functions of the code return, by the machine's state after a token.
use Rattle.std.specs.Prelude.{◌≡◌, ◌<◌, List, Option, Some, None, Result, Ok, Err}
use Rattle.kube_server_syntax.specs.Depth.{Within}
use Rattle.kube_server_syntax.specs.Grammar.{level}
use Rattle.kube_server_syntax.specs.Machine as machine
use Rattle.kube_server_syntax.specs.Tree.{Tree, tree}
use Rattle.kube_server_parser.specs.Views.{mode_view, frames_of}
use Rattle.kube_server_parser.specs.declared.expected.Expected.{Expected}
use Rattle.kube_server_parser.specs.declared.frame.Frame.{Frame}
use Rattle.kube_server_parser.specs.declared.mode.Mode.{Mode}
use Rattle.kube_server_parser.specs.declared.part.Part.{Part}
use Rattle.kube_server_parser.specs.declared.stop.Stop.{Stop}
use Rattle.kube_server_parser.specs.declared.stop.Stop.TheVariants.{Memory, TooDeep, Unexpected}

-- The state, if there is one, has a part that nests past the limit.
abbrev pub Past : Option machine.State → Type 0
Past o = (s : machine.State) → o ≡ Some s → Within 250 s.0 s.1 → ⊥

-- the part of this tree
abbrev pub Builds : Tree → Result Part Stop → Type 0
Builds t (Ok p) = tree p.node ≡ t
Builds t (Err Memory) = Unit {0}
Builds t (Err TooDeep) = 250 < level t
Builds t (Err (Unexpected e)) = ⊥

-- the part of this tree, and these frames
abbrev pub TakesIn : Tree × List machine.Frame → Result Part Stop → List Frame → Type 0
TakesIn r (Ok p) fs = r ≡ (tree p.node, frames_of fs)
TakesIn r (Err Memory) fs = Unit {0}
TakesIn r (Err TooDeep) fs = 250 < level r.0
TakesIn r (Err (Unexpected e)) fs = ⊥

-- the state after a token that may be taken
abbrev pub Acts : Option machine.State → Result Mode Stop → List Frame → Type 0
Acts o (Ok x) fs = o ≡ Some (mode_view x, frames_of fs)
Acts o (Err Memory) fs = Unit {0}
Acts o (Err TooDeep) fs = Past o
Acts o (Err (Unexpected e)) fs = o ≡ None

-- the state after a token, or what is expected in its place
abbrev pub Steps : Option machine.State → Expected → Result Mode Stop → List Frame → Type 0
Steps o e (Ok x) fs = o ≡ Some (mode_view x, frames_of fs)
Steps o e (Err Memory) fs = Unit {0}
Steps o e (Err TooDeep) fs = ((o ≡ None) → ⊥) × Past o
Steps o e (Err (Unexpected x)) fs = (o ≡ None) × (x ≡ e)

-- the tree of the whole text, or what is expected at its end
abbrev pub Finishes : Option Tree → Expected → Result Part Stop → Type 0
Finishes o e (Ok p) = o ≡ Some (tree p.node)
Finishes o e (Err Memory) = Unit {0}
Finishes o e (Err TooDeep) = (t : Tree) × (o ≡ Some t) × (250 < level t)
Finishes o e (Err (Unexpected x)) = (o ≡ None) × (x ≡ e)
