-- Scaffolding: only proofs and private clauses cite it.
-- An operand takes in what waits for it.
use Rattle.std.specs.Prelude.{ℕ, Bool, false, if◌then◌else◌, List, [], ◌∷◌, Option}
use Rattle.kube_server_syntax.specs.Machine.{Frame, after_sign, after_operator, after_colon, signed, operated, chosen}
use Rattle.kube_server_syntax.specs.Tree.{Tree}
use Rattle.kube_server_parser.specs.Expects.{waits}

abbrev pub applied : Frame → Tree → Tree
applied (after_sign s p) t = signed s p t
applied (after_operator a op k) t = operated a op t
applied (after_colon c a) t = chosen c a t
applied _ t = t

abbrev pub taken_in : Option ℕ → List Frame → Tree → Tree × List Frame
taken_in l [] t = (t, [])
taken_in l (f ∷ fs) t = if waits l f then taken_in l fs (applied f t) else (t, f ∷ fs)

-- whether the innermost frame waits
abbrev pub next_waits : Option ℕ → List Frame → Bool
next_waits l [] = false
next_waits l (f ∷ fs) = waits l f
