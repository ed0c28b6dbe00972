-- Scaffolding: only proofs and private clauses cite it.
-- What is bound in the context that a walk keeps, and what a further binding leaves as it was.
use Rattle.cel.specs.Bindings.{Bindings, binding}
use Rattle.std.specs.Prelude.{◌≡◌, ℕ, List, false, is_some}
use Rattle.std.specs.Str.{bytes_eq}

-- no other name is bound
abbrev pub BindsOnly : List ℕ → Bindings → Type 0
BindsOnly name e = (x : List ℕ) → bytes_eq name x ≡ false → is_some (binding x e) ≡ false

-- all other names are bound as before
abbrev pub AreSameOthers : List ℕ → Bindings → Bindings → Type 0
AreSameOthers name e f = (x : List ℕ) → bytes_eq name x ≡ false → binding x e ≡ binding x f
