-- Scaffolding: only proofs and private clauses cite it.
-- The visit at which a walk stands.
use Rattle.kube_schema_rules.specs.Visit.{Visit, visit}
use Rattle.kube_cel_walk.specs.Roots.{root_view}
use Rattle.kube_cel_walk.specs.declared.state.WalkState.{WalkState}
use Rattle.serde_json.specs.View.{view}
use Rattle.std.specs.Prelude.{◌≡◌, ℕ, List, None, option_map}

-- the visit of a walk's state, with the path that leads to
-- it; `seen` turns code's node into that of definitions
abbrev pub visit_at : {N S : Type 0} → (N → S) → WalkState N → List ℕ → Visit S
visit_at seen p path =
    visit (seen p.node) (view p.value.now) (option_map (λ v. view v.now) p.old)
    (option_map (λ r. root_view r.now) p.root) path p.depth

-- at the place there are neither an old counterpart nor a root context
abbrev pub IsAlone : {N : Type 0} → WalkState N → Type 0
IsAlone p = (p.old ≡ None) × (p.root ≡ None)
