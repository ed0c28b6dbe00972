-- Scaffolding: only proofs and private clauses cite it.
-- For private clauses.
-- The files that hold an object of a definition.
use Rattle.kube_manifests.specs.DocumentsVersions.{Version}
use Rattle.kubecel_check.specs.Objects.{holds_object}
use Rattle.kubecel_io.specs.Reads.{Found}
use Rattle.std.specs.BTreeSet.{BTreeSet, contains_text}
use Rattle.std.specs.Global.{Global}
use Rattle.std.specs.Prelude.{◌≡◌, ℕ, List, String}

-- the set has their paths
abbrev pub AreHeld : {A : Type 0} → BTreeSet (String Global) → List (Version A) → List Found → Type 0
AreHeld held versions objects = (path : List ℕ) → contains_text held path ≡ holds_object versions objects path
