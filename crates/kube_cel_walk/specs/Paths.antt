-- Scaffolding: only proofs and private clauses cite it.
-- The text of a path.
use Rattle.kube_cel_walk.specs.declared.path.Path.{Path, fold-Path}
use Rattle.kube_cel_walk.specs.declared.path.Path.TheOpen.{Path-F}
use Rattle.kube_schema_rules.specs.Visit.{item_path, member_path}
use Rattle.std.specs.Prelude.{ℕ, List, []}

-- the path of the root is empty; each step adds a key or an index
abbrev pub path_step : Path-F (List ℕ) → List ℕ
path_step Path-F.Root = []
path_step (Path-F.Member outer key) = member_path outer.now key.now
path_step (Path-F.Item outer index) = item_path outer.now index

abbrev pub path_view : Path → List ℕ
path_view = fold-Path (List ℕ) path_step
