-- The text of a path, by its last step.
use Rattle.kube_cel_walk.specs.declared.path.Path.{Path, the_lemmas as path_lemmas}
use Rattle.kube_cel_walk.specs.declared.path.Path.TheVariants as path
use Rattle.kube_cel_walk.specs.Paths.{path_view}
use Rattle.kube_schema_rules.specs.Visit.{item_path, member_path}
use Rattle.std.proofs.Common.{◌≡◌, ℕ, List, [], Bor, rules}

pub path_view-Root : path_view path.Root ≡ []
path_view-Root = search (rules, path_lemmas)

pub path_view-Member : (outer : Bor Path) (key : Bor (List ℕ)) → path_view (path.Member outer key) ≡ member_path (path_view outer.now) key.now
path_view-Member outer key = search (rules, path_lemmas)

pub path_view-Item : (outer : Bor Path) (index : ℕ) → path_view (path.Item outer index) ≡ item_path (path_view outer.now) index
path_view-Item outer index = search (rules, path_lemmas)
