-- Trusted by the clauses of other library calls.
-- A list of compiled versions, in which each is found by its apiVersion and its kind.
use Rattle.std.specs.Prelude.{◌≡◌, ℕ, List, map, string_bytes}
use Rattle.kube_manifests.specs.declared.list.Versions.{Versions}
use Rattle.kube_manifests.specs.declared.version.CrdVersion.{CrdVersion}
use Rattle.kube_manifests_documents.specs.Versions.{Version, is_of_version}
use Rattle.kube_manifests_texts.specs.Positions.{first_at, position_at}
use Rattle.kube_schema.specs.Shown.{whole}
use Rattle.kube_schema.specs.Tree.{Node}

-- a version with the tree of its schema
abbrev pub version_view : CrdVersion → Version Node
version_view v = record {
  group = string_bytes v.root.api_group;
  kind = string_bytes v.root.kind;
  name = string_bytes v.name;
  served = v.served;
  schema = whole v.schema;
}

abbrev pub list_view : Versions → List (Version Node)
list_view vs = map version_view vs.list.items

-- the index has the first version of each apiVersion and kind
abbrev pub IsIndexed : Versions → Type 0
IsIndexed vs = (text kind : List ℕ) → position_at vs.by_version text kind ≡ first_at (is_of_version text kind) (list_view vs)
