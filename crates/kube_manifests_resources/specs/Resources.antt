-- Trusted by the clauses of other library calls.
-- The resource of a kind: of those that an API server of Kubernetes has, or of a definition (Kubernetes API reference,
-- CustomResourceDefinition v1).
use Rattle.kube_manifests_documents.specs.Definitions.{is_crd}
use Rattle.kube_manifests_documents.specs.Versions.{text_at}
use Rattle.kube_manifests_resources.specs.declared.resources.ResourceScope.{ResourceScope}
use Rattle.kube_manifests_resources.specs.declared.resources.ResourceScope.TheVariants.{Cluster, Namespaced}
use Rattle.kube_manifests_resources.specs.Builtins.{GroupVersionData, ResourceData, builtins}
use Rattle.kube_manifests_resources.specs.declared.crd.CrdResource.{CrdResource}
use Rattle.kube_manifests_resources.specs.declared.crd.Names.{Names}
use Rattle.kube_manifests_resources.specs.declared.resources.Builtin.{Builtin}
use Rattle.kube_manifests_resources.specs.declared.resources.GroupVersion.{GroupVersion}
use Rattle.serde_json.specs.Data.{Data, Items}
use Rattle.serde_json.specs.Find.{as_array, as_bool, get}
use Rattle.serde_json.specs.View.{items_view}
use Rattle.std.specs.Option.{is_some, option_map_or}
use Rattle.std.specs.Prelude.{ℕ, List, [], ◌∷◌, map, Bool, true, false, ◌&&◌, Option, Some, None, option_and_then, codes, if◌then◌else◌}
use Rattle.std.specs.Str.{bytes_eq}

-- ---- those of Kubernetes

abbrev pub of_kind : List ℕ → List ℕ → ResourceData → Bool
of_kind group kind r = bytes_eq r.group group && bytes_eq r.kind kind

abbrev pub named : List ℕ → List ℕ → ResourceData → Bool
named group plural r = bytes_eq r.group group && bytes_eq r.plural plural

-- the first resource that passes a test
abbrev pub first_of : (ResourceData → Bool) → List ResourceData → Option ResourceData
first_of p [] = None
first_of p (r ∷ rs) = if p r then Some r else first_of p rs

-- the resource of a kind, and that of a plural name
unfoldable pub builtin_of : List ℕ → List ℕ → Option ResourceData
builtin_of group kind = first_of (of_kind group kind) builtins

unfoldable pub builtin_named : List ℕ → List ℕ → Option ResourceData
builtin_named group plural = first_of (named group plural) builtins

-- ---- those of definitions

pub record CrdResourceData : Type 0 where
  pub group : List ℕ
  pub kind : List ℕ
  pub plural : List ℕ
  pub scope : ResourceScope
  -- the entries of its versions
  pub versions : Items

abbrev pub scope_of : List ℕ → Option ResourceScope
scope_of s =
    if bytes_eq s (codes "Namespaced") then Some Namespaced
    else (if bytes_eq s (codes "Cluster") then Some Cluster else None)

-- the second of the first, if it is there
infixl 10 ◌>>=◌
abbrev pub ◌>>=◌ : {A B : Type 0} → Option A → (A → Option B) → Option B
None >>= f = None
Some a >>= f = f a

pub record NamesData : Type 0 where
  pub kind : List ℕ
  pub plural : List ℕ

unfoldable pub names_in : Data → Option NamesData
names_in spec = do
  names ← get (codes "names") spec
  kind ← text_at (codes "kind") names
  plural ← text_at (codes "plural") names
  Some (record { kind = kind; plural = plural })

unfoldable pub scope_in : Data → Option ResourceScope
scope_in spec = text_at (codes "scope") spec >>= scope_of

unfoldable pub versions_in : Data → Option Items
versions_in spec = get (codes "versions") spec >>= as_array

unfoldable pub crd_resource_in : Data → Option CrdResourceData
crd_resource_in spec = do
  names ← names_in spec
  group ← text_at (codes "group") spec
  scope ← scope_in spec
  versions ← versions_in spec
  Some (record { group = group; kind = names.kind; plural = names.plural; scope = scope; versions = versions })

-- the resource of a definition, if it says what it is
abbrev pub crd_resource_of : Data → Option CrdResourceData
crd_resource_of d = if is_crd d then option_and_then crd_resource_in (get (codes "spec") d) else None

-- whether a version has this subresource; every one has the empty name
abbrev pub has_subresource : List ℕ → Data → Bool
has_subresource [] d = true
has_subresource (c ∷ cs) d = is_some (option_and_then (get (c ∷ cs)) (get (codes "subresources") d))

abbrev pub is_served : Data → Bool
is_served d = option_map_or (λ b. b) (option_and_then as_bool (get (codes "served") d)) false

-- the name of a version under which an API server has the resource, with this subresource
abbrev pub served_name : List ℕ → Data → Option (List ℕ)
served_name subresource d =
    if is_served d && has_subresource subresource d then text_at (codes "name") d else None

-- ---- views of the code's values

abbrev pub served_view : GroupVersion → GroupVersionData
served_view g = record { group = g.group.now; version = g.version.now }

abbrev pub builtin_view : Builtin → ResourceData
builtin_view r = record {
  group = r.group.now;
  kind = r.kind.now;
  plural = r.plural.now;
  scope = r.scope;
  served = map served_view r.served.now;
  subresources = map (λ s. s.now) r.subresources.now;
}

abbrev pub names_view : Names → NamesData
names_view n = record { kind = n.kind.now; plural = n.plural.now }

abbrev pub crd_view : CrdResource → CrdResourceData
crd_view r = record {
  group = r.group.now;
  kind = r.kind.now;
  plural = r.plural.now;
  scope = r.scope;
  versions = items_view r.versions.now;
}
