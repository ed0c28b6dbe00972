-- Trusted by the clauses of kubecel.
-- Which documents are definitions: those of files of their own, and the CustomResourceDefinitions among the objects.
-- Sources: Kubernetes documentation, "Extend the Kubernetes API with CustomResourceDefinitions"; API conventions, "Types
-- (Kinds)" (apiVersion and kind of a resource, lists).
use Rattle.kube_manifests.specs.Definitions.{is_crd, versions_of, list_of}
use Rattle.kube_manifests.specs.Sets.{set_view, with_tree}
use Rattle.kube_manifests.specs.DocumentsVersions.{Version}
use Rattle.kube_manifests.specs.declared.set.CrdSet.{CrdSet}
use Rattle.kubecel_io.specs.Objects.{all_objects, text_at}
use Rattle.kubecel_io.specs.Reads.{Found}
use Rattle.serde_json.specs.Data.{Data}
use Rattle.serde_json.specs.Find.{as_object, get}
use Rattle.serde_json.specs.View.{items_of}
use Rattle.std.specs.List.{flat_map}
use Rattle.std.specs.Str.{bytes_eq}
use Rattle.std.specs.Prelude.{◌≡◌, ℕ, ◌&&◌, ◌||◌, not, List, [], ◌∷◌, ◌++◌, map, Bool, true, false, is_some, if◌then◌else◌, Ok, codes}

-- ---- documents that aren't judged

-- whether a value is a mapping with neither apiVersion nor kind
abbrev pub has_no_type : Data → Bool
has_no_type d =
    is_some (as_object d)
    && (not (is_some (get (codes "apiVersion") d)) && not (is_some (get (codes "kind") d)))

-- whether a document is one, such as the values of a chart: it is no resource. The items of a list are resources
abbrev pub is_no_resource : Found → Bool
is_no_resource f = not f.is_item && has_no_type f.value

-- whether a document is declared a definition, of whatever apiVersion
abbrev pub is_called_crd : Data → Bool
is_called_crd d = bytes_eq (text_at (codes "kind") d) (codes "CustomResourceDefinition")

-- whether a document is declared a `List`, whatever its fields are
abbrev pub is_called_list : Data → Bool
is_called_list d = bytes_eq (text_at (codes "kind") d) (codes "List")

-- whether it is that, or a list of another kind
abbrev pub is_any_list : Data → Bool
is_any_list d = is_called_list d || is_some (list_of d)

abbrev pub is_full : List ℕ → Bool
is_full [] = false
is_full (b ∷ bs) = true

-- whether a document is a resource of another kind, and no list
abbrev pub is_other_resource : Data → Bool
is_other_resource d =
    (is_full (text_at (codes "apiVersion") d) && is_full (text_at (codes "kind") d))
    && not (is_called_crd d || is_any_list d)

-- whether a document of a file of definitions is passed over if missing definitions are ignored
abbrev pub is_passed_over : Found → Bool
is_passed_over f = is_no_resource f || is_other_resource f.value

-- ---- definitions

abbrev pub unless_passed_over : Found → List Found
unless_passed_over f = if is_passed_over f then [] else f ∷ []

abbrev pub where_passed_over : Found → List Found
where_passed_over f = if is_passed_over f then f ∷ [] else []

abbrev pub where_definition : Found → List Found
where_definition f = if is_crd f.value then f ∷ [] else []

-- the documents in files of definitions that have to be definitions. The Bool says whether missing definitions are
-- ignored; if not, all have to be
abbrev pub given_definitions : Bool → List Found → List Found
given_definitions false crds = crds
given_definitions true crds = flat_map unless_passed_over (all_objects crds)

-- those that are passed over
abbrev pub passed_over : Bool → List Found → List Found
passed_over false crds = []
passed_over true crds = flat_map where_passed_over (all_objects crds)

-- the definitions: those in files of definitions, and those among the objects
abbrev pub definitions : Bool → List Found → List Found → List Found
definitions ignores_missing crds objects =
    given_definitions ignores_missing crds ++ flat_map where_definition (all_objects objects)

-- the definitions are well-formed, and have these versions
abbrev pub AreWhole : List Found → List (Version Data) → Type 0
AreWhole crds versions = versions_of (items_of (map (λ f. f.value) crds)) ≡ Ok versions

-- ---- for private clauses

-- the set consists of the versions of these definitions
abbrev pub IsSetOf : List Found → CrdSet → Type 0
IsSetOf crds set =
    (versions : List (Version Data)) × AreWhole crds versions × (set_view set ≡ map with_tree versions)
