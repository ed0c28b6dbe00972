-- Trusted by the clauses of kubecel.
-- The objects of documents, given the versions of definitions; which of them are of a definition, and have an old object.
-- Sources: API conventions, "Types (Kinds)" (lists); Kubernetes documentation, "Validation rules" (transition rules).
use Rattle.kube_manifests.specs.Definitions.{is_crd}
use Rattle.kube_manifests.specs.DocumentsVersions.{Version}
use Rattle.kube_manifests.specs.Versions.{chosen_version}
use Rattle.kube_manifests.specs.declared.judgement.NotJudged.{NotJudged}
use Rattle.kube_manifests.specs.declared.judgement.NotJudged.TheVariants as reason
use Rattle.kubecel_io.specs.Objects.{objects_of, old_of}
use Rattle.kubecel_io.specs.Reads.{Found}
use Rattle.serde_json.specs.Data.{Data}
use Rattle.std.specs.List.{flat_map, list_any}
use Rattle.std.specs.Str.{bytes_eq}
use Rattle.std.specs.Prelude.{◌≡◌, ℕ, ◌<◌, ◌&&◌, List, [], ◌∷◌, length, Bool, true, false, is_some, if◌then◌else◌, Result, Ok, Err, ⊤}

-- ---- objects

-- whether a definition has the group and kind of an object, perhaps without its version
abbrev pub has_definition : {A : Type 0} → Result A NotJudged → Bool
has_definition (Ok v) = true
has_definition (Err reason.NotAnObject) = false
has_definition (Err reason.NoApiVersion) = false
has_definition (Err reason.NoKind) = false
has_definition (Err reason.NoSuchKind) = false
has_definition (Err reason.NoSuchVersion) = true
has_definition (Err reason.NotServed) = true

-- whether an object is of a definition
abbrev pub is_defined : {A : Type 0} → List (Version A) → Found → Bool
is_defined versions f = has_definition (chosen_version versions f.value)

-- the objects of a document: the document itself if it is of a definition, even if its kind ends in
-- `List`; otherwise its items if it is a list
abbrev pub subjects_in : {A : Type 0} → List (Version A) → Found → List Found
subjects_in versions f = if is_defined versions f then f ∷ [] else objects_of f

-- the objects of all documents, in order
abbrev pub all_subjects : {A : Type 0} → List (Version A) → List Found → List Found
all_subjects versions fs = flat_map (subjects_in versions) fs

abbrev pub unless_definition : Found → List Found
unless_definition f = if is_crd f.value then [] else f ∷ []

-- those that are judged: all but the definitions
abbrev pub all_judged : {A : Type 0} → List (Version A) → List Found → List Found
all_judged versions fs = flat_map unless_definition (all_subjects versions fs)

-- there is at least one object, unless none is allowed
abbrev pub AreSome : Bool → List Found → Type 0
AreSome false objects = 0 < length objects
AreSome true objects = ⊤

-- if missing definitions are ignored, at least one object is of a definition, unless none is allowed. The first Bool says
-- whether they are ignored, the second one whether none is allowed
abbrev pub AreDefined : {A : Type 0} → Bool → Bool → List (Version A) → List Found → Type 0
AreDefined false allows_none versions objects = ⊤
AreDefined true true versions objects = ⊤
AreDefined true false versions objects = list_any (is_defined versions) objects ≡ true

-- ---- old objects

-- whether one of the old objects has the object's identity
abbrev pub has_old : List Data → Found → Bool
has_old olds f = is_some (old_of olds f.value)

-- whether an object is in the file at the path, and is of a definition
abbrev pub is_held : {A : Type 0} → List (Version A) → List ℕ → Found → Bool
is_held versions path f = is_defined versions f && bytes_eq path f.file

-- whether one of the objects is
abbrev pub holds_object : {A : Type 0} → List (Version A) → List Found → List ℕ → Bool
holds_object versions objects path = list_any (is_held versions path) objects

-- if files of old objects are named, at least one object has an old one in them
abbrev pub AreCompared : List (List ℕ) → List Data → List Found → Type 0
AreCompared [] olds objects = ⊤
AreCompared (path ∷ paths) olds objects = list_any (has_old olds) objects ≡ true
