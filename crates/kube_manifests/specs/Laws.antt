-- Trusted by laws alone.
-- What the laws state of every object that is judged.
use Rattle.std.specs.List.{Contains}
use Rattle.std.specs.Prelude.{◌≡◌, List, [], true, Option, Some, codes}
use Rattle.cel.specs.Book.{Book, IsBook}
use Rattle.kube_cel.specs.Raw.{raw_accessors}
use Rattle.kube_cel.specs.Starts.{defaulted_start}
use Rattle.kube_cel.specs.WalkAnswers.{answer}
use Rattle.kube_manifests.specs.Versions.{root_of}
use Rattle.kube_manifests_documents.specs.Versions.{Version, api_version, text_at}
use Rattle.serde_json.specs.Data.{Data}

-- under some book, the schema of the version finds no error in the object
abbrev pub FindsNothing : Version Data → Data → Option Data → Type 0
FindsNothing v value old =
    (b : Book) × IsBook b
    × (answer raw_accessors b 65 (defaulted_start v.schema value old (Some (root_of v))) ≡ [])

-- the version is in the list, it is served, and the object has its apiVersion and kind
abbrev pub IsOwn : {S : Type 0} → List (Version S) → Data → Version S → Type 0
IsOwn versions value v = Contains versions v × (v.served ≡ true)
    × (text_at (codes "apiVersion") value ≡ Some (api_version v))
    × (text_at (codes "kind") value ≡ Some v.kind)
