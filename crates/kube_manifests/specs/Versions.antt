-- Trusted by the clauses of other library calls.
-- Which version of a custom resource judges an object: Kubernetes documentation, "Versions in
-- CustomResourceDefinitions"; API conventions, "Types (Kinds)" (apiVersion and kind of an object).
use Rattle.std.specs.Prelude.{ℕ, List, ◌&&◌, Bool, Option, Some, None, Result, Ok, Err, codes, nat_eq, if◌then◌else◌}
use Rattle.std.specs.List.{find, list_any, starts_with}
use Rattle.std.specs.Str.{bytes_eq}
use Rattle.serde_json.specs.Data.{Data}
use Rattle.serde_json.specs.Find.{as_object}
use Rattle.kube_schema.specs.Visit.{Root}
use Rattle.kube_schema.specs.Rules.{◌>>=◌}
use Rattle.kube_manifests_documents.specs.Versions.{Version, api_version, group_prefix, is_of_version, or_reason, text_at}
use Rattle.kube_manifests.specs.declared.judgement.NotJudged.{NotJudged}
use Rattle.kube_manifests.specs.declared.judgement.NotJudged.TheVariants as reason

-- the root context of an object of a version: its own apiVersion, group and kind
abbrev pub root_of : {S : Type 0} → Version S → Root
root_of v = record { api_version = api_version v; api_group = v.group; kind = v.kind }

-- whether objects with this apiVersion and kind have the version's group and kind
abbrev pub is_of_kind : {S : Type 0} → List ℕ → List ℕ → Version S → Bool
is_of_kind text kind v = starts_with nat_eq text (group_prefix v.group) && bytes_eq v.kind kind

-- the version, if it was found and is served; if it wasn't found, the reason depends on whether
-- other versions of its kind are known
abbrev pub if_served : {S : Type 0} → Bool → Option (Version S) → Result (Version S) NotJudged
if_served known None = Err (if known then reason.NoSuchVersion else reason.NoSuchKind)
if_served known (Some v) = if v.served then Ok v else Err reason.NotServed

abbrev pub chosen_by : {S : Type 0} → List (Version S) → List ℕ → List ℕ → Result (Version S) NotJudged
chosen_by versions text kind =
    if_served (list_any (is_of_kind text kind) versions) (find (is_of_version text kind) versions)

-- the version whose schema judges an object, or the reason why none does
unfoldable pub chosen_version : {S : Type 0} → List (Version S) → Data → Result (Version S) NotJudged
chosen_version versions value = do
  members ← or_reason reason.NotAnObject (as_object value)
  text ← or_reason reason.NoApiVersion (text_at (codes "apiVersion") value)
  kind ← or_reason reason.NoKind (text_at (codes "kind") value)
  chosen_by versions text kind
