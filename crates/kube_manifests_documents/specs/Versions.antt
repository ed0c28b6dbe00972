-- Trusted by the clauses of other library calls.
-- A version of a custom resource: Kubernetes documentation, "Versions in CustomResourceDefinitions"; API conventions,
-- "Types (Kinds)".
use Rattle.std.specs.Prelude.{ℕ, List, ◌++◌, ◌&&◌, Bool, Option, option_and_then, option_map, Result, Ok, Err, Some, None, codes}
use Rattle.std.specs.Str.{bytes_eq}
use Rattle.serde_json.specs.Data.{Data}
use Rattle.serde_json.specs.Find.{get, as_str}

-- one version of a custom resource, with its schema in any form
pub record Version (S : Type 0) : Type 0 where
  pub group : List ℕ
  pub kind : List ℕ
  pub name : List ℕ
  pub served : Bool
  pub schema : S

-- the part of an apiVersion of the group that precedes the version's name
abbrev pub group_prefix : List ℕ → List ℕ
group_prefix group = group ++ codes "/"

-- the apiVersion of the objects of a version
abbrev pub api_version : {S : Type 0} → Version S → List ℕ
api_version v = group_prefix v.group ++ v.name

-- whether objects with this apiVersion and kind are of this very version
abbrev pub is_of_version : {S : Type 0} → List ℕ → List ℕ → Version S → Bool
is_of_version text kind v = bytes_eq (api_version v) text && bytes_eq v.kind kind

-- whether a version has this group and kind
abbrev pub is_defined : {S : Type 0} → List ℕ → List ℕ → Version S → Bool
is_defined group kind v = bytes_eq v.group group && bytes_eq v.kind kind

-- the value, or the reason if it is missing
abbrev pub or_reason : {A E : Type 0} → E → Option A → Result A E
or_reason e None = Err e
or_reason e (Some a) = Ok a

abbrev pub text_at : List ℕ → Data → Option (List ℕ)
text_at key d = option_and_then as_str (get key d)

-- what an object says of its type (Kubernetes API reference, TypeMeta)
pub record TypeMeta : Type 0 where
  pub api_version : List ℕ
  pub kind : List ℕ

-- the apiVersion and the kind of an object that has both
abbrev pub type_meta_of : Data → Option TypeMeta
type_meta_of d =
    option_and_then (λ text. option_map (λ kind. record { api_version = text; kind = kind }) (text_at (codes "kind") d))
    (text_at (codes "apiVersion") d)
