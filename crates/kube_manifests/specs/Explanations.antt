-- Trusted by the clauses of other library calls.
-- What is said of an object that no schema judges: what was looked for, what there is, and which
-- kind or apiVersion was probably meant.
use Rattle.std.specs.Prelude.{ℕ, List, [], ◌∷◌, ◌++◌, ◌&&◌, ◌||◌, Bool, true, false, map, Option, Some, None, option_map, codes, nat_eq, if◌then◌else◌}
use Rattle.std.specs.List.{filter, find, starts_with}
use Rattle.std.specs.Option.{option_or}
use Rattle.std.specs.Str.{bytes_eq}
use Rattle.serde_json.specs.Data.{Data, null, string}
use Rattle.serde_json.specs.Find.{get}
use Rattle.kube_manifests.specs.declared.judgement.NotJudged.{NotJudged}
use Rattle.kube_manifests.specs.declared.judgement.NotJudged.TheVariants as reason
use Rattle.kube_manifests.specs.Texts.{reason_text}
use Rattle.kube_manifests.specs.Versions.{is_of_kind}
use Rattle.kube_manifests_documents.specs.Versions.{TypeMeta, Version, api_version, group_prefix, is_defined, type_meta_of}
use Rattle.kube_manifests_texts.specs.Spelling.{is_near, joined}

-- ---- names that were meant

-- whether the version is of the group of this apiVersion, and its kind is near this kind
abbrev pub is_of_near_kind : {S : Type 0} → List ℕ → List ℕ → Version S → Bool
is_of_near_kind text kind v = starts_with nat_eq text (group_prefix v.group) && is_near kind v.kind

-- whether the version is of this kind, and its apiVersion is near this one
abbrev pub is_of_near_version : {S : Type 0} → List ℕ → List ℕ → Version S → Bool
is_of_near_version text kind v = bytes_eq v.kind kind && is_near text (api_version v)

-- the kind or the apiVersion that was probably meant
abbrev pub meant : {S : Type 0} → List (Version S) → List ℕ → List ℕ → Option (List ℕ)
meant vs text kind =
    option_or (option_map (λ v. v.kind) (find (is_of_near_kind text kind) vs))
    (option_map api_version (find (is_of_near_version text kind) vs))

-- ---- versions that there are

abbrev pub or_none : List ℕ → List ℕ
or_none [] = codes "none"
or_none (c ∷ cs) = c ∷ cs

-- the names, with a comma between each two
abbrev pub listed : List (List ℕ) → List ℕ
listed names = or_none (joined names)

-- the names of the versions of this group and kind, of all or of those that are served
abbrev pub names_of : {S : Type 0} → Bool → List ℕ → List ℕ → List (Version S) → List (List ℕ)
names_of all group kind vs =
    map (λ v. v.name) (filter (λ v. is_defined group kind v && (all || v.served)) vs)

-- ---- objects

-- whether a member isn't there, is null, or is an empty string
abbrev pub is_missing : Option Data → Bool
is_missing None = true
is_missing (Some null) = true
is_missing (Some (string s)) = bytes_eq s []
is_missing (Some _) = false

-- that a member isn't there, or isn't a string
abbrev pub no_text : List ℕ → Option Data → List ℕ
no_text key o = if is_missing o then codes "no " ++ key else key ++ codes " isn't a string"

-- such as `no CustomResourceDefinition for Databse of shop.example/v1 (did you mean Database?)`
abbrev pub no_kind_text : List ℕ → List ℕ → Option (List ℕ) → List ℕ
no_kind_text text kind None = codes "no CustomResourceDefinition for " ++ (kind ++ (codes " of " ++ text))
no_kind_text text kind (Some name) =
    codes "no CustomResourceDefinition for "
    ++ (kind ++ (codes " of " ++ (text ++ (codes " (did you mean " ++ (name ++ codes "?)")))))

abbrev pub kind_explanation : {S : Type 0} → List (Version S) → List ℕ → List ℕ → List ℕ
kind_explanation vs text kind = no_kind_text text kind (meant vs text kind)

-- such as `shop.example/v2 isn't a version of Cup (its versions: v1, v1beta1)`
abbrev pub no_version_text : List ℕ → List ℕ → List ℕ → List ℕ
no_version_text text kind names =
    text ++ (codes " isn't a version of " ++ (kind ++ (codes " (its versions: " ++ (names ++ codes ")"))))

-- such as `shop.example/v1alpha1 of Cup isn't served (served: v1)`
abbrev pub not_served_text : List ℕ → List ℕ → List ℕ → List ℕ
not_served_text text kind names =
    text ++ (codes " of " ++ (kind ++ (codes " isn't served (served: " ++ (names ++ codes ")"))))

-- the version is one of the kind and of the group of the apiVersion
abbrev pub version_explanation : {S : Type 0} → List (Version S) → List ℕ → List ℕ → Option (Version S) → List ℕ
version_explanation vs text kind None = reason_text reason.NoSuchVersion
version_explanation vs text kind (Some v) = no_version_text text kind (listed (names_of true v.group v.kind vs))

abbrev pub served_explanation : {S : Type 0} → List (Version S) → List ℕ → List ℕ → Option (Version S) → List ℕ
served_explanation vs text kind None = reason_text reason.NotServed
served_explanation vs text kind (Some v) = not_served_text text kind (listed (names_of false v.group v.kind vs))

-- given the apiVersion and the kind that were looked for
abbrev pub sought_explanation : {S : Type 0} → List (Version S) → Option TypeMeta → NotJudged → List ℕ
sought_explanation vs None r = reason_text r
sought_explanation vs (Some s) reason.NotAnObject = reason_text reason.NotAnObject
sought_explanation vs (Some s) reason.NoApiVersion = reason_text reason.NoApiVersion
sought_explanation vs (Some s) reason.NoKind = reason_text reason.NoKind
sought_explanation vs (Some s) reason.NoSuchKind = kind_explanation vs s.api_version s.kind
sought_explanation vs (Some s) reason.NoSuchVersion =
    version_explanation vs s.api_version s.kind (find (is_of_kind s.api_version s.kind) vs)
sought_explanation vs (Some s) reason.NotServed =
    served_explanation vs s.api_version s.kind (find (is_of_kind s.api_version s.kind) vs)

-- why an object isn't judged by these versions, for this reason
unfoldable pub explanation : {S : Type 0} → List (Version S) → Data → NotJudged → List ℕ
explanation vs d reason.NotAnObject = reason_text reason.NotAnObject
explanation vs d reason.NoApiVersion = no_text (codes "apiVersion") (get (codes "apiVersion") d)
explanation vs d reason.NoKind = no_text (codes "kind") (get (codes "kind") d)
explanation vs d reason.NoSuchKind = sought_explanation vs (type_meta_of d) reason.NoSuchKind
explanation vs d reason.NoSuchVersion = sought_explanation vs (type_meta_of d) reason.NoSuchVersion
explanation vs d reason.NotServed = sought_explanation vs (type_meta_of d) reason.NotServed
