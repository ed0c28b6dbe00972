-- Documents without a fault give exactly the versions written in them.
use Rattle.std.proofs.Common.{◌≡◌, ℕ, suc, List, [], ◌∷◌, ◌++◌, Bool, true, false, Option, Some, None, Result, Ok, Err, refl, subst, sym, ap, ◌∙◌, append_assoc, append-nil, if◌then◌else◌}
use Rattle.std.specs.List.{list_any}
use Rattle.kube_manifests_documents.proofs.Apart.{IsApart, apart_more}
use Rattle.kube_manifests_documents.specs.declared.crd_fault.CrdFault.{CrdFault}
use Rattle.kube_manifests_documents.specs.declared.crd_fault.CrdFault.TheVariants as fault
use Rattle.kube_manifests_documents.specs.Definitions.{Crd, Entry, Fault, Location, add_crd, add_document, add_item, add_version, crd_of, each, entry_of, fault_at, list_of, version_of, versions_of, with_crd, with_entry, with_list, with_version}
use Rattle.kube_manifests_documents.specs.DocumentVersions.{crd_versions, document_versions, entry_versions, from_each_item, list_versions}
use Rattle.kube_manifests_documents.specs.Faults.{◌>>=◌}
use Rattle.kube_manifests_documents.specs.Versions.{Version, api_version, is_defined, is_of_version}
use Rattle.serde_json.specs.Data.{Data, Items, no_items, item}

-- a step appends these versions to those before, and keeps all of them apart
abbrev Adds : {E : Type 0} → List (Version Data) → List (Version Data) → Result (List (Version Data)) E → Type 0
Adds had new r = (all : List (Version Data)) → r ≡ Ok all → (all ≡ had ++ new) × (IsApart had → IsApart all)

module _ {E : Type 0} (step : ℕ → Data → List (Version Data) → Result (List (Version Data)) E) (f : Data → List (Version Data)) (adds : (i : ℕ) (d : Data) (had : List (Version Data)) → Adds had (f d) (step i d had)) where
  behind : (i : ℕ) (d : Data) (ds : Items) (had : List (Version Data)) (r : Result (List (Version Data)) E) → step i d had ≡ r
      → ((mid : List (Version Data)) → Adds mid (from_each_item f ds) (each step (suc i) ds mid)) → Adds had (f d ++ from_each_item f ds) (r >>= each step (suc i) ds)
  behind i d ds had (Ok mid) is rest = λ all e.
      let one = adds i d had mid is in
      let others = rest mid all e in
      (others.0 ∙ ap (λ vs. vs ++ from_each_item f ds) one.0 ∙ append_assoc had (f d) (from_each_item f ds), λ apart. others.1 (one.1 apart))
  behind i d ds had (Err x) is rest = λ all e. cc

  pub each_adds : (i : ℕ) (ds : Items) (had : List (Version Data)) → Adds had (from_each_item f ds) (each step i ds had)
  unfolding each
  each_adds i no_items had = λ all e. let same : had ≡ all = cc in (sym same ∙ sym (append-nil had), λ apart. subst IsApart same apart)
  each_adds i (item d ds) had = behind i d ds had (step i d had) refl (λ mid. each_adds (suc i) ds mid)

unless : (b : Bool) (f : Fault) (r : Result (List (Version Data)) Fault) (had new : List (Version Data)) → (b ≡ false → Adds had new r)
    → Adds had new (if b then Err f else r)
unless true f r had new adds = λ all e. cc
unless false f r had new adds = adds refl

one_adds : (location : Location) (i : ℕ) (had : List (Version Data)) (v : Version Data) → Adds had (v ∷ []) (with_version location i had v)
one_adds location i had v =
    unless (list_any (is_of_version (api_version v) v.kind) had) (fault_at location (Some i) fault.RepeatedVersion) (Ok (had ++ v ∷ [])) had (v ∷ []) (λ new all e.
    let same : had ++ v ∷ [] ≡ all = cc in
    (sym same, λ apart. subst IsApart same (apart_more had v apart new)))

entry_adds : (location : Location) (crd : Crd) (i : ℕ) (had : List (Version Data)) (r : Result Entry CrdFault) → Adds had (entry_versions crd r) (with_entry location crd i had r)
entry_adds location crd i had (Err f) = λ all e. cc
entry_adds location crd i had (Ok x) = one_adds location i had (version_of crd x)

version_adds : (location : Location) (crd : Crd) (i : ℕ) (d : Data) (had : List (Version Data)) → Adds had (entry_versions crd (entry_of d)) (add_version location crd i d had)
unfolding add_version
version_adds location crd i d had = entry_adds location crd i had (entry_of d)

parts_add : (location : Location) (had : List (Version Data)) (r : Result Crd CrdFault) → Adds had (crd_versions r) (with_crd location had r)
parts_add location had (Err f) = λ all e. cc
parts_add location had (Ok crd) =
    unless (list_any (is_defined crd.group crd.kind) had) (fault_at location None fault.RepeatedKind) (each (add_version location crd) 0 crd.versions had) had
    (from_each_item (λ d. entry_versions crd (entry_of d)) crd.versions)
    (λ new. each_adds (add_version location crd) (λ d. entry_versions crd (entry_of d)) (version_adds location crd) 0 crd.versions had)

crd_adds : (location : Location) (d : Data) (had : List (Version Data)) → Adds had (crd_versions (crd_of d)) (add_crd location d had)
unfolding add_crd
crd_adds location d had = parts_add location had (crd_of d)

list_adds : (document : ℕ) (d : Data) (had : List (Version Data)) (o : Option Items) → Adds had (list_versions d o) (with_list document d had o)
list_adds document d had None = crd_adds (record { document = document; item = None }) d had
list_adds document d had (Some ds) =
    each_adds (add_item document) (λ e. crd_versions (crd_of e)) (λ i e vs. crd_adds (record { document = document; item = Some i }) e vs) 0 ds had

document_adds : (document : ℕ) (d : Data) (had : List (Version Data)) → Adds had (document_versions d) (add_document document d had)
unfolding add_document
document_adds document d had = list_adds document d had (list_of d)

pub all_adds : (ds : Items) → Adds [] (from_each_item document_versions ds) (versions_of ds)
unfolding versions_of
all_adds ds = each_adds (add_document) document_versions document_adds 0 ds []

pub versions_listed : (ds : Items) (versions : List (Version Data)) → versions_of ds ≡ Ok versions → versions ≡ from_each_item document_versions ds
versions_listed ds versions e = (all_adds ds versions e).0

pub all_read : (ds : Items) → each add_document 0 ds [] ≡ versions_of ds
unfolding versions_of
all_read ds = refl
