-- Sets of definitions.
use Rattle.kube_manifests.specs.Definitions.{Fault, versions_of}
use Rattle.kube_manifests_documents.specs.Defined.{defined_in, list_view}
use Rattle.kube_manifests_documents.specs.declared.crd_fault.CrdError.{CrdError}
use Rattle.kube_manifests_documents.specs.declared.defined.DefinedVersions.{DefinedVersions}
use Rattle.kube_manifests.specs.Sets.{all_compiled, set_view, with_tree}
use Rattle.kube_manifests.specs.DocumentsVersions.{Version}
use Rattle.kube_manifests.specs.declared.set.CrdSet.{CrdSet}
use Rattle.kubecel_check.specs.Definitions.{AreWhole, IsSetOf}
use Rattle.kubecel_io.specs.Reads.{Found}
use Rattle.serde_json.specs.Data.{Data, Items}
use Rattle.serde_json.specs.View.{items_of}
use Rattle.std.proofs.Common.{◌≡◌, List, map, Result, Ok, Err, refl, sym, ap, ◌∙◌, subst}

set_in : (ds : Items) (set : CrdSet) (r : Result (List (Version Data)) Fault) → versions_of ds ≡ r → Ok (set_view set) ≡ all_compiled r
    → (versions : List (Version Data)) × (versions_of ds ≡ Ok versions) × (set_view set ≡ map with_tree versions)
set_in ds set (Ok versions) is same = (versions, is, cc)
set_in ds set (Err f) is same = absurd cc

-- the set made from definitions
pub set_so : (crds : List Found) (values : List Data) (set : CrdSet) → values ≡ map (λ f. f.value) crds → Ok (set_view set) ≡ all_compiled (versions_of (items_of values)) → IsSetOf crds set
set_so crds values set are same = subst (λ vs. (versions : List (Version Data)) × (versions_of (items_of vs) ≡ Ok versions) × (set_view set ≡ map with_tree versions)) are
    (set_in (items_of values) set (versions_of (items_of values)) refl same)

-- definitions whose versions are read are well-formed
pub whole_so : {read : DefinedVersions} (crds : List Found) (values : List Data) (r : Result DefinedVersions CrdError) → r ≡ Ok read → defined_in r ≡ versions_of (items_of values)
    → values ≡ map (λ f. f.value) crds → (versions : List (Version Data)) × AreWhole crds versions
whole_so {read} crds values r is same are = (list_view read, subst (λ ds. versions_of (items_of ds) ≡ Ok (list_view read)) are (sym same ∙ ap defined_in is))
