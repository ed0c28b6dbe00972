-- Values with their own keys.
use Rattle.cel_value.specs.Data.{item, list, map_of, text_key}
use Rattle.cel_value.specs.Keys.{put}
use Rattle.cel_value.specs.View.{items_of}
use Rattle.kube_manifests_names.specs.Unstructured.{ItemsKeepKeys, KeepsKeys, MembersKeepKeys, unstructured, unstructured_entries, unstructured_items}
use Rattle.kube_schema_values.specs.Plain.{plain, plain_entries, plain_items}
use Rattle.serde_json.specs.Data as json_data
use Rattle.serde_json.specs.View.{items_view as json_items_view, view as json_view}
use Rattle.serde_json.specs.declared.value.Value.{Value as Json}
use Rattle.std.proofs.Common.{◌≡◌, List, [], ◌∷◌, map, refl, ap, sym}

-- the items of a list, converted one by one
pub items_are : (vs : List Json) → unstructured_items (json_items_view vs) ≡ items_of (map (λ v. unstructured (json_view v)) vs)
unfolding unstructured_items
items_are [] = refl
items_are (v ∷ vs) = ap (item (unstructured (json_view v))) (items_are vs)

-- ---- values whose keys escaping keeps

mutual
  unfolding unstructured unstructured_items unstructured_entries plain plain_items plain_entries

  pub plain_alike : (d : json_data.Data) → KeepsKeys d → unstructured d ≡ plain d
  plain_alike json_data.null h = refl
  plain_alike (json_data.boolean b) h = refl
  plain_alike (json_data.number n) h = refl
  plain_alike (json_data.string s) h = refl
  plain_alike (json_data.array ds) h = ap list (items_alike ds h)
  plain_alike (json_data.object ms) h = ap map_of (entries_alike ms h)

  items_alike : (ds : json_data.Items) → ItemsKeepKeys ds → unstructured_items ds ≡ plain_items ds
  items_alike json_data.no_items h = refl
  items_alike (json_data.item d ds) h = λ i. item (plain_alike d h.0 i) (items_alike ds h.1 i)

  entries_alike : (ms : json_data.Members) → MembersKeepKeys ms → unstructured_entries ms ≡ plain_entries ms
  entries_alike json_data.no_members h = refl
  entries_alike (json_data.member k d ms) h = λ i. put (text_key (sym h.0 i)) (plain_alike d h.1 i) (entries_alike ms h.2 i)
