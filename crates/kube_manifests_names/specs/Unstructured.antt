-- Trusted by the clauses of policies.
-- The CEL value of an object that no schema describes, with the object's own keys. An API server hands `object`,
-- `oldObject`, `params` and `namespaceObject` to the expressions of a policy as unstructured objects (Kubernetes API
-- reference, Validation of ValidatingAdmissionPolicySpec: the variables of `expression`), so
-- `object.metadata.namespace` and `object.metadata.labels['app.kubernetes.io/name']` select the members of these very
-- names.
use Rattle.cel_value.specs.Data.{Data, null, bool, text, list, map_of, text_key, Items, no_items, item, Entries, no_entries}
use Rattle.cel_value.specs.Keys.{put}
use Rattle.kube_schema_values.specs.Escape.{escape}
use Rattle.kube_schema_values.specs.Plain.{plain_number}
use Rattle.serde_json.specs.Data as json_data
use Rattle.std.specs.Prelude.{◌≡◌, ⊤}

unfoldable mutual
  pub unstructured : json_data.Data → Data
  unstructured json_data.null = null
  unstructured (json_data.boolean b) = bool b
  unstructured (json_data.number n) = plain_number n
  unstructured (json_data.string s) = text s
  unstructured (json_data.array ds) = list (unstructured_items ds)
  unstructured (json_data.object ms) = map_of (unstructured_entries ms)

  pub unstructured_items : json_data.Items → Items
  unstructured_items json_data.no_items = no_items
  unstructured_items (json_data.item d ds) = item (unstructured d) (unstructured_items ds)

  -- each member at its own key
  pub unstructured_entries : json_data.Members → Entries
  unstructured_entries json_data.no_members = no_entries
  unstructured_entries (json_data.member k d ms) = put (text_key k) (unstructured d) (unstructured_entries ms)

-- ---- for laws

-- no key of the value, at any level, is changed by escaping
abbrev mutual
  pub KeepsKeys : json_data.Data → Type 0
  KeepsKeys (json_data.array ds) = ItemsKeepKeys ds
  KeepsKeys (json_data.object ms) = MembersKeepKeys ms
  KeepsKeys json_data.null = ⊤
  KeepsKeys (json_data.boolean b) = ⊤
  KeepsKeys (json_data.number n) = ⊤
  KeepsKeys (json_data.string s) = ⊤

  pub ItemsKeepKeys : json_data.Items → Type 0
  ItemsKeepKeys json_data.no_items = ⊤
  ItemsKeepKeys (json_data.item d ds) = KeepsKeys d × ItemsKeepKeys ds

  pub MembersKeepKeys : json_data.Members → Type 0
  MembersKeepKeys json_data.no_members = ⊤
  MembersKeepKeys (json_data.member k d ms) = (escape k ≡ k) × KeepsKeys d × MembersKeepKeys ms
