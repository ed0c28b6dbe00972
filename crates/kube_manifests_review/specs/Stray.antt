-- Trusted by the clauses of manifests.
-- What of a document isn't part of a version's schema, though it may have been meant to be: the members
-- named `x-kubernetes-validations` that stand where no schema of a version has its rules (beside the
-- schemas, or within a keyword whose value isn't what the API reference says, such as `allOf` that is an
-- object, or `required` with an object in its list), and the values that stand where a schema does and are
-- none, such as a list of rules among the properties. Source: Kubernetes API reference, `CustomResourceDefinitionSpec`,
-- `CustomResourceDefinitionVersion`, `CustomResourceValidation`, `JSONSchemaProps`,
-- `JSONSchemaPropsOrBool`, `JSONSchemaPropsOrArray`, `JSONSchemaPropsOrStringArray`.
use Rattle.std.specs.Prelude.{ℕ, suc, List, [], ◌∷◌, ◌++◌, ◌&&◌, ◌||◌, is_some, Bool, true, false, if◌then◌else◌, codes}
use Rattle.std.specs.Str.{bytes_eq}
use Rattle.serde_json.specs.Data.{Data, null, boolean, number, string, array, object, Items, no_items, item, Members, no_members, member}
use Rattle.serde_json.specs.Find.{as_array, as_bool, as_object}
use Rattle.kube_manifests_review.specs.Candidates.{Candidate, unconditional}
use Rattle.kube_manifests_review.specs.Keywords.{schema_fields}
use Rattle.kube_manifests_texts.specs.Spelling.{is_word}
use Rattle.kube_manifests_documents.specs.Pointers.{index_pointer, key_pointer}
use Rattle.kube_manifests_review.specs.declared.finding.ReviewKind.TheVariants as kind
use Rattle.kube_manifests_review.specs.declared.part.Part.{Part}
use Rattle.kube_manifests_review.specs.declared.part.Part.TheVariants as part

-- ---- what the parts of a document are

-- the keywords whose value is a schema or a bool
unfoldable pub bool_keywords : List (List ℕ)
bool_keywords = codes "additionalProperties" ∷ codes "additionalItems" ∷ []

-- those whose value is an object of schemas by name
unfoldable pub map_keywords : List (List ℕ)
map_keywords = codes "properties" ∷ codes "patternProperties" ∷ codes "definitions" ∷ []

-- those whose value is a list of schemas
unfoldable pub list_keywords : List (List ℕ)
list_keywords = codes "allOf" ∷ codes "oneOf" ∷ codes "anyOf" ∷ []

-- those whose value has any form, and that of the rules of the schema itself
unfoldable pub value_keywords : List (List ℕ)
value_keywords =
    codes "default" ∷ codes "enum" ∷ codes "example" ∷ codes "x-kubernetes-validations" ∷ []

-- A member of a schema in which no schema stands. Within another field than these nothing may be meant to
-- be a rule. A key that is no field is reported of the key.
abbrev pub plain_member : List ℕ → Part
plain_member k =
    if is_word value_keywords k then part.Values
    else if is_word schema_fields k then part.Other else part.Values

-- what a member of a schema is
abbrev pub schema_member : List ℕ → Part
schema_member k =
    if is_word bool_keywords k then part.SchemaOrBool
    else if is_word map_keywords k then part.SchemaMap
    else if is_word list_keywords k then part.SchemaList
    else if bytes_eq k (codes "items") then part.SchemaOrList
    else if bytes_eq k (codes "not") then part.Schema
    else if bytes_eq k (codes "dependencies") then part.Dependencies else plain_member k

-- this part for a member of this name, else another one
abbrev pub named_part : List ℕ → List ℕ → Part → Part
named_part name k p = if bytes_eq k name then p else part.Other

-- what a member of a part is, by its key
abbrev pub member_part : Part → List ℕ → Part
member_part part.Document k = named_part (codes "spec") k part.Spec
member_part part.Spec k = named_part (codes "versions") k part.Versions
member_part part.Versions k = part.Other
member_part part.Version k = named_part (codes "schema") k part.Validation
member_part part.Validation k = named_part (codes "openAPIV3Schema") k part.Schema
member_part part.Schema k = schema_member k
member_part part.SchemaOrBool k = schema_member k
member_part part.SchemaOrList k = schema_member k
member_part part.SchemaOrStrings k = schema_member k
member_part part.SchemaList k = part.Other
member_part part.SchemaMap k = part.Schema
member_part part.Dependencies k = part.SchemaOrStrings
member_part part.Values k = part.Values
member_part part.Other k = part.Other

-- what an item of a part is
abbrev pub item_part : Part → Part
item_part part.Document = part.Other
item_part part.Spec = part.Other
item_part part.Versions = part.Version
item_part part.Version = part.Other
item_part part.Validation = part.Other
item_part part.Schema = part.Other
item_part part.SchemaOrBool = part.Other
item_part part.SchemaOrList = part.Schema
item_part part.SchemaOrStrings = part.Other
item_part part.SchemaList = part.Schema
item_part part.SchemaMap = part.Other
item_part part.Dependencies = part.Other
item_part part.Values = part.Values
item_part part.Other = part.Other

-- whether a member `x-kubernetes-validations` of a part holds none of a schema's own rules, and is
-- neither a name of the user's own nor a part of a value
abbrev pub has_no_rules : Part → Bool
has_no_rules part.Document = true
has_no_rules part.Spec = true
has_no_rules part.Versions = true
has_no_rules part.Version = true
has_no_rules part.Validation = true
has_no_rules part.Schema = false
has_no_rules part.SchemaOrBool = false
has_no_rules part.SchemaOrList = false
has_no_rules part.SchemaOrStrings = false
has_no_rules part.SchemaList = true
has_no_rules part.SchemaMap = false
has_no_rules part.Dependencies = false
has_no_rules part.Values = false
has_no_rules part.Other = true

-- ---- what the value of a part may be

abbrev pub is_object : Data → Bool
is_object d = is_some (as_object d)

abbrev pub is_list : Data → Bool
is_list d = is_some (as_array d)

-- whether a value has the form of a part. A null, which an API server takes for an empty schema, or for
-- none, has the form of no schema
abbrev pub has_form : Part → Data → Bool
has_form part.Document d = true
has_form part.Spec d = true
has_form part.Versions d = true
has_form part.Version d = true
has_form part.Validation d = true
has_form part.Schema d = is_object d
has_form part.SchemaOrBool d = is_object d || is_some (as_bool d)
has_form part.SchemaOrList d = is_object d || is_list d
has_form part.SchemaOrStrings d = is_object d || is_list d
has_form part.SchemaList d = is_list d
has_form part.SchemaMap d = is_object d
has_form part.Dependencies d = is_object d
has_form part.Values d = true
has_form part.Other d = true

-- what is wrong with a value that hasn't the form of this part
abbrev pub form_text : Part → List ℕ
form_text part.SchemaList = codes "the schemas aren't a list"
form_text part.SchemaMap = codes "the schemas by name aren't an object"
form_text part.Dependencies = codes "the schemas by name aren't an object"
form_text p = codes "a schema isn't an object"

-- ---- the candidates

abbrev pub stray_text : List ℕ
stray_text = codes "this is no part of a version's schema, so these rules are never evaluated"

-- of a member with this key, at this pointer
abbrev pub key_stray : Part → List ℕ → List ℕ → List Candidate
key_stray p q k =
    if has_no_rules p && bytes_eq k (codes "x-kubernetes-validations")
    then unconditional q kind.Rules stray_text ∷ [] else []

-- of a value at this pointer that hasn't the form of this part
abbrev pub form_stray : Part → List ℕ → Data → List Candidate
form_stray p q d = if has_form p d then [] else unconditional q kind.Keyword (form_text p) ∷ []

abbrev mutual
  -- of what is within a value at this pointer, which is this part
  pub stray : Part → List ℕ → Data → List Candidate
  stray p q null = []
  stray p q (boolean b) = []
  stray p q (number n) = []
  stray p q (string s) = []
  stray p q (array ds) = stray_items (item_part p) q 0 ds
  stray p q (object ms) = stray_members p q ms

  -- of the items from the i-th on, each of which is this part
  pub stray_items : Part → List ℕ → ℕ → Items → List Candidate
  stray_items p q i no_items = []
  stray_items p q i (item d ds) =
      (form_stray p (index_pointer q i) d ++ stray p (index_pointer q i) d) ++ stray_items p q (suc i) ds

  -- of the members of this part
  pub stray_members : Part → List ℕ → Members → List Candidate
  stray_members p q no_members = []
  stray_members p q (member k d ms) =
      (key_stray p (key_pointer q k) k
      ++ (form_stray (member_part p k) (key_pointer q k) d ++ stray (member_part p k) (key_pointer q k) d))
      ++ stray_members p q ms
