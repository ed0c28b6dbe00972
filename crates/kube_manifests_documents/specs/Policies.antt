-- Trusted by the clauses of policies.
-- The contents of a policy's document (Kubernetes API reference, ValidatingAdmissionPolicy of
-- `admissionregistration.k8s.io`), or its first fault.
use Rattle.kube_manifests_documents.specs.Faults.{FaultData, Missing, NotObject, NotList, NotString, Unsupported, UnknownField, Repeated, NothingToCheck, fault_seen, item_member_pointer, ◌>>=◌}
use Rattle.kube_manifests_documents.specs.Pointers.{index_pointer, key_pointer}
use Rattle.kube_manifests_documents.specs.declared.fault.Found.{Found}
use Rattle.kube_manifests_documents.specs.declared.item.Item.{Item}
use Rattle.kube_manifests_documents.specs.declared.item.PolicyList.{PolicyList}
use Rattle.kube_manifests_documents.specs.declared.item.PolicyList.TheVariants.{MatchConditions, Variables, Validations, AuditAnnotations}
use Rattle.kube_manifests_documents.specs.declared.policy.Policy.{Policy}
use Rattle.serde_json.specs.Data.{Data, null, string, array, object, Items, no_items, item, Members, no_members, member}
use Rattle.serde_json.specs.Find.{get, as_object}
use Rattle.kube_manifests_texts.specs.Spelling.{is_word, joined, near}
use Rattle.std.specs.BTreeSet.{BTreeSet, contains_text}
use Rattle.std.specs.List.{list_any}
use Rattle.std.specs.Prelude.{◌≡◌, String, ℕ, List, [], ◌∷◌, ◌++◌, length, map, Bool, true, false, ◌&&◌, if◌then◌else◌, Option, Some, None, option_and_then, option_map, is_some, Result, Ok, Err, codes}
use Rattle.std.specs.Str.{bytes_eq}
use Rattle.std.specs.declared.alloc.Global.{Global}

-- one entry of a list of the policy
pub record ItemData : Type 0 where
  -- its index in the list
  pub index : ℕ
  -- its name: for a validation the source of its expression, for an audit annotation its key
  pub label : List ℕ
  pub expression : List ℕ
  pub message : Option (List ℕ)
  pub message_expression : Option (List ℕ)

pub record PolicyData : Type 0 where
  -- whether `failurePolicy` is `Ignore`
  pub ignores : Bool
  -- whether the policy has a `paramKind`, and so `params`
  pub has_params : Bool
  pub conditions : List ItemData
  pub variables : List ItemData
  pub validations : List ItemData
  pub annotations : List ItemData

-- ---- the lists of a policy

abbrev pub keyword : PolicyList → List ℕ
keyword MatchConditions = codes "matchConditions"
keyword Variables = codes "variables"
keyword Validations = codes "validations"
keyword AuditAnnotations = codes "auditAnnotations"

abbrev pub base : PolicyList → List ℕ
base MatchConditions = codes "/spec/matchConditions"
base Variables = codes "/spec/variables"
base Validations = codes "/spec/validations"
base AuditAnnotations = codes "/spec/auditAnnotations"

-- the field that names an entry
abbrev pub label_key : PolicyList → List ℕ
label_key MatchConditions = codes "name"
label_key Variables = codes "name"
label_key Validations = codes "expression"
label_key AuditAnnotations = codes "key"

-- the field with an entry's expression
abbrev pub expression_key : PolicyList → List ℕ
expression_key MatchConditions = codes "expression"
expression_key Variables = codes "expression"
expression_key Validations = codes "expression"
expression_key AuditAnnotations = codes "valueExpression"

-- the fields of an entry
abbrev pub fields : PolicyList → List (List ℕ)
fields MatchConditions = codes "name" ∷ codes "expression" ∷ []
fields Variables = codes "name" ∷ codes "expression" ∷ []
fields Validations =
    codes "expression" ∷ codes "message" ∷ codes "reason" ∷ codes "messageExpression" ∷ []
fields AuditAnnotations = codes "key" ∷ codes "valueExpression" ∷ []

-- names and keys must differ; two validations may have the same expression
abbrev pub is_unique : PolicyList → Bool
is_unique MatchConditions = true
is_unique Variables = true
is_unique Validations = false
is_unique AuditAnnotations = true

-- ---- fields

-- a string field, which may be missing or null
abbrev pub text_of : List ℕ → Option Data → Result (Option (List ℕ)) FaultData
text_of p None = Ok None
text_of p (Some null) = Ok None
text_of p (Some (string s)) = Ok (Some s)
text_of p (Some _) = Err (record { pointer = p; kind = NotString })

abbrev pub or_missing : {A : Type 0} → List ℕ → Option A → Result A FaultData
or_missing p (Some a) = Ok a
or_missing p None = Err (record { pointer = p; kind = Missing })

abbrev pub required_text : List ℕ → Option Data → Result (List ℕ) FaultData
required_text p o = text_of p o >>= or_missing p

abbrev pub object_of : List ℕ → Option Data → Result Data FaultData
object_of p None = Err (record { pointer = p; kind = Missing })
object_of p (Some null) = Err (record { pointer = p; kind = Missing })
object_of p (Some (object ms)) = Ok (object ms)
object_of p (Some _) = Err (record { pointer = p; kind = NotObject })

-- a string that must be one of these
abbrev pub one_of : List ℕ → List (List ℕ) → List ℕ → Result (List ℕ) FaultData
one_of p known s =
    if is_word known s then Ok s else Err (record { pointer = p; kind = Unsupported s (joined known) })

abbrev pub required_one : List ℕ → List (List ℕ) → Option Data → Result (List ℕ) FaultData
required_one p known o = required_text p o >>= one_of p known

abbrev pub none_or_one_of : List ℕ → List (List ℕ) → Option (List ℕ) → Result (Option (List ℕ)) FaultData
none_or_one_of p known None = Ok None
none_or_one_of p known (Some s) = one_of p known s >>= (λ t. Ok (Some t))

-- such a string, which may be missing or null
abbrev pub optional_one : List ℕ → List (List ℕ) → Option Data → Result (Option (List ℕ)) FaultData
optional_one p known o = text_of p o >>= none_or_one_of p known

-- the first member whose name isn't one of these
abbrev pub unknown_in : List (List ℕ) → Members → Option (List ℕ)
unknown_in known no_members = None
unknown_in known (member k d ms) = if is_word known k then unknown_in known ms else Some k

abbrev pub unknown_field : List (List ℕ) → Data → Option (List ℕ)
unknown_field known d = option_and_then (unknown_in known) (as_object d)

abbrev pub unless_some : List ℕ → List (List ℕ) → Option (List ℕ) → Data → Result Data FaultData
unless_some p known None d = Ok d
unless_some p known (Some name) d = Err (record { pointer = key_pointer p name; kind = UnknownField (near known name) })

-- the value at a pointer, unless it has a field that isn't one of these
abbrev pub unless_unknown : List ℕ → List (List ℕ) → Data → Result Data FaultData
unless_unknown p known d = unless_some p known (unknown_field known d) d

-- ---- entries

-- a string field of the entry at this index
abbrev pub entry_text : PolicyList → ℕ → Data → List ℕ → Result (Option (List ℕ)) FaultData
entry_text l i d name = text_of (item_member_pointer (base l) i name) (get name d)

abbrev pub required_entry_text : PolicyList → ℕ → Data → List ℕ → Result (List ℕ) FaultData
required_entry_text l i d name = required_text (item_member_pointer (base l) i name) (get name d)

-- the reasons that a validation may give
abbrev pub reasons : List (List ℕ)
reasons =
    codes "Unauthorized" ∷ codes "Forbidden" ∷ codes "Invalid" ∷ codes "RequestEntityTooLarge" ∷ []

abbrev pub entry_reason : PolicyList → ℕ → Data → Result (Option (List ℕ)) FaultData
entry_reason l i d = optional_one (item_member_pointer (base l) i (codes "reason")) reasons (get (codes "reason") d)

-- the contents of the entry at this index
unfoldable pub entry_of : PolicyList → ℕ → Data → Result ItemData FaultData
entry_of l i d = do
  known ← unless_unknown (index_pointer (base l) i) (fields l) d
  label ← required_entry_text l i d (label_key l)
  expression ← required_entry_text l i d (expression_key l)
  message ← entry_text l i d (codes "message")
  message_expression ← entry_text l i d (codes "messageExpression")
  reason ← entry_reason l i d
  Ok (record {
    index = i;
    label = label;
    expression = expression;
    message = message;
    message_expression = message_expression;
  })

-- an entry, unless an earlier one has its name
abbrev pub unless_repeated : PolicyList → List ItemData → ℕ → ItemData → Result ItemData FaultData
unless_repeated l done i x = if is_unique l && list_any (λ y. bytes_eq x.label y.label) done
    then Err (record { pointer = item_member_pointer (base l) i (label_key l); kind = Repeated }) else Ok x

-- the entry that follows those already read
unfoldable pub next_entry : PolicyList → List ItemData → ℕ → Data → Result ItemData FaultData
next_entry l done i d = if is_some (as_object d) then entry_of l i d >>= unless_repeated l done i
    else Err (record { pointer = index_pointer (base l) i; kind = NotObject })

-- the entries of a list, appended to those already read
unfoldable pub entries_after : PolicyList → List ItemData → Items → Result (List ItemData) FaultData
entries_after l done no_items = Ok done
entries_after l done (item d ds) =
    next_entry l done (length done) d >>= (λ x. entries_after l (done ++ x ∷ []) ds)

abbrev pub list_of : PolicyList → Option Data → Result (List ItemData) FaultData
list_of l None = Ok []
list_of l (Some null) = Ok []
list_of l (Some (array ds)) = entries_after l [] ds
list_of l (Some _) = Err (record { pointer = key_pointer (codes "/spec") (keyword l); kind = NotList })

abbrev pub entries_of : PolicyList → Data → Result (List ItemData) FaultData
entries_of l spec = list_of l (get (keyword l) spec)

-- ---- the document

abbrev pub versions : List (List ℕ)
versions =
    codes "admissionregistration.k8s.io/v1" ∷ codes "admissionregistration.k8s.io/v1beta1"
    ∷ codes "admissionregistration.k8s.io/v1alpha1" ∷ []

abbrev pub kinds : List (List ℕ)
kinds = codes "ValidatingAdmissionPolicy" ∷ []

-- the fields of `spec`
abbrev pub spec_fields : List (List ℕ)
spec_fields =
    codes "paramKind" ∷ codes "matchConstraints" ∷ codes "matchConditions"
    ∷ codes "validations" ∷ codes "failurePolicy" ∷ codes "auditAnnotations"
    ∷ codes "variables" ∷ []

abbrev pub failure_policies : List (List ℕ)
failure_policies = codes "Fail" ∷ codes "Ignore" ∷ []

-- the default is `Fail`
abbrev pub is_ignore : Option (List ℕ) → Bool
is_ignore None = false
is_ignore (Some s) = bytes_eq s (codes "Ignore")

abbrev pub failure_pointer : List ℕ
failure_pointer = key_pointer (codes "/spec") (codes "failurePolicy")

-- whether `failurePolicy` is `Ignore`
abbrev pub ignores_in : Data → Result Bool FaultData
ignores_in spec =
    optional_one failure_pointer failure_policies (get (codes "failurePolicy") spec) >>= (λ o. Ok (is_ignore o))

abbrev pub params_pointer : List ℕ
params_pointer = key_pointer (codes "/spec") (codes "paramKind")

abbrev pub has_object : List ℕ → Option Data → Result Bool FaultData
has_object p None = Ok false
has_object p (Some null) = Ok false
has_object p (Some (object ms)) = Ok true
has_object p (Some _) = Err (record { pointer = p; kind = NotObject })

-- whether there is a `paramKind`
abbrev pub params_in : Data → Result Bool FaultData
params_in spec = has_object params_pointer (get (codes "paramKind") spec)

-- a policy, unless it has neither validations nor audit annotations
abbrev pub unless_empty : PolicyData → Result PolicyData FaultData
unless_empty p = elim p.validations as (λ _. Result PolicyData FaultData) [
  | [] ↦ elim p.annotations as (λ _. Result PolicyData FaultData) [
    | [] ↦ Err (record { pointer = key_pointer [] (codes "spec"); kind = NothingToCheck })
    | a ∷ as_ ↦ Ok p
  ]
  | v ∷ vs ↦ Ok p
]

-- the contents of a `spec`
unfoldable pub spec_of : Data → Result PolicyData FaultData
spec_of spec = do
  ignores ← ignores_in spec
  has_params ← params_in spec
  conditions ← entries_of MatchConditions spec
  variables ← entries_of Variables spec
  validations ← entries_of Validations spec
  annotations ← entries_of AuditAnnotations spec
  unless_empty (record {
    ignores = ignores;
    has_params = has_params;
    conditions = conditions;
    variables = variables;
    validations = validations;
    annotations = annotations;
  })

-- the `spec` of a policy's document
unfoldable pub spec_in : Data → Result Data FaultData
spec_in d = do
  version ← required_one (key_pointer [] (codes "apiVersion")) versions (get (codes "apiVersion") d)
  kind ← required_one (key_pointer [] (codes "kind")) kinds (get (codes "kind") d)
  spec ← object_of (key_pointer [] (codes "spec")) (get (codes "spec") d)
  unless_unknown (codes "/spec") spec_fields spec

-- the policy in a document
unfoldable pub policy_of : Data → Result PolicyData FaultData
policy_of d = spec_in d >>= spec_of

-- ---- views of the code's values

abbrev pub item_view : Item → ItemData
item_view x = record {
  index = x.index;
  label = x.label.now;
  expression = x.expression.now;
  message = option_map (λ s. s.now) x.message;
  message_expression = option_map (λ s. s.now) x.message_expression;
}

abbrev pub policy_view : Policy → PolicyData
policy_view p = record {
  ignores = p.ignores;
  has_params = p.has_params;
  conditions = map item_view p.conditions.items;
  variables = map item_view p.variables.items;
  validations = map item_view p.validations.items;
  annotations = map item_view p.annotations.items;
}

-- the view of what was read, or of the fault
abbrev pub reading_view : {A B : Type 0} → (A → B) → Result A Found → Result B FaultData
reading_view f (Ok a) = Ok (f a)
reading_view f (Err e) = Err (fault_seen e)

-- ---- for private clauses

-- the set has the names of these entries, if names of this list must differ
abbrev pub HasNames : PolicyList → BTreeSet (String Global) → List ItemData → Type 0
HasNames l names done =
    is_unique l ≡ true → (x : List ℕ) → contains_text names x ≡ list_any (λ y. bytes_eq x y.label) done
