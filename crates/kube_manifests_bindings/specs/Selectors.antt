-- Trusted by the clauses of other library calls.
-- What a label selector asks for, and its shape: Kubernetes API reference, LabelSelector and LabelSelectorRequirement.
use Rattle.kube_manifests_bindings.specs.Faults.{FaultData, NotString}
use Rattle.kube_manifests_bindings.specs.Fields.{Shape, Any, Filled, OneOf, each_fits, fields_fit, fits_where, items_in, items_of, members_in, none_beside, object_of, required_list_fits, required_text, text_in}
use Rattle.kube_manifests_bindings.specs.declared.selector.Operator.{Operator}
use Rattle.kube_manifests_bindings.specs.declared.selector.Operator.TheVariants.{In, NotIn, Exists, DoesNotExist}
use Rattle.kube_manifests_bindings.specs.declared.selector.Requirement.{Requirement}
use Rattle.kube_manifests_bindings.specs.declared.selector.Selector.{Selector}
use Rattle.kube_manifests_documents.specs.Faults.{◌>>=◌}
use Rattle.kube_manifests_documents.specs.Pointers.{key_pointer, keyword_pointer}
use Rattle.serde_json.specs.Data.{Data, string, Items, Members, no_members, member}
use Rattle.serde_json.specs.Find.{get}
use Rattle.serde_json.specs.View.{items_view, view}
use Rattle.std.specs.Prelude.{ℕ, List, [], ◌∷◌, Option, Some, option_and_then, option_map, Result, Ok, Err, codes, if◌then◌else◌}
use Rattle.kube_manifests_texts.specs.Spelling.{is_word}
use Rattle.std.specs.Str.{bytes_eq}

-- ---- what it asks for

-- a requirement for the label of a key
pub record RequirementData : Type 0 where
  pub key : List ℕ
  pub operator : Operator
  -- they are strings
  pub values : Items

pub record SelectorData : Type 0 where
  -- `matchLabels`: labels that have to be there, with these values
  pub labels : Members
  -- `matchExpressions`
  pub requirements : Items

abbrev pub operator_of : List ℕ → Operator
operator_of s =
    if bytes_eq s (codes "In") then In
    else (if bytes_eq s (codes "NotIn") then NotIn else (if bytes_eq s (codes "Exists") then Exists else DoesNotExist))

abbrev pub requirement_of : Data → RequirementData
requirement_of d = record {
  key = text_in (get (codes "key") d);
  operator = operator_of (text_in (get (codes "operator") d));
  values = items_in (get (codes "values") d);
}

-- a selector that is missing is empty
abbrev pub selector_of : Option Data → SelectorData
selector_of o = record {
  labels = members_in (option_and_then (get (codes "matchLabels")) o);
  requirements = items_in (option_and_then (get (codes "matchExpressions")) o);
}

-- ---- its shape

abbrev pub label_fits : List ℕ → Data → Shape
label_fits p (string s) = Ok tt
label_fits p _ = Err (record { pointer = p; kind = NotString })

-- the members of the object at this pointer are strings
abbrev pub labels_fit : List ℕ → Members → Shape
labels_fit p no_members = Ok tt
labels_fit p (member k d ms) = label_fits (key_pointer p k) d >>= (λ t. labels_fit p ms)

abbrev pub requirement_fields : List (List ℕ)
requirement_fields = codes "key" ∷ codes "operator" ∷ codes "values" ∷ []

abbrev pub operators : List (List ℕ)
operators = codes "In" ∷ codes "NotIn" ∷ codes "Exists" ∷ codes "DoesNotExist" ∷ []

-- the operators that compare with values
abbrev pub comparing : List (List ℕ)
comparing = codes "In" ∷ codes "NotIn" ∷ []

-- there are values exactly where the operator compares with them
abbrev pub values_fit : List ℕ → List ℕ → Option Data → Shape
values_fit p operator o =
    if is_word comparing operator then required_list_fits p Any o
    else (items_of p o >>= none_beside p (codes "Exists or DoesNotExist"))

abbrev pub requirement_fits : List ℕ → Data → Shape
requirement_fits p d = do
  fields ← fields_fit p requirement_fields d
  key ← required_text (key_pointer p (codes "key")) Filled (get (codes "key") d)
  operator ← required_text (key_pointer p (codes "operator")) (OneOf operators) (get (codes "operator") d)
  values_fit (key_pointer p (codes "values")) operator (get (codes "values") d)

abbrev pub selector_fields : List (List ℕ)
selector_fields = codes "matchLabels" ∷ codes "matchExpressions" ∷ []

abbrev pub match_labels_fit : List ℕ → Data → Shape
match_labels_fit p d =
    object_of (key_pointer p (codes "matchLabels")) (get (codes "matchLabels") d)
    >>= fits_where (λ ls. labels_fit (keyword_pointer p (codes "matchLabels")) (members_in (Some ls)))

abbrev pub match_expressions_fit : List ℕ → Data → Shape
match_expressions_fit p d =
    items_of (key_pointer p (codes "matchExpressions")) (get (codes "matchExpressions") d)
    >>= each_fits requirement_fits (keyword_pointer p (codes "matchExpressions")) 0

-- the selector at this pointer
abbrev pub selector_fits : List ℕ → Data → Shape
selector_fits p d = do
  fields ← fields_fit p selector_fields d
  labels ← match_labels_fit p d
  match_expressions_fit p d

-- the selector in a field of the object at the pointer base, which may be missing; its own pointer is p
abbrev pub selector_in : List ℕ → List ℕ → List ℕ → Data → Result (Option Data) FaultData
selector_in base p name d = do
  selector ← object_of (key_pointer base name) (get name d)
  fits ← fits_where (selector_fits p) selector
  Ok selector

-- ---- views of the code's values

abbrev pub requirement_view : Requirement → RequirementData
requirement_view r = record { key = r.key.now; operator = r.operator; values = items_view r.values.now }

abbrev pub selector_view : Selector → SelectorData
selector_view s = selector_of (option_map (λ v. view v.now) s.value)
