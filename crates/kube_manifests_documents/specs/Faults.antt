-- Trusted by the clauses of policies.
-- The faults of documents that don't have the expected shape (JSON Pointer, RFC 6901, section 3).
use Rattle.kube_manifests_documents.specs.declared.fault.FaultKind.{FaultKind}
use Rattle.kube_manifests_documents.specs.declared.fault.FaultKind.TheVariants as kind
use Rattle.kube_manifests_documents.specs.declared.fault.Found.{Found}
use Rattle.kube_manifests_documents.specs.declared.fault.PolicyFault.{PolicyFault}
use Rattle.kube_manifests_documents.specs.declared.fault.Problem as code
use Rattle.kube_manifests_documents.specs.declared.fault.Problem.TheVariants as found
use Rattle.kube_manifests_documents.specs.declared.location.Location.{Location}
use Rattle.kube_manifests_documents.specs.declared.location.Location.TheVariants.{Field, FieldItem, Item, ItemField}
use Rattle.kube_manifests_documents.specs.Pointers.{index_pointer, key_pointer}
use Rattle.kube_manifests_texts.specs.Spelling.{joined, near}
use Rattle.std.specs.Prelude.{ℕ, List, ◌++◌, map, Option, Some, None, option_map, codes, Result, Ok, Err, string_bytes}

-- what is wrong at a location
pub data Problem : Type 0 where
  Missing : Problem
  NotObject : Problem
  NotList : Problem
  NotString : Problem
  NotBool : Problem
  -- the string that stands there, and those that are supported, with a comma between each two
  Unsupported : List ℕ → List ℕ → Problem
  -- the field that was probably meant
  UnknownField : Option (List ℕ) → Problem
  Repeated : Problem
  NothingToCheck : Problem

pub record FaultData : Type 0 where
  pub pointer : List ℕ
  pub kind : Problem

-- the second after the first, or the fault of the first
infixl 10 ◌>>=◌
abbrev pub ◌>>=◌ : {A B E : Type 0} → Result A E → (A → Result B E) → Result B E
Ok a >>= f = f a
Err e >>= f = Err e

-- the pointer of an item of the list in a member of the object at this pointer
abbrev pub member_item_pointer : List ℕ → List ℕ → ℕ → List ℕ
member_item_pointer base name i = index_pointer (key_pointer base name) i

-- the pointer of a member of an item of the list at this pointer
abbrev pub item_member_pointer : List ℕ → ℕ → List ℕ → List ℕ
item_member_pointer base i name = key_pointer (index_pointer base i) name

abbrev pub problem_text : Problem → List ℕ
problem_text Missing = codes "is required"
problem_text NotObject = codes "must be an object"
problem_text NotList = codes "must be a list"
problem_text NotString = codes "must be a string"
problem_text NotBool = codes "must be true or false"
problem_text (Unsupported value supported) =
    codes "has the unsupported value \"" ++ (value ++ (codes "\" (supported: " ++ (supported ++ codes ")")))
problem_text (UnknownField None) = codes "is an unknown field"
problem_text (UnknownField (Some name)) = codes "is an unknown field (did you mean " ++ (name ++ codes "?)")
problem_text Repeated = codes "has a duplicate name"
problem_text NothingToCheck = codes "must have validations or auditAnnotations"

-- such as `at /spec/failurePolicy: is required`
abbrev pub fault_text : FaultData → List ℕ
fault_text f = codes "at " ++ (f.pointer ++ (codes ": " ++ problem_text f.kind))

-- ---- views of the code's values

abbrev pub pointer_at : Location → List ℕ
pointer_at (Field base name) = key_pointer base.now name.now
pointer_at (FieldItem base name i) = member_item_pointer base.now name.now i
pointer_at (Item base i) = index_pointer base.now i
pointer_at (ItemField base i name) = item_member_pointer base.now i name.now

abbrev pub kind_view : FaultKind → Problem
kind_view kind.Missing = Missing
kind_view kind.NotObject = NotObject
kind_view kind.NotList = NotList
kind_view kind.NotString = NotString
kind_view kind.NotBool = NotBool
kind_view (kind.Unsupported value supported) = Unsupported (string_bytes value) (string_bytes supported)
kind_view (kind.UnknownField meant) = UnknownField (option_map (λ t. t.now) meant)
kind_view kind.Repeated = Repeated
kind_view kind.NothingToCheck = NothingToCheck

abbrev pub fault_view : PolicyFault → FaultData
fault_view f = record { pointer = string_bytes f.pointer; kind = kind_view f.kind }

abbrev pub problem_view : code.Problem → Problem
problem_view found.Missing = Missing
problem_view found.NotObject = NotObject
problem_view found.NotList = NotList
problem_view found.NotString = NotString
problem_view found.NotBool = NotBool
problem_view (found.Unsupported value supported) = Unsupported value.now (joined (map (λ t. t.now) supported.now))
problem_view (found.UnknownField name fields) = UnknownField (near (map (λ t. t.now) fields.now) name.now)
problem_view found.Repeated = Repeated
problem_view found.NothingToCheck = NothingToCheck

abbrev pub fault_seen : Found → FaultData
fault_seen f = record { pointer = pointer_at f.location; kind = problem_view f.problem }
