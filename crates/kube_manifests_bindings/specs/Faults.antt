-- Trusted by the clauses of other library calls.
-- The faults of documents that don't have the shape of their type, and where they are (JSON Pointer, RFC 6901, section 3).
use Rattle.kube_manifests_bindings.specs.declared.fault.BindingFault.{BindingFault}
use Rattle.kube_manifests_bindings.specs.declared.fault.BindingProblem.{BindingProblem}
use Rattle.kube_manifests_bindings.specs.declared.fault.BindingProblem.TheVariants as kind
use Rattle.kube_manifests_bindings.specs.declared.fault.Found.{Found}
use Rattle.kube_manifests_bindings.specs.declared.fault.Problem as code
use Rattle.kube_manifests_bindings.specs.declared.fault.Problem.TheVariants as found
use Rattle.kube_manifests_bindings.specs.declared.location.Location.{Location}
use Rattle.kube_manifests_bindings.specs.declared.location.Location.TheVariants.{Whole, Field, FieldItem}
use Rattle.kube_manifests_bindings.specs.declared.location.Place.{Place}
use Rattle.kube_manifests_bindings.specs.declared.location.Place.TheVariants.{At, Member, Item}
use Rattle.kube_manifests_documents.specs.Pointers.{index_pointer, key_pointer, keyword_pointer}
use Rattle.kube_manifests_texts.specs.Spelling.{joined, near}
use Rattle.std.specs.Prelude.{ℕ, List, ◌++◌, map, Option, Some, None, option_map, codes, Result, Ok, Err, string_bytes}

-- what is wrong at a location
pub data Problem : Type 0 where
  Missing : Problem
  NotObject : Problem
  NotList : Problem
  NotString : Problem
  -- the string that stands there, and those that are supported, with a comma between each two
  Unsupported : List ℕ → List ℕ → Problem
  -- the field that was probably meant
  UnknownField : Option (List ℕ) → Problem
  Repeated : Problem
  -- what it may not stand beside
  Beside : List ℕ → Problem

pub record FaultData : Type 0 where
  pub pointer : List ℕ
  pub kind : Problem

abbrev pub problem_text : Problem → List ℕ
problem_text Missing = codes "is required"
problem_text NotObject = codes "must be an object"
problem_text NotList = codes "must be a list"
problem_text NotString = codes "must be a string"
problem_text (Unsupported value supported) =
    codes "has the unsupported value \"" ++ (value ++ (codes "\" (supported: " ++ (supported ++ codes ")")))
problem_text (UnknownField None) = codes "is an unknown field"
problem_text (UnknownField (Some name)) = codes "is an unknown field (did you mean " ++ (name ++ codes "?)")
problem_text Repeated = codes "is a duplicate"
problem_text (Beside other) = codes "must not stand beside " ++ other

-- such as `at /spec/policyName: is required`
abbrev pub fault_text : FaultData → List ℕ
fault_text f = codes "at " ++ (f.pointer ++ (codes ": " ++ problem_text f.kind))

-- ---- views of the code's values

abbrev pub place_pointer : Place → List ℕ
place_pointer (At p) = p.now
place_pointer (Member p keyword) = keyword_pointer p.now keyword.now
place_pointer (Item p keyword i) = index_pointer (keyword_pointer p.now keyword.now) i

abbrev pub pointer_at : Location → List ℕ
pointer_at (Whole p) = place_pointer p
pointer_at (Field p name) = key_pointer (place_pointer p) name.now
pointer_at (FieldItem p name i) = index_pointer (key_pointer (place_pointer p) name.now) i

abbrev pub kind_view : BindingProblem → Problem
kind_view kind.Missing = Missing
kind_view kind.NotObject = NotObject
kind_view kind.NotList = NotList
kind_view kind.NotString = NotString
kind_view (kind.Unsupported value supported) = Unsupported (string_bytes value) (string_bytes supported)
kind_view (kind.UnknownField meant) = UnknownField (option_map (λ t. t.now) meant)
kind_view kind.Repeated = Repeated
kind_view (kind.Beside other) = Beside other.now

abbrev pub fault_view : BindingFault → FaultData
fault_view f = record { pointer = string_bytes f.pointer; kind = kind_view f.kind }

abbrev pub problem_view : code.Problem → Problem
problem_view found.Missing = Missing
problem_view found.NotObject = NotObject
problem_view found.NotList = NotList
problem_view found.NotString = NotString
problem_view (found.Unsupported value supported) = Unsupported value.now (joined (map (λ t. t.now) supported.now))
problem_view (found.UnknownField name fields) = UnknownField (near (map (λ t. t.now) fields.now) name.now)
problem_view found.Repeated = Repeated
problem_view (found.Beside other) = Beside other.now

abbrev pub fault_seen : Found → FaultData
fault_seen f = record { pointer = pointer_at f.location; kind = problem_view f.problem }

-- the view of what was read, or of the fault
abbrev pub reading_view : {A B : Type 0} → (A → B) → Result A Found → Result B FaultData
reading_view f (Ok a) = Ok (f a)
reading_view f (Err e) = Err (fault_seen e)
