-- Trusted by the clauses of other library calls.
-- Fields of objects, by the kind of their values (Kubernetes API conventions, "Optional vs. Required": null is missing).
-- The first argument is the pointer of the field, or of the object.
use Rattle.kube_manifests_bindings.specs.Faults.{FaultData, Missing, NotObject, NotList, NotString, Unsupported, UnknownField, Beside}
use Rattle.kube_manifests_bindings.specs.declared.fields.Form as code
use Rattle.kube_manifests_bindings.specs.declared.fields.Form.TheVariants as form
use Rattle.kube_manifests_documents.specs.Faults.{◌>>=◌}
use Rattle.kube_manifests_documents.specs.Pointers.{index_pointer, key_pointer}
use Rattle.kube_manifests_documents.specs.Policies.{unknown_field}
use Rattle.kube_manifests_texts.specs.Spelling.{is_word, joined, near}
use Rattle.serde_json.specs.Data.{Data, null, string, array, object, Items, no_items, item, Members, no_members}
use Rattle.serde_json.specs.Find.{as_object}
use Rattle.std.specs.Prelude.{ℕ, suc, List, [], ◌∷◌, map, ⊤, Option, Some, None, option_and_then, Result, Ok, Err, if◌then◌else◌}

-- ---- what documents hold that have the shape of their type

-- the items of a list; none if it is missing
abbrev pub items_in : Option Data → Items
items_in (Some (array ds)) = ds
items_in _ = no_items

abbrev pub or_none : Option Members → Members
or_none None = no_members
or_none (Some ms) = ms

-- the members of an object; none if it is missing
abbrev pub members_in : Option Data → Members
members_in o = or_none (option_and_then as_object o)

-- a string; empty if it is missing
abbrev pub text_in : Option Data → List ℕ
text_in (Some (string s)) = s
text_in _ = []

-- ---- the shape of documents

-- whether something has the shape of its type, or its first fault
abbrev pub Shape : Type 0
Shape = Result ⊤ FaultData

-- which texts may stand somewhere
pub data Form : Type 0 where
  Any : Form
  -- any but the empty one
  Filled : Form
  OneOf : List (List ℕ) → Form

abbrev pub formed : List ℕ → Form → List ℕ → Result (List ℕ) FaultData
formed p Any s = Ok s
formed p Filled [] = Err (record { pointer = p; kind = Missing })
formed p Filled (c ∷ cs) = Ok (c ∷ cs)
formed p (OneOf known) s =
    if is_word known s then Ok s else Err (record { pointer = p; kind = Unsupported s (joined known) })

abbrev pub or_missing : {A : Type 0} → List ℕ → Option A → Result A FaultData
or_missing p (Some a) = Ok a
or_missing p None = Err (record { pointer = p; kind = Missing })

-- a string, which may be missing
abbrev pub text_of : List ℕ → Form → Option Data → Result (Option (List ℕ)) FaultData
text_of p form None = Ok None
text_of p form (Some null) = Ok None
text_of p form (Some (string s)) = formed p form s >>= (λ t. Ok (Some t))
text_of p form (Some _) = Err (record { pointer = p; kind = NotString })

abbrev pub required_text : List ℕ → Form → Option Data → Result (List ℕ) FaultData
required_text p form o = text_of p form o >>= or_missing p

-- an object, which may be missing
abbrev pub object_of : List ℕ → Option Data → Result (Option Data) FaultData
object_of p None = Ok None
object_of p (Some null) = Ok None
object_of p (Some (object ms)) = Ok (Some (object ms))
object_of p (Some _) = Err (record { pointer = p; kind = NotObject })

abbrev pub required_object : List ℕ → Option Data → Result Data FaultData
required_object p o = object_of p o >>= or_missing p

-- the items of a list; none if it is missing
abbrev pub items_of : List ℕ → Option Data → Result Items FaultData
items_of p None = Ok no_items
items_of p (Some null) = Ok no_items
items_of p (Some (array ds)) = Ok ds
items_of p (Some _) = Err (record { pointer = p; kind = NotList })

-- the items, of which there has to be one
abbrev pub unless_none : List ℕ → Items → Result Items FaultData
unless_none p no_items = Err (record { pointer = p; kind = Missing })
unless_none p (item d ds) = Ok (item d ds)

abbrev pub required_items : List ℕ → Option Data → Result Items FaultData
required_items p o = items_of p o >>= unless_none p

-- no items, since they may not stand beside something
abbrev pub none_beside : List ℕ → List ℕ → Items → Shape
none_beside p other no_items = Ok tt
none_beside p other (item d ds) = Err (record { pointer = p; kind = Beside other })

-- the items of the list at this pointer are such strings, from this index on
abbrev pub texts_fit : List ℕ → Form → ℕ → Items → Shape
texts_fit p form i no_items = Ok tt
texts_fit p form i (item (string s) ds) = formed (index_pointer p i) form s >>= (λ t. texts_fit p form (suc i) ds)
texts_fit p form i (item _ ds) = Err (record { pointer = index_pointer p i; kind = NotString })

-- a list of such strings, which may be missing
abbrev pub list_fits : List ℕ → Form → Option Data → Shape
list_fits p form o = items_of p o >>= texts_fit p form 0

abbrev pub required_list_fits : List ℕ → Form → Option Data → Shape
required_list_fits p form o = required_items p o >>= texts_fit p form 0

abbrev pub unless_some : List ℕ → List (List ℕ) → Option (List ℕ) → Shape
unless_some p known None = Ok tt
unless_some p known (Some name) = Err (record { pointer = key_pointer p name; kind = UnknownField (near known name) })

-- the object at a pointer has no field but these
abbrev pub fields_fit : List ℕ → List (List ℕ) → Data → Shape
fields_fit p known d = unless_some p known (unknown_field known d)

-- the value at a pointer is an object of this shape
abbrev pub object_fits : (List ℕ → Data → Shape) → List ℕ → Data → Shape
object_fits fits p (object ms) = fits p (object ms)
object_fits fits p _ = Err (record { pointer = p; kind = NotObject })

-- the items of the list at a pointer are objects of this shape, from this index on
abbrev pub each_fits : (List ℕ → Data → Shape) → List ℕ → ℕ → Items → Shape
each_fits fits p i no_items = Ok tt
each_fits fits p i (item d ds) = object_fits fits (index_pointer p i) d >>= (λ t. each_fits fits p (suc i) ds)

-- a value that may be missing
abbrev pub fits_where : (Data → Shape) → Option Data → Shape
fits_where fits None = Ok tt
fits_where fits (Some d) = fits d

-- ---- views of the code's values

abbrev pub form_view : code.Form → Form
form_view form.Any = Any
form_view form.Filled = Filled
form_view (form.OneOf known) = OneOf (map (λ s. s.now) known.now)
