-- Trusted by the clauses of other library calls.
-- Which document has the earlier definition, where two definitions have the same group and kind.
use Rattle.std.specs.Prelude.{ℕ, List, ◌&&◌, ◌||◌, Bool, false, Option, Some, None, option_and_then, Result, Ok, Err, codes}
use Rattle.std.specs.List.{slice_get}
use Rattle.std.specs.Str.{bytes_eq}
use Rattle.serde_json.specs.Data.{Data, Items, no_items, item}
use Rattle.serde_json.specs.Find.{at, get}
use Rattle.kube_manifests_documents.specs.declared.crd_fault.CrdFault.{CrdFault}
use Rattle.kube_manifests_documents.specs.Definitions.{Crd, Fault, crd_of, list_of}
use Rattle.kube_manifests_texts.specs.Positions.{first_at}

-- the definition in a document, or at this index of the list there
abbrev pub definition_at : Option ℕ → Data → Option Data
definition_at None d = Some d
definition_at (Some i) d = option_and_then (at i) (get (codes "items") d)

-- whether a definition has this group and kind
abbrev pub is_named : List ℕ → List ℕ → Result Crd CrdFault → Bool
is_named group kind (Ok crd) = bytes_eq crd.group group && bytes_eq crd.kind kind
is_named group kind (Err f) = false

abbrev pub any_named : List ℕ → List ℕ → Items → Bool
any_named group kind no_items = false
any_named group kind (item d ds) = is_named group kind (crd_of d) || any_named group kind ds

abbrev pub named_in : List ℕ → List ℕ → Data → Option Items → Bool
named_in group kind d None = is_named group kind (crd_of d)
named_in group kind d (Some ds) = any_named group kind ds

-- whether a document has a definition of this group and kind
abbrev pub defines : List ℕ → List ℕ → Data → Bool
defines group kind d = named_in group kind d (list_of d)

abbrev pub first_named : List Data → Result Crd CrdFault → Option ℕ
first_named ds (Ok crd) = first_at (defines crd.group crd.kind) ds
first_named ds (Err f) = None

-- the position of the first document with a definition of the group and kind that the one at fault
-- has
unfoldable pub first_definition : List Data → Fault → Option ℕ
first_definition ds f =
    option_and_then (λ d. first_named ds (crd_of d))
    (option_and_then (definition_at f.item) (slice_get ds f.document))
