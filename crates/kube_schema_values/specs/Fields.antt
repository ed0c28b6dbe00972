-- Trusted by laws alone.
-- The fields that an embedded resource has in addition to its own: Kubernetes documentation,
-- "Extend the Kubernetes API with CustomResourceDefinitions", `x-kubernetes-embedded-resource`.
use Rattle.std.specs.Prelude.{ℕ, List, [], Bool, Option, Some, None, if◌then◌else◌, codes}
use Rattle.std.specs.Str.{bytes_eq}
use Rattle.cel_value.specs.Data.{Data, map_of, no_entries, text}

-- the value at a name that the object itself lacks, if the object is an embedded resource
unfoldable pub field_besides : Bool → List ℕ → Option Data
field_besides embedded name =
    if embedded then
    (if bytes_eq name (codes "metadata") then Some (map_of no_entries)
    else (if bytes_eq name (codes "kind") then Some (text [])
    else (if bytes_eq name (codes "apiVersion") then Some (text [])
    else None)))
    else None
