-- Trusted by the headline.
-- What binding reads of a node of a schema as JSON: Kubernetes API reference, JSONSchemaProps.
use Rattle.std.specs.Prelude.{ℕ, List, Bool, true, false, Option, Some, None, option_and_then, is_some, unwrap_or, if◌then◌else◌, codes}
use Rattle.std.specs.Option.{option_map_or}
use Rattle.serde_json.specs.Data.{Data}
use Rattle.serde_json.specs.Find.{get, as_bool, as_str, as_object}
use Rattle.kube_schema_values.specs.Formats.{format_named}
use Rattle.kube_schema_values.specs.declared.format.SchemaFormat.{SchemaFormat}
use Rattle.kube_schema_values.specs.declared.format.SchemaFormat.TheVariants as format

-- the keyword is present and `true`
abbrev pub is_set : List ℕ → Data → Bool
is_set keyword s = unwrap_or (option_and_then as_bool (get keyword s)) false

-- how strings are converted: `IntOrString` under
-- `x-kubernetes-int-or-string: true`, else what `format` names
unfoldable pub format_of : Data → SchemaFormat
format_of s =
    if is_set (codes "x-kubernetes-int-or-string") s then format.IntOrString
    else option_map_or format_named (option_and_then as_str (get (codes "format") s)) format.None

-- `additionalProperties` is present and not `false`
unfoldable pub is_map : Data → Bool
is_map s = option_map_or (λ d. unwrap_or (as_bool d) true) (get (codes "additionalProperties") s) false

unfoldable pub is_embedded : Data → Bool
is_embedded s = is_set (codes "x-kubernetes-embedded-resource") s

unfoldable pub items_of : Data → Option Data
items_of s = get (codes "items") s

unfoldable pub property_of : List ℕ → Data → Option Data
property_of name s = option_and_then (get name) (get (codes "properties") s)

-- `additionalProperties`, if it is an object
unfoldable pub additional_of : Data → Option Data
additional_of s = option_and_then (λ d. if is_some (as_object d) then Some d else None)
    (get (codes "additionalProperties") s)
