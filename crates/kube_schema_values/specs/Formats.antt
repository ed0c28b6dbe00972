-- Trusted by the headline.
-- How a string is converted by the `format` of its schema: Kubernetes API
-- reference, JSONSchemaProps, and "Use CEL validation rules", the CEL types
-- of schema types. A string that isn't in that format stays a string.
use Rattle.std.specs.Prelude.{ℕ, List, if◌then◌else◌, codes}
use Rattle.std.specs.Option.{option_map_or}
use Rattle.std.specs.Str.{bytes_eq}
use Rattle.base64.specs.Engines.{standard}
use Rattle.base64.specs.GeneralPurpose.{decoded_of}
use Rattle.cel_value.specs.Data.{Data, text, bytes, timestamp, duration}
use Rattle.cel_value.specs.TextFunctions.{duration_of, timestamp_of}
use Rattle.kube_schema_values.specs.declared.format.SchemaFormat.{SchemaFormat}
use Rattle.kube_schema_values.specs.declared.format.SchemaFormat.TheVariants as format

unfoldable pub format_named : List ℕ → SchemaFormat
format_named name =
    if bytes_eq name (codes "date-time") then format.DateTime
    else (if bytes_eq name (codes "duration") then format.Duration
    else (if bytes_eq name (codes "byte") then format.Bytes
    else format.None))

-- the instant of RFC 3339, section 5.6, with its offset
unfoldable pub timestamp_or_text : List ℕ → Data
timestamp_or_text s = option_map_or (λ t. timestamp t.0 t.1) (timestamp_of s) (text s)

-- the duration of Go's `time.ParseDuration`
unfoldable pub duration_or_text : List ℕ → Data
duration_or_text s = option_map_or duration (duration_of s) (text s)

-- the bytes whose padded encoding it is (RFC 4648, section 4)
unfoldable pub bytes_or_text : List ℕ → Data
bytes_or_text s = option_map_or bytes (decoded_of standard s) (text s)

unfoldable pub value_by_format : SchemaFormat → List ℕ → Data
value_by_format format.DateTime s = timestamp_or_text s
value_by_format format.Duration s = duration_or_text s
value_by_format format.Bytes s = bytes_or_text s
value_by_format format.IntOrString s = text s
value_by_format format.None s = text s
