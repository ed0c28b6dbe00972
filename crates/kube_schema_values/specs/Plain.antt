-- Trusted by the headline.
-- How a JSON value is converted to CEL without a schema: Kubernetes
-- documentation, "Use CEL validation rules", the CEL types of schema types.
use Rattle.std.specs.Option.{option_map_or}
use Rattle.serde_json.specs.Data as json_data
use Rattle.serde_json.specs.Find.{as_i64, as_u64}
use Rattle.cel_value.specs.Data.{Data, null, bool, int, uint, double, text, list, map_of, text_key, Items, no_items, item, Entries, no_entries}
use Rattle.cel_value.specs.Keys.{put}
use Rattle.kube_schema_values.specs.Escape.{escape}

-- an int if it fits 64 bits signed, else a uint if it fits 64 bits unsigned, else a double
abbrev pub plain_number : json_data.Num → Data
plain_number n = option_map_or int (as_i64 n) (option_map_or uint (as_u64 n) double)

unfoldable mutual
  pub plain : json_data.Data → Data
  plain json_data.null = null
  plain (json_data.boolean b) = bool b
  plain (json_data.number n) = plain_number n
  plain (json_data.string s) = text s
  plain (json_data.array ds) = list (plain_items ds)
  plain (json_data.object ms) = map_of (plain_entries ms)

  pub plain_items : json_data.Items → Items
  plain_items json_data.no_items = no_items
  plain_items (json_data.item d ds) = item (plain d) (plain_items ds)

  -- each member at its escaped key
  pub plain_entries : json_data.Members → Entries
  plain_entries json_data.no_members = no_entries
  plain_entries (json_data.member k d ms) = put (text_key (escape k)) (plain d) (plain_entries ms)
