-- Trusted by the headline.
-- Values as contracts see them.
use Rattle.std.specs.Prelude.{List, [], ◌∷◌, Option, Some, None, map}
use Rattle.std.specs.declared.alloc.Global.{Global}
use Rattle.std.specs.declared.rc.Rc.{Rc}
use Rattle.cel_value.specs.Keys.{key_view}
use Rattle.cel_value.specs.Data.{Data, null, bool, int, uint, double, text, bytes, list, map_of, timestamp, duration, optional, ip, cidr, quantity, semver, url, format, Items, no_items, item, Entries, no_entries, entry}
use Rattle.cel_value.specs.declared.key.Key.{Key}
use Rattle.cel_value.specs.declared.kind.Kind.{Kind}
use Rattle.cel_value.specs.declared.kind.Kind.TheVariants as kind
use Rattle.cel_value.specs.declared.value.Held.{Held}
use Rattle.cel_value.specs.declared.value.Value.{Value}
use Rattle.cel_value.specs.declared.value.Value.TheVariants as value
use Rattle.cel_value_times.specs.Instants.{instant}
use Rattle.kube_types.specs.Networks.{network}
use Rattle.kube_types.specs.Shown.{address}
use Rattle.kube_types.specs.Formats as formats
use Rattle.kube_types.specs.Quantity.Shown.{number}
use Rattle.kube_types.specs.Version.Shown.{parts}
use Rattle.kube_types.specs.Url.Shown.{url_view}

abbrev pub items_of : List Data → Items
items_of [] = no_items
items_of (d ∷ ds) = item d (items_of ds)

abbrev pub entries_of : List (Key × Data) → Entries
entries_of [] = no_entries
entries_of (e ∷ es) = entry (key_view e.0) e.1 (entries_of es)

abbrev pub view : Value → Data
view value.Null = null
view (value.Bool b) = bool b
view (value.Int n) = int n
view (value.UInt n) = uint n
view value.Float = double
view (value.String s) = text s
view (value.Bytes s) = bytes s.value.items
view (value.List v) = list v.value
view (value.Map m) = map_of m
view (value.Timestamp t) = timestamp (instant t) t.offset_minutes
view (value.Duration d) = duration d.nanoseconds
view (value.Optional o) = optional o
view (value.Ip a) = ip (address a.value)
view (value.Cidr c) = cidr (network c.value)
view (value.Quantity q) = quantity (number q.value)
view (value.Semver v) = semver (parts v.value)
view (value.Url u) = url (url_view u.value)
view (value.Format f) = format (formats.kind_of f)

abbrev pub items_view : List Value → Items
items_view vs = items_of (map view vs)

abbrev pub entries_view : List (Key × Value) → Entries
entries_view es = entries_of (map (λ e. (e.0, view e.1)) es)

abbrev pub alone : Data → Items
alone d = item d no_items

-- the contents of an optional
abbrev pub held_view : Option (Rc Held Global) → Items
held_view None = no_items
held_view (Some r) = r.value

abbrev pub kind_of : Data → Kind
kind_of null = kind.Null
kind_of (bool b) = kind.Bool
kind_of (int n) = kind.Int
kind_of (uint n) = kind.UInt
kind_of double = kind.Float
kind_of (text s) = kind.String
kind_of (bytes s) = kind.Bytes
kind_of (list ds) = kind.List
kind_of (map_of es) = kind.Map
kind_of (timestamp t o) = kind.Timestamp
kind_of (duration n) = kind.Duration
kind_of (optional ds) = kind.Optional
kind_of (ip a) = kind.Ip
kind_of (cidr c) = kind.Cidr
kind_of (quantity q) = kind.Quantity
kind_of (semver v) = kind.Semver
kind_of (url u) = kind.Url
kind_of (format f) = kind.Format
