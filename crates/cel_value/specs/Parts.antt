-- Trusted by the headline.
-- The contents of values of one kind.
use Rattle.std.specs.Prelude.{ℕ, ℤ, pos, List, Bool, Option, None, Some}
use Rattle.cel_value.specs.Data.{Data, bool, int, uint, text, bytes, list, map_of, timestamp, duration, optional, ip, cidr, quantity, semver, url, format, Items, Entries}
use Rattle.kube_types.specs.Addresses.{Address}
use Rattle.kube_types.specs.Prefixes.{Network}
use Rattle.kube_types.specs.FormatKind.{FormatKind}
use Rattle.kube_types.specs.Quantity.Decimal.{Decimal}
use Rattle.kube_types.specs.Version.Shown.{Parts}
use Rattle.kube_types.specs.Url.Shown.{Shown}

-- the number of an int or a uint
abbrev pub number_in : Data → Option ℤ
number_in (int n) = Some n
number_in (uint n) = Some (pos n)
number_in _ = None

-- the int of a value, or None if it isn't one
abbrev pub int_in : Data → Option ℤ
int_in (int n) = Some n
int_in _ = None

-- the uint of a value, or None if it isn't one
abbrev pub uint_in : Data → Option ℕ
uint_in (uint n) = Some n
uint_in _ = None

abbrev pub bool_in : Data → Option Bool
bool_in (bool b) = Some b
bool_in _ = None

abbrev pub text_in : Data → Option (List ℕ)
text_in (text s) = Some s
text_in _ = None

abbrev pub bytes_in : Data → Option (List ℕ)
bytes_in (bytes s) = Some s
bytes_in _ = None

abbrev pub items_in : Data → Option Items
items_in (list ds) = Some ds
items_in _ = None

abbrev pub entries_in : Data → Option Entries
entries_in (map_of es) = Some es
entries_in _ = None

abbrev pub held_in : Data → Option Items
held_in (optional ds) = Some ds
held_in _ = None

-- the instant and the offset of a timestamp
abbrev pub timestamp_in : Data → Option (ℤ × ℤ)
timestamp_in (timestamp t o) = Some (t, o)
timestamp_in _ = None

-- the nanoseconds of a duration
abbrev pub duration_in : Data → Option ℤ
duration_in (duration n) = Some n
duration_in _ = None

abbrev pub ip_in : Data → Option Address
ip_in (ip a) = Some a
ip_in _ = None

abbrev pub cidr_in : Data → Option Network
cidr_in (cidr c) = Some c
cidr_in _ = None

abbrev pub quantity_in : Data → Option Decimal
quantity_in (quantity q) = Some q
quantity_in _ = None

abbrev pub semver_in : Data → Option Parts
semver_in (semver v) = Some v
semver_in _ = None

abbrev pub url_in : Data → Option Shown
url_in (url u) = Some u
url_in _ = None

abbrev pub format_in : Data → Option FormatKind
format_in (format f) = Some f
format_in _ = None
