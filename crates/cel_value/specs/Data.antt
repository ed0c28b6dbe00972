-- Trusted by the headline.
-- Values and keys as contracts see them.
use Rattle.std.specs.Prelude.{ℕ, ℤ, List, Bool}
use Rattle.kube_types.specs.Addresses.{Address}
use Rattle.kube_types.specs.Prefixes.{Network}
use Rattle.kube_types.specs.FormatKind.{FormatKind}
use Rattle.kube_types.specs.Quantity.Decimal.{Decimal}
use Rattle.kube_types.specs.Version.Shown.{Parts}
use Rattle.kube_types.specs.Url.Shown.{Shown}

pub data KeyData : Type 0 where
  bool_key : Bool → KeyData
  int_key : ℤ → KeyData
  uint_key : ℕ → KeyData
  text_key : List ℕ → KeyData

mutual
  pub data Data : Type 0 where
    null : Data
    bool : Bool → Data
    int : ℤ → Data
    uint : ℕ → Data
    double : Data
    text : List ℕ → Data
    bytes : List ℕ → Data
    list : Items → Data
    map_of : Entries → Data
    -- the nanoseconds since 1970-01-01T00:00:00Z, and the
    -- minutes by which the local clock is ahead of UTC
    timestamp : ℤ → ℤ → Data
    -- its nanoseconds
    duration : ℤ → Data
    -- at most one value
    optional : Items → Data
    ip : Address → Data
    cidr : Network → Data
    quantity : Decimal → Data
    semver : Parts → Data
    -- its text, its parts, and whether it was read from a path
    url : Shown → Data
    format : FormatKind → Data

  pub data Items : Type 0 where
    no_items : Items
    item : Data → Items → Items

  -- the entries of a map, in key order
  pub data Entries : Type 0 where
    no_entries : Entries
    entry : KeyData → Data → Entries → Entries
