-- Scaffolding: only proofs and private clauses cite it.
-- The part of a member in place of the value of a map's entry.
use Rattle.std.specs.Prelude.{◌≡◌, ℕ, Some, slice_get}
use Rattle.cel_demand.specs.Alike.{Alike}
use Rattle.cel_demand.specs.Demand.{part_of}
use Rattle.cel_demand.specs.Places.{Entry, name_of}
use Rattle.cel_value.specs.Data.{Data, Entries, text_key}
use Rattle.cel_value.specs.Find.{find}
use Rattle.cel_value.specs.Replaced.{IsReplacedAt, entry_keys}

-- of the old entries the one at index i has the member's name, and there the new
-- ones have a value that is alike to what the bound entries have at that name
abbrev pub IsPutAt : ℕ → Entry → Entries → Entries → Entries → Type 0
IsPutAt i m bound es fs =
    (slice_get (entry_keys es) i ≡ Some (text_key (name_of m)))
    × (v : Data) × (w : Data) × (find (text_key (name_of m)) bound ≡ Some w) × Alike (part_of m.1) v w
    × IsReplacedAt i v es fs
