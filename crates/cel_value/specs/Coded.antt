-- Scaffolding: only proofs and private clauses cite it.
-- Lists and maps as a flat list of marks, from which they can be restored.
use Rattle.std.specs.Prelude.{ℕ, ℤ, List, [], ◌∷◌, ◌≡◌, Bool, refl}
use Rattle.std.specs.Coded.{Coded, codes, code_by}
use Rattle.kube_types.specs.Addresses.{Address}
use Rattle.kube_types.specs.Prefixes.{Network}
use Rattle.kube_types.specs.FormatKind.{FormatKind}
use Rattle.kube_types.specs.Quantity.Decimal.{Decimal}
use Rattle.kube_types.specs.Version.Shown.{Parts}
use Rattle.kube_types.specs.Url.Shown.{Shown}
use Rattle.cel_value.specs.Data.{KeyData, Data, null, bool, int, uint, double, text, bytes, list, map_of, timestamp, duration, optional, ip, cidr, quantity, semver, url, format, Items, no_items, item, Entries, no_entries, entry}

-- a mark: a value without parts, or one made of the parts that follow
pub data Mark : Type 0 where
  m_null : Mark
  m_bool : Bool → Mark
  m_int : ℤ → Mark
  m_uint : ℕ → Mark
  m_double : Mark
  m_text : List ℕ → Mark
  m_bytes : List ℕ → Mark
  m_timestamp : ℤ → ℤ → Mark
  m_duration : ℤ → Mark
  m_ip : Address → Mark
  m_cidr : Network → Mark
  m_quantity : Decimal → Mark
  m_semver : Parts → Mark
  m_url : Shown → Mark
  m_format : FormatKind → Mark
  m_list : Mark
  m_map : Mark
  m_optional : Mark
  m_end : Mark
  m_item : Mark
  m_last : Mark
  m_entry : KeyData → Mark

abbrev pub Marks : Type 0
Marks = List Mark

abbrev mutual
  marks : Data → Marks → Marks
  marks null = λ r. m_null ∷ r
  marks (bool b) = λ r. m_bool b ∷ r
  marks (int n) = λ r. m_int n ∷ r
  marks (uint n) = λ r. m_uint n ∷ r
  marks double = λ r. m_double ∷ r
  marks (text s) = λ r. m_text s ∷ r
  marks (bytes s) = λ r. m_bytes s ∷ r
  marks (list ds) = λ r. m_list ∷ items_marks ds r
  marks (map_of es) = λ r. m_map ∷ entries_marks es r
  marks (timestamp t o) = λ r. m_timestamp t o ∷ r
  marks (duration n) = λ r. m_duration n ∷ r
  marks (optional ds) = λ r. m_optional ∷ items_marks ds r
  marks (ip a) = λ r. m_ip a ∷ r
  marks (cidr c) = λ r. m_cidr c ∷ r
  marks (quantity q) = λ r. m_quantity q ∷ r
  marks (semver v) = λ r. m_semver v ∷ r
  marks (url u) = λ r. m_url u ∷ r
  marks (format f) = λ r. m_format f ∷ r

  items_marks : Items → Marks → Marks
  items_marks no_items = λ r. m_end ∷ r
  items_marks (item d ds) = λ r. m_item ∷ marks d (items_marks ds r)

  entries_marks : Entries → Marks → Marks
  entries_marks no_entries = λ r. m_last ∷ r
  entries_marks (entry k d es) = λ r. m_entry k ∷ marks d (entries_marks es r)

-- what the marks read so far stand for
pub data Piece : Type 0 where
  whole : Data → Piece
  some : Items → Piece
  pairs : Entries → Piece

abbrev list_pieces : (Items → Data) → List Piece → List Piece
list_pieces f (some ds ∷ ps) = whole (f ds) ∷ ps
list_pieces f _ = []

abbrev map_pieces : List Piece → List Piece
map_pieces (pairs es ∷ ps) = whole (map_of es) ∷ ps
map_pieces _ = []

abbrev item_pieces : List Piece → List Piece
item_pieces (whole d ∷ some ds ∷ ps) = some (item d ds) ∷ ps
item_pieces _ = []

abbrev entry_pieces : KeyData → List Piece → List Piece
entry_pieces k (whole d ∷ pairs es ∷ ps) = pairs (entry k d es) ∷ ps
entry_pieces k _ = []

abbrev read_one : Mark → List Piece → List Piece
read_one m_null ps = whole null ∷ ps
read_one (m_bool b) ps = whole (bool b) ∷ ps
read_one (m_int n) ps = whole (int n) ∷ ps
read_one (m_uint n) ps = whole (uint n) ∷ ps
read_one m_double ps = whole double ∷ ps
read_one (m_text s) ps = whole (text s) ∷ ps
read_one (m_bytes s) ps = whole (bytes s) ∷ ps
read_one (m_timestamp t o) ps = whole (timestamp t o) ∷ ps
read_one (m_duration n) ps = whole (duration n) ∷ ps
read_one (m_ip a) ps = whole (ip a) ∷ ps
read_one (m_cidr c) ps = whole (cidr c) ∷ ps
read_one (m_quantity q) ps = whole (quantity q) ∷ ps
read_one (m_semver v) ps = whole (semver v) ∷ ps
read_one (m_url u) ps = whole (url u) ∷ ps
read_one (m_format f) ps = whole (format f) ∷ ps
read_one m_list ps = list_pieces list ps
read_one m_map ps = map_pieces ps
read_one m_optional ps = list_pieces optional ps
read_one m_end ps = some no_items ∷ ps
read_one m_item ps = item_pieces ps
read_one m_last ps = pairs no_entries ∷ ps
read_one (m_entry k) ps = entry_pieces k ps

abbrev pieces : Marks → List Piece
pieces [] = []
pieces (m ∷ ms) = read_one m (pieces ms)

mutual
  marks_read : (d : Data) (r : Marks) → pieces (marks d r) ≡ whole d ∷ pieces r
  marks_read null r = refl
  marks_read (bool b) r = refl
  marks_read (int n) r = refl
  marks_read (uint n) r = refl
  marks_read double r = refl
  marks_read (text s) r = refl
  marks_read (bytes s) r = refl
  marks_read (list ds) r = rw (items_read ds r)
  marks_read (map_of es) r = rw (entries_read es r)
  marks_read (timestamp t o) r = refl
  marks_read (duration n) r = refl
  marks_read (optional ds) r = rw (items_read ds r)
  marks_read (ip a) r = refl
  marks_read (cidr c) r = refl
  marks_read (quantity q) r = refl
  marks_read (semver v) r = refl
  marks_read (url u) r = refl
  marks_read (format f) r = refl

  items_read : (ds : Items) (r : Marks) → pieces (items_marks ds r) ≡ some ds ∷ pieces r
  items_read no_items r = refl
  items_read (item d ds) r = rw (marks_read d (items_marks ds r), items_read ds r)

  entries_read : (es : Entries) (r : Marks) → pieces (entries_marks es r) ≡ pairs es ∷ pieces r
  entries_read no_entries r = refl
  entries_read (entry k d es) r = rw (marks_read d (entries_marks es r), entries_read es r)

abbrev first_items : List Piece → Items
first_items (some ds ∷ ps) = ds
first_items _ = no_items

abbrev first_entries : List Piece → Entries
first_entries (pairs es ∷ ps) = es
first_entries _ = no_entries

abbrev pub items_to : Items → Marks
items_to ds = items_marks ds []

abbrev pub items_from : Marks → Items
items_from ms = first_items (pieces ms)

abbrev pub entries_to : Entries → Marks
entries_to es = entries_marks es []

abbrev pub entries_from : Marks → Entries
entries_from ms = first_entries (pieces ms)

pub items_back : (ds : Items) → items_from (items_to ds) ≡ ds
items_back ds = rw (items_read ds [])

pub entries_back : (es : Entries) → entries_from (entries_to es) ≡ es
entries_back es = rw (entries_read es [])

pub items_code : Coded Items
items_code = code_by Marks (Prim.hlevel codes) items_to items_from items_back

pub entries_code : Coded Entries
entries_code = code_by Marks (Prim.hlevel codes) entries_to entries_from entries_back
