-- Maps and their new entries, and what a map has at an index.
use Rattle.std.proofs.Common.{◌≡◌, Option, Some, None, IsSome, Ok, Err, refl}
use Rattle.std.specs.Option.{option_map_or}
use Rattle.cel_value.specs.Data.{KeyData, bool_key, int_key, uint_key, text_key, Data, null, bool, int, uint, double, text, bytes, list, map_of, timestamp, duration, optional, ip, cidr, quantity, semver, url, format, Entries}
use Rattle.cel_value.specs.Faults.{no_key, duplicate_key}
use Rattle.cel_value.specs.Find.{find}
use Rattle.cel_value.specs.Keys.{put}
use Rattle.cel_semantics.specs.Members.{key_of, not_key, map_indexed, new_entry, put_in}

pub entry_is_new : (es : Entries) (v : Data) (k : KeyData) (o : Option Data) → o ≡ None → Ok (map_of (put k v es)) ≡ new_entry es v o k
entry_is_new es v k None h = refl
entry_is_new es v k (Some d) h = cc

pub entry_is_old : (es : Entries) (v : Data) (k : KeyData) (o : Option Data) → IsSome o → Err duplicate_key ≡ new_entry es v o k
entry_is_old es v k None h = cc
entry_is_old es v k (Some d) h = refl

-- a map indexed by a key
pub indexed_at_key : (es : Entries) (d : Data) (k : KeyData) → Some k ≡ key_of d → option_map_or Ok (find k es) (Err (no_key k)) ≡ map_indexed es d
indexed_at_key es null k h = cc
indexed_at_key es (bool b) k h = let e : k ≡ bool_key b = cc in rw e
indexed_at_key es (int n) k h = let e : k ≡ int_key n = cc in rw e
indexed_at_key es (uint n) k h = let e : k ≡ uint_key n = cc in rw e
indexed_at_key es double k h = cc
indexed_at_key es (text s) k h = let e : k ≡ text_key s = cc in rw e
indexed_at_key es (bytes s) k h = cc
indexed_at_key es (list ds) k h = cc
indexed_at_key es (map_of fs) k h = cc
indexed_at_key es (timestamp t o) k h = cc
indexed_at_key es (duration n) k h = cc
indexed_at_key es (optional ds) k h = cc
indexed_at_key es (ip a) k h = cc
indexed_at_key es (cidr c) k h = cc
indexed_at_key es (quantity q) k h = cc
indexed_at_key es (semver x) k h = cc
indexed_at_key es (url u) k h = cc
indexed_at_key es (format f) k h = cc

pub indexed_at_none : (es : Entries) (d : Data) → None ≡ key_of d → Err (not_key d) ≡ map_indexed es d
indexed_at_none es null h = refl
indexed_at_none es (bool b) h = cc
indexed_at_none es (int n) h = cc
indexed_at_none es (uint n) h = cc
indexed_at_none es double h = refl
indexed_at_none es (text s) h = cc
indexed_at_none es (bytes s) h = refl
indexed_at_none es (list ds) h = refl
indexed_at_none es (map_of fs) h = refl
indexed_at_none es (timestamp t o) h = refl
indexed_at_none es (duration n) h = refl
indexed_at_none es (optional ds) h = refl
indexed_at_none es (ip a) h = refl
indexed_at_none es (cidr c) h = refl
indexed_at_none es (quantity q) h = refl
indexed_at_none es (semver x) h = refl
indexed_at_none es (url u) h = refl
indexed_at_none es (format f) h = refl

pub put_at_none : (es : Entries) (d v : Data) → None ≡ key_of d → Err (not_key d) ≡ put_in (map_of es) d v
put_at_none es null v h = refl
put_at_none es (bool b) v h = cc
put_at_none es (int n) v h = cc
put_at_none es (uint n) v h = cc
put_at_none es double v h = refl
put_at_none es (text s) v h = cc
put_at_none es (bytes s) v h = refl
put_at_none es (list ds) v h = refl
put_at_none es (map_of fs) v h = refl
put_at_none es (timestamp t o) v h = refl
put_at_none es (duration n) v h = refl
put_at_none es (optional ds) v h = refl
put_at_none es (ip a) v h = refl
put_at_none es (cidr c) v h = refl
put_at_none es (quantity q) v h = refl
put_at_none es (semver x) v h = refl
put_at_none es (url u) v h = refl
put_at_none es (format f) v h = refl

pub put_at_key : (es : Entries) (d v : Data) (k : KeyData) → Some k ≡ key_of d → new_entry es v (find k es) k ≡ put_in (map_of es) d v
put_at_key es null v k h = cc
put_at_key es (bool b) v k h = let e : k ≡ bool_key b = cc in rw e
put_at_key es (int n) v k h = let e : k ≡ int_key n = cc in rw e
put_at_key es (uint n) v k h = let e : k ≡ uint_key n = cc in rw e
put_at_key es double v k h = cc
put_at_key es (text s) v k h = let e : k ≡ text_key s = cc in rw e
put_at_key es (bytes s) v k h = cc
put_at_key es (list ds) v k h = cc
put_at_key es (map_of fs) v k h = cc
put_at_key es (timestamp t o) v k h = cc
put_at_key es (duration n) v k h = cc
put_at_key es (optional ds) v k h = cc
put_at_key es (ip a) v k h = cc
put_at_key es (cidr c) v k h = cc
put_at_key es (quantity q) v k h = cc
put_at_key es (semver x) v k h = cc
put_at_key es (url u) v k h = cc
put_at_key es (format f) v k h = cc
