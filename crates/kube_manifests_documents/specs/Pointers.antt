-- Trusted by the clauses of policies.
-- JSON Pointers, step by step (RFC 6901, section 3).
use Rattle.std.specs.List.{flat_map}
use Rattle.std.specs.Prelude.{ℕ, List, ◌++◌, ◌==◌, if◌then◌else◌, codes, decimal, encode_utf8}
use Rattle.std.specs.Str.{chars}

-- a character of a name, in UTF-8; `~` and `/` are escaped
abbrev pub escaped_character : ℕ → List ℕ
escaped_character c = if c == 126 then codes "~0" else (if c == 47 then codes "~1" else encode_utf8 c)

-- a name as one step
unfoldable pub token : List ℕ → List ℕ
token name = flat_map escaped_character (chars name)

-- to a member with any name
abbrev pub key_pointer : List ℕ → List ℕ → List ℕ
key_pointer p key = (p ++ codes "/") ++ token key

-- to a member whose name has no `~` and no `/`
abbrev pub keyword_pointer : List ℕ → List ℕ → List ℕ
keyword_pointer p keyword = p ++ (codes "/" ++ keyword)

-- to an item
abbrev pub index_pointer : List ℕ → ℕ → List ℕ
index_pointer p i = p ++ (codes "/" ++ decimal i)
