-- Trusted by the clauses of analysis and linter.
-- The JSON Pointers of a schema's nodes (RFC 6901, section 3).
use Rattle.std.specs.Prelude.{ℕ, List, ◌++◌, ◌==◌, if◌then◌else◌, codes, decimal, encode_utf8}
use Rattle.std.specs.List.{flat_map}
use Rattle.std.specs.Str.{chars}
use Rattle.kube_schema.specs.BranchKind.{BranchKind}
use Rattle.kube_schema.specs.Step.{keyword}

-- a character of a name, escaped, in UTF-8; `~` and `/` have other meanings in a pointer
abbrev pub escaped_character : ℕ → List ℕ
escaped_character c = if c == 126 then codes "~0" else (if c == 47 then codes "~1" else encode_utf8 c)

-- a name as one step of a pointer
unfoldable pub token : List ℕ → List ℕ
token name = flat_map escaped_character (chars name)

abbrev pub property_pointer : List ℕ → List ℕ → List ℕ
property_pointer p k = (p ++ codes "/properties/") ++ token k

abbrev pub items_pointer : List ℕ → List ℕ
items_pointer p = p ++ codes "/items"

abbrev pub additional_pointer : List ℕ → List ℕ
additional_pointer p = p ++ codes "/additionalProperties"

abbrev pub branch_pointer : BranchKind → List ℕ → ℕ → List ℕ
branch_pointer kind p i = p ++ (codes "/" ++ (keyword kind ++ (codes "/" ++ decimal i)))
