-- Scaffolding: only proofs and private clauses cite it.
-- For private clauses.
-- An index of old objects: it finds, by a text, the first of them that has this text. Objects of one identity have one
-- text.
use Rattle.kubecel_io.specs.Objects.{IdentityData, identity_of}
use Rattle.serde_json.specs.Data.{Data}
use Rattle.std.specs.BTreeMap.{BTreeMap, get_by_text}
use Rattle.std.specs.Global.{Global}
use Rattle.std.specs.Prelude.{◌≡◌, ℕ, ◌+◌, List, [], ◌∷◌, ◌++◌, Bool, if◌then◌else◌, Option, None, Some, String, codes}
use Rattle.std.specs.Str.{bytes_eq}

abbrev pub identity_text : IdentityData → List ℕ
identity_text i = i.name ++ (codes "\n" ++ (i.namespace ++ (codes "\n" ++ (i.kind ++ (codes "\n" ++ i.group)))))

-- whether an object has this text
abbrev pub has_text : List ℕ → Data → Bool
has_text k d = bytes_eq (identity_text (identity_of d)) k

-- the number of the first of these objects that has a text, where the first has the number n
abbrev pub first_from : List ℕ → ℕ → List Data → Option ℕ
first_from k n [] = None
first_from k n (d ∷ ds) = if has_text k d then Some n else first_from k (n + 1) ds

-- by each text the index gives the number of the first object that has it
abbrev pub IsIndex : BTreeMap (String Global) ℕ → List Data → Type 0
IsIndex index olds = (k : List ℕ) → get_by_text index k ≡ first_from k 0 olds
