-- Trusted by the clauses of kubecel.
-- The place where a text isn't JSON or has a key twice, and the words that report it. Sources: RFC 8259 (section 9: a
-- reader may limit how deep values nest); this project's own definition; a line ends with a line feed (POSIX.1-2017,
-- 3.206).
use Rattle.kubecel_io.specs.Documents.{IsFirstRefused, depth_after, mode_after}
use Rattle.kubecel_io.specs.declared.cut.Mode.{Mode}
use Rattle.kubecel_io.specs.declared.cut.Mode.TheVariants.{Outside}
use Rattle.kubecel_io.specs.declared.fault.Fault.{Fault}
use Rattle.kubecel_io.specs.declared.fault.FaultKind.{FaultKind}
use Rattle.kubecel_io.specs.declared.fault.FaultKind.TheVariants.{NotJson, CutShort, CommaBeforeEnd, BadString, NumberOutOfRange, TooDeep, RepeatedKey}
use Rattle.serde_json.specs.Read.{read}
use Rattle.std.specs.List.{count_by, suffix_len}
use Rattle.std.specs.Prelude.{◌≡◌, ◌≤◌, ℕ, ◌+◌, ◌==◌, ◌&&◌, ◌||◌, nat_lt, List, [], ◌∷◌, ◌++◌, Bool, true, false, not, is_some, codes, decimal, length, take}

abbrev pub fault_words : FaultKind → List ℕ
fault_words NotJson = codes "invalid JSON"
fault_words CutShort = codes "unexpected end of JSON"
fault_words CommaBeforeEnd = codes "invalid JSON: a comma before a closing bracket"
fault_words BadString = codes "invalid JSON: a string with a character or an escape that JSON doesn't have"
fault_words NumberOutOfRange = codes "a number out of the range of a double"
fault_words TooDeep = codes "more than 127 levels of lists and objects"
fault_words RepeatedKey = codes "repeated key"

-- `LINE:COLUMN: MESSAGE`
abbrev pub fault_text : Fault → List ℕ
fault_text f = decimal f.line ++ (codes ":" ++ (decimal f.column ++ (codes ": " ++ fault_words f.kind)))

abbrev pub is_line_feed : ℕ → Bool
is_line_feed x = x == 10

-- the line of the byte that follows a text, counted from 1
abbrev pub line_behind : List ℕ → ℕ
line_behind text = 1 + count_by is_line_feed text

-- the position of that byte in its line, counted from 1
abbrev pub column_behind : List ℕ → ℕ
column_behind text = 1 + suffix_len (λ x. not (is_line_feed x)) text

-- whether the document is JSON, and an object in it has a key twice
abbrev pub is_repeated_key : FaultKind → Bool
is_repeated_key NotJson = false
is_repeated_key CutShort = false
is_repeated_key CommaBeforeEnd = false
is_repeated_key BadString = false
is_repeated_key NumberOutOfRange = false
is_repeated_key TooDeep = false
is_repeated_key RepeatedKey = true

-- whether the document nests too deep to be read
abbrev pub is_too_deep : FaultKind → Bool
is_too_deep NotJson = false
is_too_deep CutShort = false
is_too_deep CommaBeforeEnd = false
is_too_deep BadString = false
is_too_deep NumberOutOfRange = false
is_too_deep TooDeep = true
is_too_deep RepeatedKey = false

-- whether so many brackets, given those that are open, are open at some place of a text that more than 127 are
unfoldable pub passes_depth : Mode → ℕ → List ℕ → Bool
passes_depth mode depth [] = false
passes_depth mode depth (x ∷ xs) =
    nat_lt 127 (depth_after mode depth x) || passes_depth (mode_after mode x) (depth_after mode depth x) xs

abbrev pub is_deep : List ℕ → Bool
is_deep text = passes_depth Outside 0 text

-- the kind of a fault tells whether the document is JSON, and whether it isn't read since it nests too deep
pub record IsKindOf (document : List ℕ) (kind : FaultKind) : Type 0 where
  pub repeated : is_repeated_key kind ≡ is_some (read document)
  pub deep : is_too_deep kind ≡ not (is_some (read document)) && is_deep document

-- the fault is in the first document that isn't JSON or has a key twice, or right after it
pub record IsFault (text : List ℕ) (f : Fault) : Type 0 where
  pub before : List ℕ
  pub document : List ℕ
  pub behind : List ℕ
  pub first : IsFirstRefused text before document behind
  pub offset : ℕ
  pub from_begin : length before ≤ offset
  pub to_end : offset ≤ length before + length document
  pub line : f.line ≡ line_behind (take offset text)
  pub column : f.column ≡ column_behind (take offset text)
  pub kind : IsKindOf document f.kind
