-- Trusted by the clauses of kubecel.
-- The JSON documents that follow one another in a text. RFC 8259 defines what a document is, which
-- bytes are white space (section 2), and how strings end (section 7). A document ends at white
-- space outside all brackets, at the bracket that closes its first one, or at the end of the text.
-- One in which an object has a key twice is refused.
use Rattle.kubecel_io.specs.Repeats.{has_unique_keys}
use Rattle.kubecel_io.specs.declared.cut.Mode.{Mode}
use Rattle.kubecel_io.specs.declared.cut.Mode.TheVariants.{Outside, Within, Escaped}
use Rattle.kubecel_io.specs.declared.documents.Reading.{Reading}
use Rattle.serde_json.specs.Data.{Data}
use Rattle.serde_json.specs.Read.{read}
use Rattle.serde_json.specs.View.{view}
use Rattle.std.specs.List.{list_all}
use Rattle.std.specs.Prelude.{◌≡◌, ℕ, ◌+◌, ◌-◌, ◌==◌, ◌&&◌, ◌||◌, List, [], ◌∷◌, ◌++◌, Bool, false, if◌then◌else◌, Option, Some, None, IsSome, option_map, option_and_then, map}
use Rattle.std.specs.Str.{IsUtf8}

-- blank, tab, line feed, carriage return
abbrev pub is_space : ℕ → Bool
is_space x = x == 32 || (x == 9 || (x == 10 || x == 13))

-- an opening brace or bracket
abbrev pub opens : ℕ → Bool
opens x = x == 123 || x == 91

-- a closing brace or bracket
abbrev pub closes : ℕ → Bool
closes x = x == 125 || x == 93

-- the position of the next byte: outside strings, inside one, or after a backslash in one
abbrev pub mode_after : Mode → ℕ → Mode
mode_after Outside x = if x == 34 then Within else Outside
mode_after Within x = if x == 92 then Escaped else (if x == 34 then Outside else Within)
mode_after Escaped x = Within

-- the number of open brackets after a byte
abbrev pub depth_after : Mode → ℕ → ℕ → ℕ
depth_after Outside depth x = if opens x then depth + 1 else (if closes x then depth - 1 else depth)
depth_after Within depth x = depth
depth_after Escaped depth x = depth

-- whether a document may end after a byte
abbrev pub ends : Mode → ℕ → ℕ → Bool
ends Outside depth x = depth_after Outside depth x == 0 && (closes x || is_space x)
ends Within depth x = false
ends Escaped depth x = false

-- adds a piece, unless it is white space only
abbrev pub with_piece : List ℕ → List (List ℕ) → List (List ℕ)
with_piece piece rest = if list_all is_space piece then rest else piece ∷ rest

-- the texts of the documents, the first of which begins with this piece
unfoldable pub pieces : Mode → ℕ → List ℕ → List ℕ → List (List ℕ)
pieces mode depth piece [] = with_piece piece []
pieces mode depth piece (x ∷ xs) =
    if ends mode depth x then with_piece (piece ++ x ∷ []) (pieces Outside 0 [] xs)
    else pieces (mode_after mode x) (depth_after mode depth x) (piece ++ x ∷ []) xs

-- the value of a document; none if it isn't JSON, or if an object in it has a key twice
unfoldable pub read_document : List ℕ → Option Data
read_document text = if has_unique_keys text then read text else None

abbrev pub before : Option Data → Option (List Data) → Option (List Data)
before x xs = option_and_then (λ d. option_map (λ ds. d ∷ ds) xs) x

-- the values of these texts; none if one of them has none
abbrev pub all_read : List (List ℕ) → Option (List Data)
all_read [] = Some []
all_read (p ∷ ps) = before (read_document p) (all_read ps)

-- the documents of a text, in order; none if one of them isn't JSON or has a key twice
abbrev pub documents : List ℕ → Option (List Data)
documents text = all_read (pieces Outside 0 [] text)

-- `document` is the text's first document that isn't JSON or has a key twice, with `before` and
-- `behind` around it
pub record IsFirstRefused (text before document behind : List ℕ) : Type 0 where
  pub whole : text ≡ before ++ (document ++ behind)
  pub cut : pieces Outside 0 [] text ≡ pieces Outside 0 [] before ++ document ∷ pieces Outside 0 [] behind
  pub read_before : IsSome (documents before)
  pub refused : read_document document ≡ None

-- ---- for private clauses

-- the values in xs followed by those in ys, if there are any
abbrev pub with_documents : List Data → Option (List Data) → Option (List Data)
with_documents xs ys = option_map (λ zs. xs ++ zs) ys

-- a reader with this rest of the text to read has read the documents before the current one
pub record IsAt (text : List ℕ) (r : Reading) (rest : List ℕ) : Type 0 where
  pub before : List ℕ
  pub whole : text ≡ before ++ (r.piece.now ++ rest)
  pub cut : (xs : List ℕ) → pieces Outside 0 [] (before ++ (r.piece.now ++ xs))
      ≡ pieces Outside 0 [] before ++ pieces r.mode r.depth r.piece.now xs
  pub values : documents before ≡ Some (map view r.found.items)
  pub characters : IsUtf8 (r.piece.now ++ rest)
