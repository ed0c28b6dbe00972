-- Trusted by the headline.
-- The text of a value, as `%s` prints it, and the text of an error.
use Rattle.std.specs.Prelude.{ℕ, List, [], ◌∷◌, ◌++◌, Bool, true, false, if◌then◌else◌, Option, None, Some, Result, Ok, Err, codes, decimal, String, string_bytes}
use Rattle.std.specs.declared.alloc.Global.{Global}
use Rattle.std.specs.Fmt.{signed_decimal}
use Rattle.cel_value.specs.Data.{KeyData, bool_key, int_key, uint_key, text_key, Data, null, bool, int, uint, text, list, map_of, Items, no_items, item, Entries, no_entries, entry}
use Rattle.cel_value.specs.View.{kind_of}
use Rattle.cel_value.specs.Faults.{Fault, undeclared, no_key, no_overload, function_error, overflow, division_by_zero, remainder_by_zero, out_of_bounds, unsupported_key, duplicate_key, invalid_pattern}
use Rattle.cel_value.specs.declared.kind.Kind.{Kind}

abbrev pub bool_text : Bool → List ℕ
bool_text true = codes "true"
bool_text false = codes "false"

-- inside a list or a map a string is in double quotes
abbrev pub quoted_if : Bool → List ℕ → List ℕ
quoted_if inner s = if inner then 34 ∷ (s ++ 34 ∷ []) else s

abbrev pub key_form : Bool → KeyData → List ℕ
key_form inner (bool_key b) = bool_text b
key_form inner (int_key n) = signed_decimal n
key_form inner (uint_key n) = decimal n
key_form inner (text_key s) = quoted_if inner s

-- the separator before an item that isn't the first
abbrev pub comma_if : Bool → List ℕ
comma_if later = if later then codes ", " else []

abbrev mutual
  -- the text of a value all of whose parts have one
  pub text_form : Bool → Data → List ℕ
  text_form inner null = codes "null"
  text_form inner (bool b) = bool_text b
  text_form inner (int n) = signed_decimal n
  text_form inner (uint n) = decimal n
  text_form inner (text s) = quoted_if inner s
  text_form inner (list ds) = 91 ∷ items_text false ds
  text_form inner (map_of es) = 123 ∷ entries_text false es
  text_form inner _ = []

  -- including the closing bracket
  pub items_text : Bool → Items → List ℕ
  items_text later no_items = 93 ∷ []
  items_text later (item d ds) = comma_if later ++ (text_form true d ++ items_text true ds)

  pub entries_text : Bool → Entries → List ℕ
  entries_text later no_entries = 125 ∷ []
  entries_text later (entry k d es) =
      comma_if later ++ (key_form true k ++ 58 ∷ (text_form true d ++ entries_text true es))

-- the first if there is one, else the second
abbrev pub first_of_two : Option Kind → Option Kind → Option Kind
first_of_two None p = p
first_of_two (Some k) p = Some k

abbrev mutual
  -- the kind of the first part that has no text
  pub textless : Data → Option Kind
  textless null = None
  textless (bool b) = None
  textless (int n) = None
  textless (uint n) = None
  textless (text s) = None
  textless (list ds) = items_textless ds
  textless (map_of es) = entries_textless es
  textless d = Some (kind_of d)

  pub items_textless : Items → Option Kind
  items_textless no_items = None
  items_textless (item d ds) = first_of_two (textless d) (items_textless ds)

  pub entries_textless : Entries → Option Kind
  entries_textless no_entries = None
  entries_textless (entry k d es) = first_of_two (textless d) (entries_textless es)

abbrev pub unless_textless : Option Kind → List ℕ → Result (List ℕ) Kind
unless_textless None s = Ok s
unless_textless (Some k) s = Err k

-- the text, or the kind that has none
abbrev pub printed_text : Data → Result (List ℕ) Kind
printed_text d = unless_textless (textless d) (text_form false d)

abbrev pub printed_view : Result (String Global) Kind → Result (List ℕ) Kind
printed_view (Ok s) = Ok (string_bytes s)
printed_view (Err k) = Err k

abbrev pub fault_text : Fault → List ℕ
fault_text (undeclared n) = codes "undeclared reference to '" ++ (n ++ codes "'")
fault_text (no_key k) = codes "no such key: " ++ key_form false k
fault_text (no_overload n) = codes "no such overload: " ++ n
fault_text (function_error f m) = codes "error executing function '" ++ (f ++ (codes "': " ++ m))
fault_text overflow = codes "integer overflow"
fault_text division_by_zero = codes "division by zero"
fault_text remainder_by_zero = codes "remainder by zero"
fault_text out_of_bounds = codes "index out of bounds"
fault_text unsupported_key = codes "unsupported map key"
fault_text duplicate_key = codes "duplicate map key"
fault_text (invalid_pattern f) = codes "invalid pattern in function '" ++ (f ++ codes "'")
