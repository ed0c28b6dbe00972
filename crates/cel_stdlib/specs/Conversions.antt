-- Trusted by the headline.
-- Conversions of values (CEL language definition, "List of Standard Definitions", `int`, `uint`,
-- `string`, `bytes`, `timestamp`, `duration`). A number out of the range of its new kind is an
-- overflow. A text that isn't such a number or time is an error of the function. Bytes that are no
-- UTF-8 become U+FFFD, one for each maximal invalid piece.
use Rattle.std.specs.Prelude.{ℕ, ◌^◌, ℤ, pos, negsuc, nat_lt, ◌&&◌, List, length, codes, Bool, Option, Some, None, Ok, Err, decimal, if◌then◌else◌}
use Rattle.std.specs.Fmt.{signed_decimal}
use Rattle.std.specs.Option.{option_map_or}
use Rattle.std.specs.Str.{all_ascii_digits}
use Rattle.std.specs.Str.Lossy.{utf8_lossy}
use Rattle.std.specs.Str.Parse.{digits_value, signed_digits_value, without_leading_plus, without_leading_sign}
use Rattle.cel_value.specs.Data.{Data, int, uint, text, bytes, timestamp, duration}
use Rattle.cel_value.specs.Faults.{Fault, no_overload, overflow, function_error}
use Rattle.cel_value.specs.DurationTexts.{duration_text}
use Rattle.cel_value.specs.TextFunctions as times
use Rattle.cel_semantics.specs.Arithmetic.{is_int, int_or_overflow}
use Rattle.cel_semantics.specs.Outcome.{Outcome}

-- one or more digits
abbrev pub is_numeral : List ℕ → Bool
is_numeral ds = nat_lt 0 (length ds) && all_ascii_digits ds

-- the int that a text denotes: `-`, `+` or no sign, then digits
abbrev pub int_text : List ℕ → Option ℤ
int_text s =
    if is_numeral (without_leading_sign s) && is_int (signed_digits_value 10 s)
    then Some (signed_digits_value 10 s) else None

-- the uint that a text denotes: `+` or no sign, then digits
abbrev pub uint_text : List ℕ → Option ℕ
uint_text s =
    if is_numeral (without_leading_plus s) && nat_lt (digits_value 10 (without_leading_plus s)) (2 ^ 64)
    then Some (digits_value 10 (without_leading_plus s)) else None

-- the error for a text that is no number
abbrev pub not_integer : List ℕ → Fault
not_integer name = function_error name (codes "invalid integer text")

-- the number that a text denotes, or the error if it denotes none
abbrev pub or_not_integer : {A : Type 0} → List ℕ → (A → Data) → Option A → Outcome
or_not_integer name f o = option_map_or (λ n. Ok (f n)) o (Err (not_integer name))

-- an int as a uint; a negative one is an overflow
abbrev pub natural : ℤ → Outcome
natural (pos n) = Ok (uint n)
natural (negsuc n) = Err overflow

abbrev pub int_of : Data → Outcome
int_of (int n) = Ok (int n)
int_of (uint n) = int_or_overflow (pos n)
int_of (text s) = or_not_integer (codes "int") int (int_text s)
int_of _ = Err (no_overload (codes "int"))

abbrev pub uint_of : Data → Outcome
uint_of (uint n) = Ok (uint n)
uint_of (int n) = natural n
uint_of (text s) = or_not_integer (codes "uint") uint (uint_text s)
uint_of _ = Err (no_overload (codes "uint"))

abbrev pub string_of : Data → Outcome
string_of (text s) = Ok (text s)
string_of (int n) = Ok (text (signed_decimal n))
string_of (uint n) = Ok (text (decimal n))
string_of (bytes s) = Ok (text (utf8_lossy s))
string_of (timestamp t o) = Ok (text (times.timestamp_text t o))
string_of (duration n) = Ok (text (duration_text n))
string_of _ = Err (no_overload (codes "string"))

abbrev pub bytes_of : Data → Outcome
bytes_of (bytes s) = Ok (bytes s)
bytes_of (text s) = Ok (bytes s)
bytes_of _ = Err (no_overload (codes "bytes"))

-- the time that a text denotes, or the error if it denotes none
abbrev pub or_no_time : {A : Type 0} → Fault → (A → Data) → Option A → Outcome
or_no_time fault f o = option_map_or (λ t. Ok (f t)) o (Err fault)

abbrev pub no_timestamp : Fault
no_timestamp = function_error (codes "timestamp") (codes "invalid timestamp")

abbrev pub no_duration : Fault
no_duration = function_error (codes "duration") (codes "invalid duration")

abbrev pub timestamp_of : Data → Outcome
timestamp_of (timestamp t o) = Ok (timestamp t o)
timestamp_of (text s) = or_no_time no_timestamp (λ p. timestamp p.0 p.1) (times.timestamp_of s)
timestamp_of _ = Err (no_overload (codes "timestamp"))

abbrev pub duration_of : Data → Outcome
duration_of (duration n) = Ok (duration n)
duration_of (text s) = or_no_time no_duration duration (times.duration_of s)
duration_of _ = Err (no_overload (codes "duration"))
