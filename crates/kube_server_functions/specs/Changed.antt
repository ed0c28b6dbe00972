-- Trusted by the clauses of other library calls.
-- The calls of functions of `kube_functions` that an API server answers in another way: `string` of
-- times and bools, `int` of times, `timestamp` of ints, and those of `Texts.antt`.
use Rattle.std.specs.Prelude.{ℕ, List, [], ◌&&◌, codes, Option, Some, None, Ok, Err, ℤ, if◌then◌else◌}
use Rattle.std.specs.Option.{option_or}
use Rattle.std.specs.Str.{bytes_eq}
use Rattle.cel_value.specs.Data.{Data, bool, int, text, timestamp, duration}
use Rattle.cel_semantics.specs.Outcome.{Outcome}
use Rattle.kube_server_times.specs.Conversions.{int_of_timestamp, timestamp_at}
use Rattle.kube_server_times.specs.Limits.{int_limit}
use Rattle.kube_server_times.specs.Texts.{timestamp_text, duration_string}
use Rattle.kube_server_values.specs.Bools.{string_of_bool}
use Rattle.kube_server_functions.specs.Texts.{split_by_nothing, changed_for_text}

-- the answer for the function of this name alone
abbrev pub only_for : List ℕ → List ℕ → Outcome → Option Outcome
only_for wanted name answer = if bytes_eq name wanted then Some answer else None

-- the first of two functions
abbrev pub string_or_int : List ℕ → Outcome → Outcome → Option Outcome
string_or_int name shown number =
    if bytes_eq name (codes "string") then Some shown else only_for (codes "int") name number

unfoldable pub shown_timestamp : ℤ → ℤ → Outcome
shown_timestamp instant offset = Ok (text (timestamp_text instant offset))

unfoldable pub shown_duration : ℤ → Outcome
shown_duration nanoseconds = duration_string nanoseconds

-- the answer of a function of one value, if an API server gives another one
abbrev pub changed_for : List ℕ → Data → Option Outcome
changed_for name (timestamp t o) = string_or_int name (shown_timestamp t o) (int_of_timestamp t)
changed_for name (duration n) = string_or_int name (shown_duration n) (Err int_limit)
changed_for name (bool b) = only_for (codes "string") name (Ok (string_of_bool b))
changed_for name (int n) = only_for (codes "timestamp") name (timestamp_at n)
changed_for name (text s) = changed_for_text name s
changed_for name _ = None

-- the answer of `split` by an empty separator
abbrev pub changed_split : List ℕ → Data → Data → Option Data → Option Outcome
changed_split name (text s) (text t) limit =
    if bytes_eq name (codes "split") && bytes_eq t [] then Some (split_by_nothing s limit) else None
changed_split name v w limit = None

abbrev pub changed_for_two : List ℕ → Data → Option Data → Option Data → Option Outcome
changed_for_two name v (Some w) x = changed_split name v w x
changed_for_two name v None x = None

-- the answer of a function with these operands, if an API server gives another one
abbrev pub changed : List ℕ → Option Data → Option Data → Option Data → Option Outcome
changed name (Some v) w x = option_or (changed_for name v) (changed_for_two name v w x)
changed name None w x = None
