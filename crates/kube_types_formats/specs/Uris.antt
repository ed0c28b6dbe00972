-- Trusted by the headline.
-- URIs, of which only the scheme is checked. Source: RFC 3986, section 3.1: a letter, then letters,
-- digits, `+`, `-` and `.`, up to the first colon.
use Rattle.std.specs.Prelude.{ℕ, ◌==◌, Bool, false, ◌&&◌, ◌||◌, List, [], ◌∷◌, length, take, position, Option, Some, None, if◌then◌else◌}
use Rattle.std.specs.Char.{is_ascii_alphabetic, is_ascii_alphanumeric}
use Rattle.std.specs.List.{list_all}
use Rattle.kube_types_formats.specs.declared.fault.Fault.{Fault}
use Rattle.kube_types_formats.specs.declared.fault.Fault.TheVariants.{Empty, NoScheme, InvalidScheme}
use Rattle.kube_types_formats.specs.Offsets.{is_one_of}

-- a letter, a digit, a plus (43), a hyphen (45) or a dot (46)
abbrev pub is_scheme_byte : ℕ → Bool
is_scheme_byte c = is_ascii_alphanumeric c || (c == 43) || (c == 45) || (c == 46)

abbrev pub is_scheme : List ℕ → Bool
is_scheme [] = false
is_scheme (c ∷ cs) = is_ascii_alphabetic c && list_all is_scheme_byte cs

-- the fault of a text whose first colon (58) is at this offset
abbrev pub scheme_fault : Option ℕ → List ℕ → Option Fault
scheme_fault None text = Some NoScheme
scheme_fault (Some colon) text = if is_scheme (take colon text) then None else Some InvalidScheme

unfoldable pub uri_fault : List ℕ → Option Fault
uri_fault text =
    if length text == 0 then Some Empty
    else scheme_fault (position (is_one_of (58 ∷ [])) text) text
