-- Trusted by the headline.
-- Base64 texts. Source: RFC 4648, sections 4 and 5, with the characters
-- of both alphabets, and with or without the padding of section 3.2.
use Rattle.std.specs.Prelude.{ℕ, ◌%◌, ◌==◌, Bool, not, ◌&&◌, ◌||◌, nat_le, List, length, drop}
use Rattle.std.specs.Char.{is_ascii_alphanumeric}
use Rattle.std.specs.List.{list_all, prefix_len}

-- a letter, a digit, a plus (43), a slash (47), a hyphen (45) or an underscore (95)
abbrev pub is_base64_byte : ℕ → Bool
is_base64_byte c = is_ascii_alphanumeric c || (c == 43) || (c == 47) || (c == 45) || (c == 95)

-- the number of characters of an alphabet that a text starts with
abbrev pub letters_len : List ℕ → ℕ
letters_len text = prefix_len is_base64_byte text

-- at most two equals signs (61) follow, and if there are
-- any, the length of the whole text is a multiple of four
abbrev pub is_padding : List ℕ → ℕ → Bool
is_padding rest len =
    nat_le (length rest) 2 && list_all (λ c. c == 61) rest && ((length rest == 0) || (len % 4 == 0))

-- a single character left over from groups of four can't encode a byte
unfoldable pub is_base64 : List ℕ → Bool
is_base64 text =
    not (letters_len text % 4 == 1) && is_padding (drop (letters_len text) text) (length text)
