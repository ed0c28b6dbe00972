-- Trusted by the clauses of other library calls.
-- The classes of ASCII characters that have a name (Go's package `regexp/syntax`, "Syntax", ASCII
-- character classes and Perl character classes), and what is written for them in brackets, in the
-- syntax of the crate `regex` (docs.rs/regex, "Syntax", ASCII character classes), whose classes of
-- these names are the same.
use Rattle.std.specs.Prelude.{ℕ, nat_eq, Bool, true, false, ◌&&◌, not, List, ◌∷◌, [], codes, Option, Some, None, Result, Ok, Err, if◌then◌else◌}
use Rattle.std.specs.Option.{option_or}
use Rattle.std.specs.Str.{bytes_eq}
use Rattle.kube_server_patterns.specs.declared.named.Named.{Named}
use Rattle.kube_server_patterns.specs.declared.named.Named.TheVariants.{Alnum, Alpha, Ascii, Blank, Cntrl, Digit, Graph, Lower, Print, Punct, Space, Upper, Word, Xdigit, Gap}
use Rattle.kube_server_patterns.specs.declared.refusal.Limit.TheVariants.{FoldedClass}
use Rattle.kube_server_patterns.specs.declared.refusal.Refusal.{Refusal}
use Rattle.kube_server_patterns.specs.declared.refusal.Refusal.TheVariants.{Unsupported}

abbrev pub class_to_d : List ℕ → Option Named
class_to_d name =
    if bytes_eq name (codes "alnum") then Some Alnum
    else (if bytes_eq name (codes "alpha") then Some Alpha
    else (if bytes_eq name (codes "ascii") then Some Ascii
    else (if bytes_eq name (codes "blank") then Some Blank
    else (if bytes_eq name (codes "cntrl") then Some Cntrl
    else (if bytes_eq name (codes "digit") then Some Digit
    else None)))))

abbrev pub class_from_g : List ℕ → Option Named
class_from_g name =
    if bytes_eq name (codes "graph") then Some Graph
    else (if bytes_eq name (codes "lower") then Some Lower
    else (if bytes_eq name (codes "print") then Some Print
    else (if bytes_eq name (codes "punct") then Some Punct
    else (if bytes_eq name (codes "space") then Some Space
    else (if bytes_eq name (codes "upper") then Some Upper
    else (if bytes_eq name (codes "word") then Some Word
    else (if bytes_eq name (codes "xdigit") then Some Xdigit
    else None)))))))

-- the class with this name, as in `[:alpha:]`
unfoldable pub class_of_name : List ℕ → Option Named
class_of_name name = option_or (class_to_d name) (class_from_g name)

-- the class that a letter stands for after a backslash, and whether it is negated
unfoldable pub lettered : ℕ → Option (Named × Bool)
lettered c =
    if nat_eq c 100 then Some (Digit, false)
    else (if nat_eq c 68 then Some (Digit, true)
    else (if nat_eq c 115 then Some (Gap, false)
    else (if nat_eq c 83 then Some (Gap, true)
    else (if nat_eq c 119 then Some (Word, false)
    else (if nat_eq c 87 then Some (Word, true)
    else None)))))

-- the class is the same where case is ignored
abbrev pub is_without_case : Named → Bool
is_without_case Blank = true
is_without_case Cntrl = true
is_without_case Digit = true
is_without_case Punct = true
is_without_case Space = true
is_without_case Xdigit = true
is_without_case Gap = true
is_without_case _ = false

-- The class. Where case is ignored, one that would then be another one isn't supported.
abbrev pub unless_folded : Named → Bool → Result Named Refusal
unless_folded class folds =
    if folds && not (is_without_case class) then Err (Unsupported FoldedClass) else Ok class

-- in brackets, `[:alpha:]` or the like; `\s` is `[:space:]` without the vertical tab
abbrev pub class_text : Named → List ℕ
class_text Alnum = codes "[:alnum:]"
class_text Alpha = codes "[:alpha:]"
class_text Ascii = codes "[:ascii:]"
class_text Blank = codes "[:blank:]"
class_text Cntrl = codes "[:cntrl:]"
class_text Digit = codes "[:digit:]"
class_text Graph = codes "[:graph:]"
class_text Lower = codes "[:lower:]"
class_text Print = codes "[:print:]"
class_text Punct = codes "[:punct:]"
class_text Space = codes "[:space:]"
class_text Upper = codes "[:upper:]"
class_text Word = codes "[:word:]"
class_text Xdigit = codes "[:xdigit:]"
class_text Gap = 91 ∷ 9 ∷ 10 ∷ 12 ∷ 13 ∷ 32 ∷ 93 ∷ []

-- in brackets, all other characters
abbrev pub negated_text : Named → List ℕ
negated_text Alnum = codes "[:^alnum:]"
negated_text Alpha = codes "[:^alpha:]"
negated_text Ascii = codes "[:^ascii:]"
negated_text Blank = codes "[:^blank:]"
negated_text Cntrl = codes "[:^cntrl:]"
negated_text Digit = codes "[:^digit:]"
negated_text Graph = codes "[:^graph:]"
negated_text Lower = codes "[:^lower:]"
negated_text Print = codes "[:^print:]"
negated_text Punct = codes "[:^punct:]"
negated_text Space = codes "[:^space:]"
negated_text Upper = codes "[:^upper:]"
negated_text Word = codes "[:^word:]"
negated_text Xdigit = codes "[:^xdigit:]"
negated_text Gap = 91 ∷ 94 ∷ 9 ∷ 10 ∷ 12 ∷ 13 ∷ 32 ∷ 93 ∷ []
