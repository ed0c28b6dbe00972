-- Trusted by the clauses of other library calls.
-- The name that an escaped text stands for.
use Rattle.std.specs.Prelude.{ℕ, zero, suc, ◌-◌, List, [], ◌∷◌, length, take, drop, Bool, ◌&&◌, nat_eq, if◌then◌else◌, codes, Option, Some, None}
use Rattle.std.specs.List.{starts_with}
use Rattle.std.specs.Str.{bytes_eq}
use Rattle.kube_schema_values.specs.Escape.{is_reserved, between_underscores, escape}

abbrev pub begins : List ℕ → List ℕ → Bool
begins s word = starts_with nat_eq s word

-- the text with each escaped character unescaped; its first
-- `skipped` bytes belong to a character that was unescaped before
unfoldable pub unescaped_text : ℕ → List ℕ → List ℕ
unescaped_text skipped [] = []
unescaped_text (suc n) (b ∷ bs) = unescaped_text n bs
unescaped_text zero (b ∷ bs) =
    if begins (b ∷ bs) (codes "__underscores__") then 95 ∷ 95 ∷ unescaped_text 14 bs
    else (if begins (b ∷ bs) (codes "__dot__") then 46 ∷ unescaped_text 6 bs
    else (if begins (b ∷ bs) (codes "__dash__") then 45 ∷ unescaped_text 7 bs
    else (if begins (b ∷ bs) (codes "__slash__") then 47 ∷ unescaped_text 8 bs
    else b ∷ unescaped_text 0 bs)))

-- the text without its first two and last two bytes
abbrev pub inner : List ℕ → List ℕ
inner t = take (length t - 4) (drop 2 t)

-- the text is a reserved word between double underscores
unfoldable pub is_reserved_form : List ℕ → Bool
is_reserved_form t = is_reserved (inner t) && bytes_eq t (between_underscores (inner t))

-- the only name whose escape the text may be
unfoldable pub name_behind : List ℕ → List ℕ
name_behind t = if is_reserved_form t then inner t else unescaped_text 0 t

-- the name whose escape is the text, if there is one
unfoldable pub unescape : List ℕ → Option (List ℕ)
unescape t = if bytes_eq (escape (name_behind t)) t then Some (name_behind t) else None
