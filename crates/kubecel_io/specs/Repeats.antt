-- Trusted by the clauses of kubecel.
-- Keys that an object has twice. The names of an object should be unique (RFC 8259, section 4), and
-- an API server refuses others under strict field validation. The grammar of `json` keeps all
-- members of an object, with their keys unescaped; a value keeps only the last member of a key.
use Rattle.json.specs.Json as json
use Rattle.json.specs.Json.{document}
use Rattle.std.specs.Prelude.{ℕ, List, Bool, false, ◌||◌, not, Option, None, Some}
use Rattle.std.specs.Str.{bytes_eq}

-- whether one of these members has the key
abbrev pub has_key : List ℕ → json.Members → Bool
has_key k json.no_members = false
has_key k (json.member l j ms) = bytes_eq k l || has_key k ms

-- whether an object has a key twice, at any depth
abbrev mutual
  pub repeats_key : json.Json → Bool
  repeats_key json.null = false
  repeats_key (json.boolean b) = false
  repeats_key (json.number s) = false
  repeats_key (json.string s) = false
  repeats_key (json.array js) = repeats_key_in_items js
  repeats_key (json.object ms) = repeats_key_in_object ms

  pub repeats_key_in_items : json.Items → Bool
  repeats_key_in_items json.no_items = false
  repeats_key_in_items (json.item j js) = repeats_key j || repeats_key_in_items js

  pub repeats_key_in_object : json.Members → Bool
  repeats_key_in_object json.no_members = false
  repeats_key_in_object (json.member k j ms) = has_key k ms || (repeats_key j || repeats_key_in_object ms)

abbrev pub is_unique : Option json.Json → Bool
is_unique None = false
is_unique (Some j) = not (repeats_key j)

-- whether a text is JSON in which no object has a key twice
unfoldable pub has_unique_keys : List ℕ → Bool
has_unique_keys text = is_unique (document text)
