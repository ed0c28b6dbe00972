-- Strings become values one by one, and names with their values entries of a map.
use Rattle.std.proofs.Common.{◌≡◌, List, [], ◌∷◌, ◌++◌, map, sym, ap, ◌∙◌, String, Global, string_bytes}
use Rattle.std.specs.BTreeMap.{insert_entry}
use Rattle.std.proofs.lemmas.List.{map_push}
use Rattle.cel_value.specs.Data.{KeyData, Data, text}
use Rattle.cel_value.specs.Keys.{key_view, put}
use Rattle.cel_value.specs.View.{view, entries_view}
use Rattle.cel_value.specs.declared.key.Key.{Key}
use Rattle.cel_value.specs.declared.value.Value.{Value}
use Rattle.cel_value.proofs.MapEntries.{Entry, key_cmp, entries_view-insert_entry}

-- one more string
pub pushed : (vs ws : List Value) (v : Value) (ss : List (String Global)) (s : String Global) → map view vs ≡ map text (map string_bytes ss) → view v ≡ text (string_bytes s) → ws ≡ vs ++ v ∷ []
    → map view ws ≡ map text (map string_bytes (ss ++ s ∷ []))
pushed vs ws v ss s before same e =
    ap (map view) e ∙ map_push view vs v ∙ (λ i. before i ++ same i ∷ [])
    ∙ sym (ap (map text) (map_push string_bytes ss s) ∙ map_push text (map string_bytes ss) (string_bytes s))

-- one more entry
pub inserted : (old new : List Entry) (k : Key) (v : Value) (d : KeyData) (w : Data) → new ≡ insert_entry key_cmp old k v → key_view k ≡ d → view v ≡ w → entries_view new ≡ put d w (entries_view old)
inserted old new k v d w is same_key same_value = ap entries_view is ∙ entries_view-insert_entry old k v ∙ (λ i. put (same_key i) (same_value i) (entries_view old))
