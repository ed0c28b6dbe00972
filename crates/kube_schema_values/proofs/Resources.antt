-- The fields that are added if an object lacks them.
use Rattle.std.proofs.Common.{◌≡◌, ℕ, List, Bool, true, false, if◌then◌else◌, Option, Some, None, option_map, is_some, string_bytes, nat_cmp, refl, sym, ap, ◌∙◌}
use Rattle.std.specs.BTreeMap.{is_at}
use Rattle.std.specs.Cmp.Lexicographic.{slice_cmp}
use Rattle.std.specs.Map.{lookup}
use Rattle.serde_json.proofs.Views.{Entry, view-lookup}
use Rattle.serde_json.specs.Find.{get_member}
use Rattle.serde_json.specs.View.{view, members_view}
use Rattle.serde_json.specs.declared.value.Value.{Value}
use Rattle.cel_value.specs.Data.{Data, Entries, text_key}
use Rattle.cel_value.specs.Keys.{put}
use Rattle.kube_schema_values.specs.Conversion.{put_absent}

-- the result of the query is the member's presence
found_there : (name : List ℕ) (es : List Entry) (b : Bool) → b ≡ is_some (lookup (is_at (λ k. slice_cmp nat_cmp name (string_bytes k))) es) → is_some (get_member name (members_view es)) ≡ b
found_there name es b e = ap is_some (sym (view-lookup name es)) ∙ same (lookup (is_at (λ k. slice_cmp nat_cmp name (string_bytes k))) es) ∙ sym e
  where
    same : (o : Option Value) → is_some (option_map view o) ≡ is_some o
    same None = refl
    same (Some v) = refl

pub put_there : (name : List ℕ) (es : List Entry) (d : Data) (to : Entries) → true ≡ is_some (lookup (is_at (λ k. slice_cmp nat_cmp name (string_bytes k))) es)
    → to ≡ put_absent (members_view es) name d to
put_there name es d to e = sym (ap (λ b. if b then to else put (text_key name) d to) (found_there name es true e))

pub put_here : (name : List ℕ) (es : List Entry) (d : Data) (to : Entries) → false ≡ is_some (lookup (is_at (λ k. slice_cmp nat_cmp name (string_bytes k))) es)
    → put (text_key name) d to ≡ put_absent (members_view es) name d to
put_here name es d to e = sym (ap (λ b. if b then to else put (text_key name) d to) (found_there name es false e))
