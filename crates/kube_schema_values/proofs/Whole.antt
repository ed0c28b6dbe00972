-- Values that have all their defaults.
use Rattle.std.proofs.Common.{◌≡◌, ◌≢◌, ◌-◌, ℕ, suc, List, [], ◌∷◌, string_bytes, Some, refl, sym, ap, ◌∙◌, subst, arith}
use Rattle.serde_json.proofs.Views.{Entry}
use Rattle.serde_json.specs.Data.{Data, null, boolean, number, string, array, object, Items, Members, member}
use Rattle.serde_json.specs.Find.{as_object, as_array}
use Rattle.serde_json.specs.View.{view, members_view}
use Rattle.kube_schema_values.specs.DefaultsAccessors.{DefaultsAccessors}
use Rattle.kube_schema_values.specs.Defaults.{map_items, map_members, with_defaults, member_by, default_by, object_by, defaulted_value}
use Rattle.kube_schema_values.proofs.Fills.{filled_past, filled_plain, filled_alone, filled_object, filled_array}

object_here : (v : Data) (ms : Members) → Some ms ≡ as_object v → object ms ≡ v
object_here null ms o = cc
object_here (boolean b) ms o = cc
object_here (number x) ms o = cc
object_here (string t) ms o = cc
object_here (array ds) ms o = cc
object_here (object ns) ms o = let same : ns ≡ ms = cc in ap object (sym same)

array_here : (v : Data) (ds : Items) → Some ds ≡ as_array v → array ds ≡ v
array_here null ds o = cc
array_here (boolean b) ds o = cc
array_here (number x) ds o = cc
array_here (string t) ds o = cc
array_here (object ms) ds o = cc
array_here (array cs) ds o = let same : cs ≡ ds = cc in ap array (sym same)

module _ {S : Type 0} (accessors : DefaultsAccessors S) (k : ℕ) (s : S) (v : Data) where
  pub whole_object : (ms : Members) → k ≢ 0 → Some ms ≡ as_object v → with_defaults (default_by accessors (defaulted_value accessors (k - 1)) s) (accessors.keys s) ms ≡ ms → map_members (member_by accessors (defaulted_value accessors (k - 1)) s) ms ≡ ms
      → defaulted_value accessors k s v ≡ v
  unfolding object_by
  whole_object ms some o stable same =
      let next : k ≡ suc (k - 1) = omega arith in
      filled_object accessors k (k - 1) s v ms next o ∙ ap object (ap (with_defaults (default_by accessors (defaulted_value accessors (k - 1)) s) (accessors.keys s)) same ∙ stable) ∙ object_here v ms o

  pub whole_array : (p : S) (ds : Items) → k ≢ 0 → Some ds ≡ as_array v → Some p ≡ accessors.items s → map_items (defaulted_value accessors (k - 1) p) ds ≡ ds → defaulted_value accessors k s v ≡ v
  whole_array p ds some o at same =
      let next : k ≡ suc (k - 1) = omega arith in
      filled_array accessors k (k - 1) s p v ds next o at ∙ ap array same ∙ array_here v ds o

-- each return for one level
pub ruleset whole_levels = (filled_past, filled_plain, filled_alone, whole_array)

-- ---- in a loop over the entries of a map

-- each member stays as it is
abbrev pub Stay : (List ℕ → Data → Data) → List Entry → Type 0
Stay f es = map_members f (members_view es) ≡ members_view es

module _ (f : List ℕ → Data → Data) (es left : List Entry) (all : Stay f left → Stay f es) where
  pub stay_rest : (rest : List Entry) (e : Entry) (key : List ℕ) → left ≡ e ∷ rest → key ≡ string_bytes e.0 → f key (view e.1) ≡ view e.1 → Stay f rest → Stay f es
  stay_rest rest e key step same stays more =
      all (subst (Stay f) (sym step)
      (ap (λ d. member (string_bytes e.0) d (map_members f (members_view rest))) (subst (λ k. f k (view e.1) ≡ view e.1) same stays) ∙ ap (member (string_bytes e.0) (view e.1)) more))

  pub stay_all : left ≡ [] → Stay f es
  stay_all none = all (subst (Stay f) (sym none) refl)

pub ruleset stays = (stay_rest, stay_all)
