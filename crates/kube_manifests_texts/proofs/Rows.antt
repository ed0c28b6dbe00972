-- Maps by two texts, after one of them got a value.
use Rattle.std.proofs.Common.{◌≡◌, ℕ, List, [], Bool, true, false, ◌&&◌, cond, Option, Some, None, refl, sym, ap, ◌∙◌, String, string_bytes}
use Rattle.std.proofs.lemmas.Map.Text.{btree_map_updates_text}
use Rattle.std.proofs.lemmas.Slice.Eq.{bytes_eq-Decides}
use Rattle.std.specs.BTreeMap.{BTreeMap, UpdatesBy, get_by_text}
use Rattle.std.specs.Cmp.Lexicographic.{slice_cmp}
use Rattle.std.specs.Map.{lookup}
use Rattle.std.specs.Ordering.{is_eq, nat_cmp}
use Rattle.std.specs.Prelude.{option_and_then}
use Rattle.std.specs.Str.{bytes_eq}
use Rattle.std.specs.String.{string_cmp}
use Rattle.std.specs.declared.alloc.Global.{Global}

-- a map without entries has nothing
pub nothing_in : {X : Type 0} (m : BTreeMap (String Global) X) → m.entries ≡ [] → (t : List ℕ) → get_by_text m t ≡ None
nothing_in m e t = ap (lookup (λ k. is_eq (slice_cmp nat_cmp t (string_bytes k)))) e

-- a map with a value at a text
pub entered : {X : Type 0} (text key : List ℕ) (m n : BTreeMap (String Global) X) (w : Option X) → key ≡ text
    → UpdatesBy string_cmp (λ k. slice_cmp nat_cmp key (string_bytes k)) m n w
    → (t : List ℕ) → get_by_text n t ≡ cond (bytes_eq text t) w (get_by_text m t)
entered text key m n w is u t =
    btree_map_updates_text key m n w u t ∙ ap (λ x. cond (bytes_eq x t) w (get_by_text m t)) is

-- a map of maps, of which the one at the first text got a value at the second; `had` is what that one
-- had before
module _ (first second k t : List ℕ) (rows new : BTreeMap (String Global) (BTreeMap (String Global) ℕ)) (row : BTreeMap (String Global) ℕ) (had : List ℕ → Option ℕ) (position : ℕ) where
  abbrev in_row : Option (BTreeMap (String Global) ℕ) → Option ℕ
  in_row = option_and_then (λ r. get_by_text r t)

  by : get_by_text row t ≡ cond (bytes_eq second t) (Some position) (had t) → in_row (get_by_text rows first) ≡ had t
      → (b : Bool) → bytes_eq first k ≡ b → get_by_text new k ≡ cond b (Some row) (get_by_text rows k)
      → in_row (get_by_text new k) ≡ cond (b && bytes_eq second t) (Some position) (in_row (get_by_text rows k))
  by inner old true e outer =
      ap in_row outer ∙ inner
      ∙ ap (cond (bytes_eq second t) (Some position)) (sym old ∙ ap (λ q. in_row (get_by_text rows q)) ((bytes_eq-Decides first k).0 e))
  by inner old false e outer = ap in_row outer

  pub placed : get_by_text new k ≡ cond (bytes_eq first k) (Some row) (get_by_text rows k)
      → get_by_text row t ≡ cond (bytes_eq second t) (Some position) (had t) → in_row (get_by_text rows first) ≡ had t
      → in_row (get_by_text new k) ≡ cond (bytes_eq first k && bytes_eq second t) (Some position) (in_row (get_by_text rows k))
  placed outer inner old = by inner old (bytes_eq first k) refl outer
