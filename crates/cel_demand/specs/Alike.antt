-- Trusted by the clauses of other library calls.
-- When two values are alike in a part of them.
use Rattle.std.specs.Prelude.{◌≡◌, ◌⊎◌, ℕ, List, [], ◌∷◌, Option, Some, None}
use Rattle.cel_semantics.specs.Bindings.{Bindings, binding}
use Rattle.cel_semantics.specs.Ranges.{items_list}
use Rattle.cel_value.specs.Data.{text_key, Data, list, map_of, Items, Entries}
use Rattle.cel_value.specs.Find.{find}
use Rattle.cel_demand.specs.Part.{Part, nothing, whole, each_item, some_members, Members, no_members, member}

-- both present and alike, or both absent
abbrev pub OptionsAlike : {A : Type 0} → (A → A → Type 0) → Option A → Option A → Type 0
OptionsAlike R None None = Unit {0}
OptionsAlike R None (Some w) = ⊥
OptionsAlike R (Some v) None = ⊥
OptionsAlike R (Some v) (Some w) = R v w

-- equally many, and those at each index alike
abbrev pub ListsAlike : {A : Type 0} → (A → A → Type 0) → List A → List A → Type 0
ListsAlike R [] [] = Unit {0}
ListsAlike R [] (w ∷ ws) = ⊥
ListsAlike R (v ∷ vs) [] = ⊥
ListsAlike R (v ∷ vs) (w ∷ ws) = R v w × ListsAlike R vs ws

-- two lists whose items are so related
abbrev pub AreLists : (Items → Items → Type 0) → Data → Data → Type 0
AreLists R (list ds) (list es) = R ds es
AreLists R _ _ = ⊥

-- two maps whose entries are so related
abbrev pub AreMaps : (Entries → Entries → Type 0) → Data → Data → Type 0
AreMaps R (map_of es) (map_of fs) = R es fs
AreMaps R _ _ = ⊥

abbrev mutual
  pub Alike : Part → Data → Data → Type 0
  Alike nothing v w = Unit {0}
  Alike whole v w = v ≡ w
  Alike (each_item p) v w =
      (v ≡ w) ⊎ AreLists (λ ds es. ListsAlike (Alike p) (items_list ds) (items_list es)) v w
  Alike (some_members ms) v w =
      (v ≡ w) ⊎ AreMaps (λ es fs. MembersAlike ms (λ x. find (text_key x) es) (λ x. find (text_key x) fs)) v w

  -- the values of these names are alike in both
  pub MembersAlike : Members → (List ℕ → Option Data) → (List ℕ → Option Data) → Type 0
  MembersAlike no_members g h = Unit {0}
  MembersAlike (member x p ms) g h = OptionsAlike (Alike p) (g x) (h x) × MembersAlike ms g h

-- these names are bound to values that are alike
abbrev pub BoundAlike : Members → Bindings → Bindings → Type 0
BoundAlike ms e f = MembersAlike ms (λ x. binding x e) (λ x. binding x f)

-- alike in what is read
abbrev pub ReadAlike : Option Part → Option Data → Option Data → Type 0
ReadAlike None o q = Unit {0}
ReadAlike (Some p) o q = OptionsAlike (Alike p) o q

-- all names are bound to values that are alike in what is read of them
abbrev pub NamesAlike : (List ℕ → Option Part) → Bindings → Bindings → Type 0
NamesAlike read e f = (x : List ℕ) → ReadAlike (read x) (binding x e) (binding x f)
