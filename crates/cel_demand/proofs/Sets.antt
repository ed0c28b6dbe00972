-- Parts form a set: any two proofs of an equation between two of them
-- are equal. So a struct can hold such an equation in a ghost field.
use Rattle.std.proofs.Common.{◌≡◌, ℕ, List, [], ◌∷◌, Option, Some, None, refl, ap}
use Rattle.std.proofs.Math.Nat.{ℕ_set}
use Rattle.cel_semantics.proofs.Sets.{retract_set, List-set}
use Rattle.cel_demand.specs.Part.{Part, nothing, whole, each_item, some_members, Members, no_members, member}

-- parts and members, in one type
data Plain : Type 0 where
  p_nothing : Plain
  p_whole : Plain
  p_each : Plain → Plain
  p_some : Plain → Plain
  p_end : Plain
  p_member : List ℕ → Plain → Plain → Plain
  deriving IsSet as Plain-set

abbrev mutual
  to_plain : Part → Plain
  to_plain nothing = p_nothing
  to_plain whole = p_whole
  to_plain (each_item p) = p_each (to_plain p)
  to_plain (some_members ms) = p_some (to_members ms)

  to_members : Members → Plain
  to_members no_members = p_end
  to_members (member x p ms) = p_member x (to_plain p) (to_members ms)

-- the way back: the part and the members that a value stands for
abbrev back : Plain → Part × Members
back p_nothing = (nothing, no_members)
back p_whole = (whole, no_members)
back (p_each p) = (each_item (back p).0, no_members)
back (p_some p) = (some_members (back p).1, no_members)
back p_end = (nothing, no_members)
back (p_member x p q) = (nothing, member x (back p).0 (back q).1)

mutual
  part_back : (p : Part) → (back (to_plain p)).0 ≡ p
  part_back nothing = refl
  part_back whole = refl
  part_back (each_item p) = ap each_item (part_back p)
  part_back (some_members ms) = ap some_members (members_back ms)

  members_back : (ms : Members) → (back (to_members ms)).1 ≡ ms
  members_back no_members = refl
  members_back (member x p ms) = λ i. member x (part_back p i) (members_back ms i)

abbrev to_list : {A : Type 0} → Option A → List A
to_list None = []
to_list (Some x) = x ∷ []

abbrev of_list : {A : Type 0} → List A → Option A
of_list [] = None
of_list (x ∷ xs) = Some x

list_back : {A : Type 0} (o : Option A) → of_list (to_list o) ≡ o
list_back None = refl
list_back (Some x) = refl

option_set : {A : Type 0} → IsSet A → IsSet (Option A)
option_set set = retract_set to_list of_list list_back (List-set set)

part_set : IsSet Part
part_set = retract_set to_plain (λ p. (back p).0) part_back (Plain-set (List-set ℕ_set))

pub same_read-prop : (o q : Option Part) → IsProp (o ≡ q)
same_read-prop o q = option_set part_set o q
