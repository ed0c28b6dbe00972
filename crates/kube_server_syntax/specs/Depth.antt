-- Trusted by laws alone.
-- States of the machine whose trees nest up to a level.
use Rattle.std.specs.Prelude.{ℕ, ◌≤◌, List, [], ◌∷◌}
use Rattle.kube_server_syntax.specs.Grammar.{level, highest, level_of_items, level_of_entries}
use Rattle.kube_server_syntax.specs.Machine.{Frame, in_round, in_list, in_key, in_value, in_arguments, in_index, after_sign, after_operator, after_question, after_colon, Mode, needs, opened, more, ended, minus, named, has, dotted, dot_marked, fielded, indexed}
use Rattle.kube_server_syntax.specs.Tree.{trees_of, items_of, entries_of}

abbrev pub FramesWithin : ℕ → List Frame → Type 0
FramesWithin n [] = Unit {0}
FramesWithin n (in_round p ∷ fs) = FramesWithin n fs
FramesWithin n (in_list p is o ∷ fs) = (level_of_items (items_of is) ≤ n) × FramesWithin n fs
FramesWithin n (in_key p es o ∷ fs) = (level_of_entries (entries_of es) ≤ n) × FramesWithin n fs
FramesWithin n (in_value p es o a ∷ fs) = (level_of_entries (entries_of es) ≤ n) × (level a ≤ n) × FramesWithin n fs
FramesWithin n (in_arguments p a x us ∷ fs) = (highest a ≤ n) × (highest (trees_of us) ≤ n) × FramesWithin n fs
FramesWithin n (in_index a o ∷ fs) = (level a ≤ n) × FramesWithin n fs
FramesWithin n (after_sign s p ∷ fs) = FramesWithin n fs
FramesWithin n (after_operator a op k ∷ fs) = (level a ≤ n) × FramesWithin n fs
FramesWithin n (after_question c ∷ fs) = (level c ≤ n) × FramesWithin n fs
FramesWithin n (after_colon c a ∷ fs) = (level c ≤ n) × (level a ≤ n) × FramesWithin n fs

abbrev pub Within : ℕ → Mode → List Frame → Type 0
Within n needs fs = FramesWithin n fs
Within n opened fs = FramesWithin n fs
Within n more fs = FramesWithin n fs
Within n ended fs = FramesWithin n fs
Within n (minus p) fs = FramesWithin n fs
Within n (named p x) fs = FramesWithin n fs
Within n (has t) fs = (level t ≤ n) × FramesWithin n fs
Within n (dotted t) fs = (level t ≤ n) × FramesWithin n fs
Within n (dot_marked t) fs = (level t ≤ n) × FramesWithin n fs
Within n (fielded t p x) fs = (level t ≤ n) × FramesWithin n fs
Within n (indexed t) fs = (level t ≤ n) × FramesWithin n fs
