-- A tree nests at least as deep as each that the machine had of it.
use Rattle.std.proofs.Common.{◌≡◌, ◌∙◌, ℕ, ◌+◌, ◌≤◌, refl, sym, ap, subst, arith, Bool, true, false, if◌then◌else◌, Option, Some, None, option_map, List, [], ◌∷◌, ◌++◌}
use Rattle.std.specs.Prelude.{max, nat_le}
use Rattle.cel_value.specs.Data.{Data}
use Rattle.cel_syntax.specs.Literal.{takes_minus, literal_value}
use Rattle.cel_syntax.specs.Token.{Token, word, number, quoted, punctuator}
use Rattle.cel_syntax.specs.Punctuator.{Punctuator}
use Rattle.cel_syntax.specs.Punctuator.TheVariants as m
use Rattle.cel_syntax.specs.BinaryOperator.{BinaryOperator}
use Rattle.cel_syntax.specs.UnaryOperator.TheVariants as u
use Rattle.cel_syntax.specs.Words.{is_identifier, is_selector}
use Rattle.cel_syntax.specs.Operator.{operator}
use Rattle.kube_server_syntax.specs.Depth.{FramesWithin, Within}
use Rattle.kube_server_syntax.specs.Grammar.{Expression, level, highest, level_of_items, level_of_entries, call_level, is_has}
use Rattle.kube_server_syntax.specs.Machine as machine
use Rattle.kube_server_syntax.specs.Machine.{Frame, in_round, in_list, in_key, in_value, in_arguments, in_index, after_sign, after_operator, after_question, after_colon, Mode, State, reduced, closed, operated, selected}
use Rattle.kube_server_syntax.specs.Placed.{Placed, across}
use Rattle.kube_server_syntax.specs.Tree as tree
use Rattle.kube_server_syntax.specs.Tree.{Tree, Trees, place_of, trees_of, items_of, entries_of}
use Rattle.kube_server_syntax.specs.declared.node.Place.{Place}
use Rattle.kube_server_syntax.proofs.Runs.{ends, runs}
use Rattle.kube_server_syntax.proofs.Complete.{allows, sign_there, complete, steps_append}
use Rattle.kube_server_syntax.proofs.Sound.{sign_refused}
use Rattle.std.proofs.Math.Nat.{le-max_left, le-max_right}

-- ---- parts

left_within : (a b n : ℕ) → max a b ≤ n → a ≤ n
left_within a b n h = let g = le-max_left a b in omega arith

right_within : (a b n : ℕ) → max a b ≤ n → b ≤ n
right_within a b n h = let g = le-max_right a b in omega arith

call_within : (b : Bool) (l n : ℕ) → call_level b l ≤ n → l ≤ n
call_within true l n h = h
call_within false l n h = omega arith

max_within : (a b n : ℕ) → a ≤ n → b ≤ n → max a b ≤ n
max_within a b n h g = omega arith

trees_within : (us : List Tree) (t : Tree) (n : ℕ) → highest (trees_of (us ++ t ∷ [])) ≤ n → (highest (trees_of us) ≤ n) × (level t ≤ n)
trees_within [] t n h = (omega arith, left_within (level t) 0 n h)
trees_within (v ∷ us) t n h =
    let g = left_within (level v) (highest (trees_of (us ++ t ∷ []))) n h in
    let r = trees_within us t n (right_within (level v) (highest (trees_of (us ++ t ∷ []))) n h) in
    (max_within (level v) (highest (trees_of us)) n g r.0, r.1)

items_within : (is : List (Bool × Tree)) (o : Bool) (t : Tree) (n : ℕ) → level_of_items (items_of (is ++ (o, t) ∷ [])) ≤ n
    → (level_of_items (items_of is) ≤ n) × (level t ≤ n)
items_within [] o t n h = (omega arith, left_within (level t) 0 n h)
items_within (i ∷ is) o t n h =
    let g = left_within (level i.1) (level_of_items (items_of (is ++ (o, t) ∷ []))) n h in
    let r = items_within is o t n (right_within (level i.1) (level_of_items (items_of (is ++ (o, t) ∷ []))) n h) in
    (max_within (level i.1) (level_of_items (items_of is)) n g r.0, r.1)

entries_within : (es : List (Bool × Tree × Tree)) (o : Bool) (a b : Tree) (n : ℕ) → level_of_entries (entries_of (es ++ (o, a, b) ∷ [])) ≤ n
    → (level_of_entries (entries_of es) ≤ n) × (level a ≤ n) × (level b ≤ n)
entries_within [] o a b n h =
    (omega arith, left_within (level a) (max (level b) 0) n h, left_within (level b) 0 n (right_within (level a) (max (level b) 0) n h))
entries_within (e ∷ es) o a b n h =
    let more = right_within (level e.1) (max (level e.2) (level_of_entries (entries_of (es ++ (o, a, b) ∷ [])))) n h in
    let g = left_within (level e.1) (max (level e.2) (level_of_entries (entries_of (es ++ (o, a, b) ∷ [])))) n h in
    let f = left_within (level e.2) (level_of_entries (entries_of (es ++ (o, a, b) ∷ []))) n more in
    let r = entries_within es o a b n (right_within (level e.2) (level_of_entries (entries_of (es ++ (o, a, b) ∷ []))) n more) in
    (max_within (level e.1) (max (level e.2) (level_of_entries (entries_of es))) n g (max_within (level e.2) (level_of_entries (entries_of es)) n f r.0), r.1, r.2)

-- ---- frames

-- the frames and an operand
abbrev Both : ℕ → List Frame → Tree → Type 0
Both n fs t = (level t ≤ n) × FramesWithin n fs

pair_left : (a b n : ℕ) → max a b + 1 ≤ n → a ≤ n
pair_left a b n h = let g = le-max_left a b in omega arith

pair_right : (a b n : ℕ) → max a b + 1 ≤ n → b ≤ n
pair_right a b n h = let g = le-max_right a b in omega arith

-- a condition and its branches
chosen_within : (a b c n : ℕ) → max a (max b c) + 1 ≤ n → (a ≤ n) × (b ≤ n) × (c ≤ n)
chosen_within a b c n h =
    let f = le-max_left a (max b c) in
    let g = le-max_right a (max b c) in
    let p = le-max_left b c in
    let q = le-max_right b c in
    (omega arith, omega arith, omega arith)

reduced_within : (n l : ℕ) (fs : List Frame) (t : Tree) → Both n (reduced l fs t).1 (reduced l fs t).0 → Both n fs t
reduced_within n l [] t h = h
reduced_within n l (after_sign s p ∷ fs) t h =
    let r = reduced_within n l fs (machine.signed s p t) h in
    let g : level t + 1 ≤ n = r.0 in
    (omega arith, r.1)
reduced_within n l (after_operator a op k ∷ fs) t h = by_test (nat_le k l) (λ g. reduced_within n l fs (operated a op t) g) h
  where
    by_test : (b : Bool) → (Both n (reduced l fs (operated a op t)).1 (reduced l fs (operated a op t)).0 → Both n fs (operated a op t))
        → Both n (if b then reduced l fs (operated a op t) else (t, after_operator a op k ∷ fs)).1
        (if b then reduced l fs (operated a op t) else (t, after_operator a op k ∷ fs)).0 → Both n (after_operator a op k ∷ fs) t
    by_test true go h = let r = go h in (pair_right (level a) (level t) n r.0, (pair_left (level a) (level t) n r.0, r.1))
    by_test false go h = h
reduced_within n l (in_round p ∷ fs) t h = h
reduced_within n l (in_list p is o ∷ fs) t h = h
reduced_within n l (in_key p es o ∷ fs) t h = h
reduced_within n l (in_value p es o a ∷ fs) t h = h
reduced_within n l (in_arguments p a x us ∷ fs) t h = h
reduced_within n l (in_index a o ∷ fs) t h = h
reduced_within n l (after_question c ∷ fs) t h = h
reduced_within n l (after_colon c a ∷ fs) t h = h

closed_within : (n : ℕ) (fs : List Frame) (t : Tree) → Both n (closed fs t).1 (closed fs t).0 → Both n fs t
closed_within n [] t h = h
closed_within n (after_sign s p ∷ fs) t h =
    let r = closed_within n fs (machine.signed s p t) h in
    let g : level t + 1 ≤ n = r.0 in
    (omega arith, r.1)
closed_within n (after_operator a op k ∷ fs) t h =
    let r = closed_within n fs (operated a op t) h in
    (pair_right (level a) (level t) n r.0, (pair_left (level a) (level t) n r.0, r.1))
closed_within n (after_colon c a ∷ fs) t h =
    let r = closed_within n fs (machine.chosen c a t) h in
    let g = chosen_within (level c) (level a) (level t) n r.0 in
    (g.2, (g.0, g.1, r.1))
closed_within n (in_round p ∷ fs) t h = h
closed_within n (in_list p is o ∷ fs) t h = h
closed_within n (in_key p es o ∷ fs) t h = h
closed_within n (in_value p es o a ∷ fs) t h = h
closed_within n (in_arguments p a x us ∷ fs) t h = h
closed_within n (in_index a o ∷ fs) t h = h
closed_within n (after_question c ∷ fs) t h = h

-- ---- steps

-- what holds before, if a state after is within the level
abbrev Back : ℕ → Option State → Type 0 → Type 0
Back n None P = Unit {0}
Back n (Some s) P = Within n s.0 s.1 → P

back_map : {P Q : Type 0} (n : ℕ) (o : Option State) → (P → Q) → Back n o P → Back n o Q
back_map n None f b = tt
back_map n (Some s) f b = λ w. f (b w)

first_back : (P : Type 0) (n : ℕ) (o q : Option State) → Back n o P → Back n q P → Back n (machine.first_of o q) P
first_back P n None q b c = c
first_back P n (Some s) q b c = b

mark_back : (P : Type 0) (n : ℕ) (z : Option Punctuator) (f : Punctuator → Option State) → ((k : Punctuator) → Back n (f k) P)
    → Back n (machine.if_mark z f) P
mark_back P n None f b = tt
mark_back P n (Some k) f b = b k

either_back : (P : Type 0) (n : ℕ) (b : Bool) (o q : Option State) → Back n o P → Back n q P → Back n (if b then o else q) P
either_back P n true o q h g = h
either_back P n false o q h g = g

literal_back : (P : Type 0) (n : ℕ) (v : Option Data) (p : Place) (fs : List Frame) (q : Option State) → (FramesWithin n fs → P) → Back n q P
    → Back n (machine.literal_or v p fs q) P
literal_back P n None p fs q f b = b
literal_back P n (Some v) p fs q f b = λ w. f w.1

begin_back : (n : ℕ) (fs : List Frame) (k : Placed) → Back n (machine.begin fs k) (FramesWithin n fs)
begin_back n fs k = literal_back (FramesWithin n fs) n (literal_value false k.token) k.place fs (machine.begin_by_token k.token k.place fs) (λ w. w) (by_token k.token)
  where
    by_allowed : (b : Bool) → allows u.Not fs ≡ b
        → Back n (option_map (λ (f : Frame). (machine.needs, f ∷ fs)) (machine.sign_after fs u.Not k.place)) (FramesWithin n fs)
    by_allowed true a = subst (λ (q : Option Frame). Back n (option_map (λ (f : Frame). (machine.needs, f ∷ fs)) q) (FramesWithin n fs))
        (sym (sign_there u.Not fs k.place a)) (λ w. w)
    by_allowed false a = subst (λ (q : Option Frame). Back n (option_map (λ (f : Frame). (machine.needs, f ∷ fs)) q) (FramesWithin n fs))
        (sym (sign_refused u.Not fs k.place a)) tt

    by_mark : (z : Punctuator) → Back n (machine.begin_by_mark z k.place fs) (FramesWithin n fs)
    by_mark m.OpenRound = λ w. w
    by_mark m.OpenSquare = λ w. w.1
    by_mark m.OpenBrace = λ w. w.1
    by_mark m.Not = by_allowed (allows u.Not fs) refl
    by_mark m.Minus = λ w. w
    by_mark _ = tt

    by_token : (z : Token) → Back n (machine.begin_by_token z k.place fs) (FramesWithin n fs)
    by_token (word x) = either_back (FramesWithin n fs) n (is_identifier x) (Some (machine.named k.place x, fs)) None (λ w. w) tt
    by_token (number s) = tt
    by_token (quoted s) = tt
    by_token (punctuator z) = by_mark z

minus_back : (n : ℕ) (p : Place) (fs : List Frame) (k : Placed) → Back n (machine.after_minus p fs k) (FramesWithin n fs)
minus_back n p fs k = either_back (FramesWithin n fs) n (takes_minus k.token) (machine.literal_or (literal_value true k.token) (across p k.place) fs None)
    (machine.begin_signed (machine.sign_after fs u.Negate p) fs k)
    (literal_back (FramesWithin n fs) n (literal_value true k.token) (across p k.place) fs None (λ w. w) tt) (by_allowed (allows u.Negate fs) refl)
  where
    by_allowed : (b : Bool) → allows u.Negate fs ≡ b → Back n (machine.begin_signed (machine.sign_after fs u.Negate p) fs k) (FramesWithin n fs)
    by_allowed true a = subst (λ (q : Option Frame). Back n (machine.begin_signed q fs k) (FramesWithin n fs)) (sym (sign_there u.Negate fs p a))
        (begin_back n (after_sign u.Negate p ∷ fs) k)
    by_allowed false a = subst (λ (q : Option Frame). Back n (machine.begin_signed q fs k) (FramesWithin n fs)) (sym (sign_refused u.Negate fs p a)) tt

end_back : (n : ℕ) (fs : List Frame) (z : Punctuator) (q : Place) → Back n (machine.end_by_mark fs z q) (FramesWithin n fs)
end_back n (in_list p is o ∷ fs) m.CloseSquare q = λ w. let g : level_of_items (items_of is) + 1 ≤ n = w.0 in (omega arith, w.1)
end_back n (in_list p is o ∷ fs) _ q = tt
end_back n (in_key p es o ∷ fs) m.CloseBrace q = λ w. let g : level_of_entries (entries_of es) + 1 ≤ n = w.0 in (omega arith, w.1)
end_back n (in_key p es o ∷ fs) _ q = tt
end_back n (in_arguments p t x us ∷ fs) m.CloseRound q = λ w.
    let g = call_within (is_has t x (trees_of us)) (max (highest t) (highest (trees_of us))) n w.0 in
    (left_within (highest t) (highest (trees_of us)) n g, right_within (highest t) (highest (trees_of us)) n g, w.1)
end_back n (in_arguments p t x us ∷ fs) _ q = tt
end_back n [] z q = tt
end_back n (in_round p ∷ fs) z q = tt
end_back n (in_value p es o a ∷ fs) z q = tt
end_back n (in_index a o ∷ fs) z q = tt
end_back n (after_sign s p ∷ fs) z q = tt
end_back n (after_operator a op k ∷ fs) z q = tt
end_back n (after_question c ∷ fs) z q = tt
end_back n (after_colon c a ∷ fs) z q = tt

question_mark_back : (n : ℕ) (fs : List Frame) (z : Punctuator) → Back n (machine.mark_by_mark fs z) (FramesWithin n fs)
question_mark_back n (in_list p is o ∷ fs) m.Question = λ w. w
question_mark_back n (in_list p is o ∷ fs) _ = tt
question_mark_back n (in_key p es o ∷ fs) m.Question = λ w. w
question_mark_back n (in_key p es o ∷ fs) _ = tt
question_mark_back n (in_arguments p t x us ∷ fs) z = tt
question_mark_back n [] z = tt
question_mark_back n (in_round p ∷ fs) z = tt
question_mark_back n (in_value p es o a ∷ fs) z = tt
question_mark_back n (in_index a o ∷ fs) z = tt
question_mark_back n (after_sign s p ∷ fs) z = tt
question_mark_back n (after_operator a op k ∷ fs) z = tt
question_mark_back n (after_question c ∷ fs) z = tt
question_mark_back n (after_colon c a ∷ fs) z = tt

comma_back : (n : ℕ) (fs : List Frame) (z : Punctuator) → Back n (machine.comma_by_mark fs z) (FramesWithin n fs)
comma_back n (in_list p is o ∷ fs) m.Comma = λ w. w
comma_back n (in_list p is o ∷ fs) _ = tt
comma_back n (in_key p es o ∷ fs) m.Comma = λ w. w
comma_back n (in_key p es o ∷ fs) _ = tt
comma_back n (in_arguments p t x us ∷ fs) z = tt
comma_back n [] z = tt
comma_back n (in_round p ∷ fs) z = tt
comma_back n (in_value p es o a ∷ fs) z = tt
comma_back n (in_index a o ∷ fs) z = tt
comma_back n (after_sign s p ∷ fs) z = tt
comma_back n (after_operator a op k ∷ fs) z = tt
comma_back n (after_question c ∷ fs) z = tt
comma_back n (after_colon c a ∷ fs) z = tt

opened_back : (n : ℕ) (fs : List Frame) (k : Placed) → Back n (machine.step_opened fs k) (FramesWithin n fs)
opened_back n fs k = first_back (FramesWithin n fs) n _ (machine.begin fs k)
    (mark_back (FramesWithin n fs) n (machine.mark_of k.token) _ (λ z. first_back (FramesWithin n fs) n (machine.end_by_mark fs z k.place) _ (end_back n fs z k.place)
    (first_back (FramesWithin n fs) n (machine.mark_by_mark fs z) (machine.comma_by_mark fs z) (question_mark_back n fs z) (comma_back n fs z)))) (begin_back n fs k)

more_back : (n : ℕ) (fs : List Frame) (k : Placed) → Back n (machine.step_more fs k) (FramesWithin n fs)
more_back n fs k = first_back (FramesWithin n fs) n _ (machine.begin fs k)
    (mark_back (FramesWithin n fs) n (machine.mark_of k.token) _ (λ z. either_back (FramesWithin n fs) n (machine.ends_behind_comma fs) _ None
    (first_back (FramesWithin n fs) n (machine.end_by_mark fs z k.place) (machine.mark_by_mark fs z) (end_back n fs z k.place) (question_mark_back n fs z)) tt)) (begin_back n fs k)

-- ---- what follows a complete part

part_back : (n : ℕ) (t : Tree) (fs : List Frame) (z : Punctuator) (q : Place) → Back n (machine.part_by_mark (t, fs) z q) (Both n fs t)
part_back n t (in_round p ∷ fs) m.CloseRound q = λ w. let g : level t + 1 ≤ n = w.0 in (omega arith, w.1)
part_back n t (in_round p ∷ fs) _ q = tt
part_back n t (in_arguments p a x us ∷ fs) m.CloseRound q = λ w.
    let g = call_within (is_has a x (trees_of (us ++ t ∷ []))) (max (highest a) (highest (trees_of (us ++ t ∷ [])))) n w.0 in
    let r = trees_within us t n (right_within (highest a) (highest (trees_of (us ++ t ∷ []))) n g) in
    (r.1, (left_within (highest a) (highest (trees_of (us ++ t ∷ []))) n g, r.0, w.1))
part_back n t (in_arguments p a x us ∷ fs) m.Comma q = λ w. let r = trees_within us t n w.1 in (r.1, (w.0, r.0, w.2))
part_back n t (in_arguments p a x us ∷ fs) _ q = tt
part_back n t (in_index a o ∷ fs) m.CloseSquare q = λ w. (pair_right (level a) (level t) n w.0, (pair_left (level a) (level t) n w.0, w.1))
part_back n t (in_index a o ∷ fs) _ q = tt
part_back n t (in_list p is o ∷ fs) m.CloseSquare q = λ w.
    let g : level_of_items (items_of (is ++ (o, t) ∷ [])) + 1 ≤ n = w.0 in
    let r = items_within is o t n (omega arith) in
    (r.1, (r.0, w.1))
part_back n t (in_list p is o ∷ fs) m.Comma q = λ w. let r = items_within is o t n w.0 in (r.1, (r.0, w.1))
part_back n t (in_list p is o ∷ fs) _ q = tt
part_back n t (in_key p es o ∷ fs) m.Colon q = λ w. (w.1, (w.0, w.2))
part_back n t (in_key p es o ∷ fs) _ q = tt
part_back n t (in_value p es o a ∷ fs) m.CloseBrace q = λ w.
    let g : level_of_entries (entries_of (es ++ (o, a, t) ∷ [])) + 1 ≤ n = w.0 in
    let r = entries_within es o a t n (omega arith) in
    (r.2, (r.0, r.1, w.1))
part_back n t (in_value p es o a ∷ fs) m.Comma q = λ w. let r = entries_within es o a t n w.0 in (r.2, (r.0, r.1, w.1))
part_back n t (in_value p es o a ∷ fs) _ q = tt
part_back n t [] z q = tt
part_back n t (after_sign s p ∷ fs) z q = tt
part_back n t (after_operator a op k ∷ fs) z q = tt
part_back n t (after_question c ∷ fs) z q = tt
part_back n t (after_colon c a ∷ fs) z q = tt

question_back : (n : ℕ) (t : Tree) (fs : List Frame) → Back n (machine.question_by (t, fs)) (Both n fs t)
question_back n t [] = λ w. w
question_back n t (after_question c ∷ fs) = tt
question_back n t (in_round p ∷ fs) = λ w. w
question_back n t (in_list p is o ∷ fs) = λ w. w
question_back n t (in_key p es o ∷ fs) = λ w. w
question_back n t (in_value p es o a ∷ fs) = λ w. w
question_back n t (in_arguments p a x us ∷ fs) = λ w. w
question_back n t (in_index a o ∷ fs) = λ w. w
question_back n t (after_sign s p ∷ fs) = λ w. w
question_back n t (after_operator a op k ∷ fs) = λ w. w
question_back n t (after_colon c a ∷ fs) = λ w. w

colon_back : (n : ℕ) (t : Tree) (fs : List Frame) (q : Place) → Back n (machine.colon_by (t, fs) q) (Both n fs t)
colon_back n t fs q = by_frames fs
  where
    others : (fs : List Frame) → Back n (machine.part_by_mark (closed fs t) m.Colon q) (Both n fs t)
    others fs = back_map n (machine.part_by_mark (closed fs t) m.Colon q) (closed_within n fs t) (part_back n (closed fs t).0 (closed fs t).1 m.Colon q)

    by_frames : (fs : List Frame) → Back n (machine.colon_by (t, fs) q) (Both n fs t)
    by_frames [] = others []
    by_frames (after_question c ∷ fs) = λ w. (w.1, (w.0, w.2))
    by_frames (after_sign s p ∷ fs) = others (after_sign s p ∷ fs)
    by_frames (after_operator a op k ∷ fs) = others (after_operator a op k ∷ fs)
    by_frames (after_colon c a ∷ fs) = others (after_colon c a ∷ fs)
    by_frames (in_round p ∷ fs) = others (in_round p ∷ fs)
    by_frames (in_list p is o ∷ fs) = others (in_list p is o ∷ fs)
    by_frames (in_key p es o ∷ fs) = others (in_key p es o ∷ fs)
    by_frames (in_value p es o a ∷ fs) = others (in_value p es o a ∷ fs)
    by_frames (in_arguments p a x us ∷ fs) = others (in_arguments p a x us ∷ fs)
    by_frames (in_index a o ∷ fs) = others (in_index a o ∷ fs)

member_back : (n : ℕ) (fs : List Frame) (t : Tree) (k : Placed) → Back n (machine.after_member fs t k) (Both n fs t)
member_back n fs t k = by_link (machine.mark_of k.token)
  where
    part : (z : Punctuator) → Back n (machine.part_by_mark (closed fs t) z k.place) (Both n fs t)
    part z = back_map n (machine.part_by_mark (closed fs t) z k.place) (closed_within n fs t) (part_back n (closed fs t).0 (closed fs t).1 z k.place)

    by_end : (z : Punctuator) → Back n (machine.end_of_part fs t z k.place) (Both n fs t)
    by_end m.Question = back_map n (machine.question_by (reduced 5 fs t)) (reduced_within n 5 fs t) (question_back n (reduced 5 fs t).0 (reduced 5 fs t).1)
    by_end m.Colon = back_map n (machine.colon_by (reduced 5 fs t) k.place) (reduced_within n 5 fs t) (colon_back n (reduced 5 fs t).0 (reduced 5 fs t).1 k.place)
    by_end m.OpenRound = part m.OpenRound
    by_end m.CloseRound = part m.CloseRound
    by_end m.OpenSquare = part m.OpenSquare
    by_end m.CloseSquare = part m.CloseSquare
    by_end m.OpenBrace = part m.OpenBrace
    by_end m.CloseBrace = part m.CloseBrace
    by_end m.Comma = part m.Comma
    by_end m.Dot = part m.Dot
    by_end m.Not = part m.Not
    by_end m.Minus = part m.Minus
    by_end m.Plus = part m.Plus
    by_end m.Star = part m.Star
    by_end m.Slash = part m.Slash
    by_end m.Percent = part m.Percent
    by_end m.Less = part m.Less
    by_end m.LessOrEqual = part m.LessOrEqual
    by_end m.Greater = part m.Greater
    by_end m.GreaterOrEqual = part m.GreaterOrEqual
    by_end m.Equal = part m.Equal
    by_end m.NotEqual = part m.NotEqual
    by_end m.And = part m.And
    by_end m.Or = part m.Or

    by_operator : (o : Option (ℕ × BinaryOperator)) → Back n (machine.operand_by o fs t k) (Both n fs t)
    by_operator None = mark_back (Both n fs t) n (machine.mark_of k.token) _ by_end
    by_operator (Some o) = reduced_within n o.0 fs t

    by_link : (z : Option Punctuator) → Back n (machine.link_by z fs t k) (Both n fs t)
    by_link None = by_operator (operator k.token)
    by_link (Some m.Dot) = λ w. w
    by_link (Some m.OpenSquare) = λ w. w
    by_link (Some _) = by_operator (operator k.token)

round_back : (P : Type 0) (n : ℕ) (z : Option Punctuator) (s : State) (q : Option State) → (Within n s.0 s.1 → P) → Back n q P
    → Back n (machine.round_by z s q) P
round_back P n None s q f b = b
round_back P n (Some m.OpenRound) s q f b = f
round_back P n (Some _) s q f b = b

mark_by_back : (P : Type 0) (n : ℕ) (z : Option Punctuator) (s : State) (q : Option State) → (Within n s.0 s.1 → P) → Back n q P
    → Back n (machine.mark_by z s q) P
mark_by_back P n None s q f b = b
mark_by_back P n (Some m.Question) s q f b = f
mark_by_back P n (Some _) s q f b = b

field_back : (P : Type 0) (n : ℕ) (z : Token) (p : Place) (f : List ℕ → State) → ((x : List ℕ) → Within n (f x).0 (f x).1 → P)
    → Back n (machine.field_by z p f) P
field_back P n (word x) p f b = either_back P n (is_selector x) (Some (f x)) None (b x) tt
field_back P n (number s) p f b = tt
field_back P n (quoted s) p f b = tt
field_back P n (punctuator k) p f b = tt

dot_back : (n : ℕ) (z : Option Punctuator) (fs : List Frame) (t : Tree) (k : Placed) → Back n (machine.dot_by z fs t k) (Both n fs t)
dot_back n None fs t k = field_back (Both n fs t) n k.token k.place _ (λ x w. w)
dot_back n (Some m.Question) fs t k = λ w. w
dot_back n (Some _) fs t k = field_back (Both n fs t) n k.token k.place _ (λ x w. w)

step_back : (n : ℕ) (x : Mode) (fs : List Frame) (k : Placed) → Back n (machine.step x fs k) (Within n x fs)
step_back n machine.needs fs k = begin_back n fs k
step_back n machine.opened fs k = opened_back n fs k
step_back n machine.more fs k = more_back n fs k
step_back n machine.ended fs k = mark_back (FramesWithin n fs) n (machine.mark_of k.token) _ (λ z. end_back n fs z k.place)
step_back n (machine.minus p) fs k = minus_back n p fs k
step_back n (machine.named p x) fs k =
    round_back (FramesWithin n fs) n (machine.mark_of k.token) (machine.opened, in_arguments p tree.no_trees x [] ∷ fs) (machine.after_member fs (tree.ident p x) k) (λ w. w.2)
    (back_map n (machine.after_member fs (tree.ident p x) k) (λ b. b.1) (member_back n fs (tree.ident p x) k))
step_back n (machine.has t) fs k = member_back n fs t k
step_back n (machine.dotted t) fs k = dot_back n (machine.mark_of k.token) fs t k
step_back n (machine.dot_marked t) fs k = field_back (Both n fs t) n k.token k.place _ (λ x w. let g : level t + 1 ≤ n = w.0 in (omega arith, w.1))
step_back n (machine.fielded t p x) fs k =
    round_back (Both n fs t) n (machine.mark_of k.token) (machine.opened, in_arguments (place_of t) (tree.tree_and t tree.no_trees) x [] ∷ fs)
    (machine.after_member fs (selected t false p x) k) (λ w. (left_within (level t) 0 n w.0, w.2))
    (back_map n (machine.after_member fs (selected t false p x) k) (λ b. let g : level t + 1 ≤ n = b.0 in (omega arith, b.1)) (member_back n fs (selected t false p x) k))
step_back n (machine.indexed t) fs k =
    mark_by_back (Both n fs t) n (machine.mark_of k.token) (machine.needs, in_index t true ∷ fs) (machine.begin (in_index t false ∷ fs) k) (λ w. w)
    (begin_back n (in_index t false ∷ fs) k)

-- ---- whole texts

some_same : {A : Type 0} {a b : A} → Some a ≡ Some b → a ≡ b
some_same e = cc

whole_within : (fs : List Frame) (t u : Tree) (v : Tree) (gs : List Frame) → (closed fs t) ≡ (v, gs) → machine.if_whole (v, gs) ≡ Some u
    → Both (level u) fs t
whole_within fs t u v [] e h =
    let same : v ≡ u = some_same h in
    closed_within (level u) fs t (subst (λ (r : Tree × List Frame). Both (level u) r.1 r.0) (sym e)
    (subst (λ z. Both (level u) [] z) (sym same) (omega arith, tt)))
whole_within fs t u v (g ∷ gs) e h = absurd (cc)

end_within : (x : Mode) (fs : List Frame) (u : Tree) → machine.end x fs ≡ Some u → Within (level u) x fs
end_within machine.needs fs u e = absurd (cc)
end_within machine.opened fs u e = absurd (cc)
end_within machine.more fs u e = absurd (cc)
end_within machine.ended fs u e = absurd (cc)
end_within (machine.minus p) fs u e = absurd (cc)
end_within (machine.named p x) fs u e = (whole_within fs (tree.ident p x) u (closed fs (tree.ident p x)).0 (closed fs (tree.ident p x)).1 refl e).1
end_within (machine.has t) fs u e = whole_within fs t u (closed fs t).0 (closed fs t).1 refl e
end_within (machine.dotted t) fs u e = absurd (cc)
end_within (machine.dot_marked t) fs u e = absurd (cc)
end_within (machine.fielded t p x) fs u e =
    let r = whole_within fs (selected t false p x) u (closed fs (selected t false p x)).0 (closed fs (selected t false p x)).1 refl e in
    let g : level t + 1 ≤ level u = r.0 in
    (omega arith, r.1)
end_within (machine.indexed t) fs u e = absurd (cc)

run_within : (ts : List Placed) (x : Mode) (fs : List Frame) (u : Tree) → runs x fs ts ≡ Some u → Within (level u) x fs
run_within [] x fs u e = end_within x fs u e
run_within (k ∷ ts) x fs u e = by_state (λ s. run_within ts s.0 s.1 u) (machine.step x fs k) (step_back (level u) x fs k) e
  where
    by_state : ((s : State) → runs s.0 s.1 ts ≡ Some u → Within (level u) s.0 s.1) → (o : Option State) → Back (level u) o (Within (level u) x fs)
        → ends o ts ≡ Some u → Within (level u) x fs
    by_state go None b e = absurd (cc)
    by_state go (Some s) b e = b (go s e)

-- A tree nests at least as deep as each that the machine has of its first tokens.
pub as_deep : (before after : List Placed) (s : State) (t : Tree) → machine.steps before machine.start ≡ Some s
    → Expression (before ++ after) [] t → Within (level t) s.0 s.1
as_deep before after s t e d = run_within after s.0 s.1 t
    (sym (ap machine.tree_at_end (steps_append before after machine.start ∙ ap (λ o. machine.goes o (machine.steps after)) e))
    ∙ complete (before ++ after) t d)
