-- States with a part that nests past the limit.
use Rattle.std.proofs.Common.{◌≡◌, ◌∙◌, ℕ, ◌+◌, ◌<◌, ◌≤◌, sym, ap, subst, arith, true, Option, Some, None, List, [], ◌∷◌, ◌++◌, Result, Ok, Err}
use Rattle.std.specs.Prelude.{max}
use Rattle.std.proofs.Math.Nat.{le-max_right}
use Rattle.cel_syntax.specs.BinaryOperator.{BinaryOperator}
use Rattle.cel_syntax.specs.Punctuator.{Punctuator}
use Rattle.cel_syntax.specs.Punctuator.TheVariants as m
use Rattle.kube_server_syntax.specs.Depth.{Within}
use Rattle.kube_server_syntax.specs.Grammar.{level, highest, level_of_items, level_of_entries, is_has}
use Rattle.kube_server_syntax.specs.Machine as machine
use Rattle.kube_server_syntax.specs.Machine.{Frame, State, in_round, in_list, in_key, in_value, in_arguments, in_index, after_sign, after_operator, after_question, after_colon, reduced, closed}
use Rattle.kube_server_syntax.specs.Tree.{Tree, trees_of, items_of, entries_of}
use Rattle.kube_server_syntax.specs.declared.node.Place.{Place}
use Rattle.kube_server_parser.specs.Expects.{closing_of, is_text, settled}
use Rattle.kube_server_parser.specs.Pending.{taken_in}
use Rattle.kube_server_parser.specs.Results.{Past, Builds, Acts, Finishes, Steps, TakesIn}
use Rattle.kube_server_parser.specs.Tables.{linked}
use Rattle.kube_server_parser.specs.declared.expected.Expected.{Expected}
use Rattle.kube_server_parser.specs.declared.frame.Frame.{Frame as CodeFrame}
use Rattle.kube_server_parser.specs.declared.links.Link.{Link}
use Rattle.kube_server_parser.specs.declared.links.Link.TheVariants as link
use Rattle.kube_server_parser.specs.declared.mode.Mode.{Mode}
use Rattle.kube_server_parser.specs.declared.part.Part.{Part}
use Rattle.kube_server_parser.specs.declared.stop.Stop.{Stop}
use Rattle.kube_server_parser.specs.declared.stop.Stop.TheVariants as stop
use Rattle.kube_server_parser.proofs.Ends.{is_whole_tree}
use Rattle.kube_server_parser.proofs.Levels.{right_within, call_within, last_tree, last_item, last_value}
use Rattle.kube_server_parser.proofs.Taken.{reduced_is, closed_is, taken_level}

-- the state has no part deeper than the limit, if there is a state
abbrev pub Shallow : ℕ → Option State → Type 0 → Type 0
Shallow n None P = Unit {0}
Shallow n (Some s) P = Within n s.0 s.1 → P

pub past : (n : ℕ) (o : Option State) → Shallow 250 o (n ≤ 250) → 250 < n → Past o
past n None h g s e w = absurd (cc)
past n (Some r) h g s e w =
    let same : ◌≡◌ {A = State} r s = cc in
    let le : n ≤ 250 = h (subst (λ (x : State). Within 250 x.0 x.1) (sym same) w) in
    omega arith

pair_right : (a b : ℕ) → max a b + 1 ≤ 250 → b ≤ 250
pair_right a b h = let g = le-max_right a b in omega arith

-- ---- the end of a part

pub part_shallow : (t : Tree) (fs : List Frame) (k : Punctuator) (q : Place) → Shallow 250 (machine.part_by_mark (t, fs) k q) (level t ≤ 250)
part_shallow t (in_round p ∷ fs) m.CloseRound q = λ w. let g : level t + 1 ≤ 250 = w.0 in omega arith
part_shallow t (in_round p ∷ fs) _ q = tt
part_shallow t (in_arguments p a x us ∷ fs) m.CloseRound q = λ w.
    last_tree us t 250 (right_within (highest a) (highest (trees_of (us ++ t ∷ []))) 250
    (call_within (is_has a x (trees_of (us ++ t ∷ []))) (max (highest a) (highest (trees_of (us ++ t ∷ [])))) 250 w.0))
part_shallow t (in_arguments p a x us ∷ fs) m.Comma q = λ w. last_tree us t 250 w.1
part_shallow t (in_arguments p a x us ∷ fs) _ q = tt
part_shallow t (in_index a o ∷ fs) m.CloseSquare q = λ w. pair_right (level a) (level t) w.0
part_shallow t (in_index a o ∷ fs) _ q = tt
part_shallow t (in_list p is o ∷ fs) m.CloseSquare q = λ w.
    let g : level_of_items (items_of (is ++ (o, t) ∷ [])) + 1 ≤ 250 = w.0 in last_item is o t 250 (omega arith)
part_shallow t (in_list p is o ∷ fs) m.Comma q = λ w. last_item is o t 250 w.0
part_shallow t (in_list p is o ∷ fs) _ q = tt
part_shallow t (in_key p es o ∷ fs) m.Colon q = λ w. w.1
part_shallow t (in_key p es o ∷ fs) _ q = tt
part_shallow t (in_value p es o a ∷ fs) m.CloseBrace q = λ w.
    let g : level_of_entries (entries_of (es ++ (o, a, t) ∷ [])) + 1 ≤ 250 = w.0 in last_value es o a t 250 (omega arith)
part_shallow t (in_value p es o a ∷ fs) m.Comma q = λ w. last_value es o a t 250 w.0
part_shallow t (in_value p es o a ∷ fs) _ q = tt
part_shallow t [] k q = tt
part_shallow t (after_sign s p ∷ fs) k q = tt
part_shallow t (after_operator a op l ∷ fs) k q = tt
part_shallow t (after_question c ∷ fs) k q = tt
part_shallow t (after_colon c a ∷ fs) k q = tt

pub question_shallow : (t : Tree) (fs : List Frame) → Shallow 250 (machine.question_by (t, fs)) (level t ≤ 250)
question_shallow t [] = λ w. w.0
question_shallow t (after_question c ∷ fs) = tt
question_shallow t (in_round p ∷ fs) = λ w. w.0
question_shallow t (in_list p is o ∷ fs) = λ w. w.0
question_shallow t (in_key p es o ∷ fs) = λ w. w.0
question_shallow t (in_value p es o a ∷ fs) = λ w. w.0
question_shallow t (in_arguments p a x us ∷ fs) = λ w. w.0
question_shallow t (in_index a o ∷ fs) = λ w. w.0
question_shallow t (after_sign s p ∷ fs) = λ w. w.0
question_shallow t (after_operator a op k ∷ fs) = λ w. w.0
question_shallow t (after_colon c a ∷ fs) = λ w. w.0

weaker : {P Q : Type 0} (o : Option State) → (P → Q) → Shallow 250 o P → Shallow 250 o Q
weaker None f h = tt
weaker (Some s) f h = λ w. f (h w)

closed_level : (t : Tree) (fs : List Frame) → level t ≤ level (closed fs t).0
closed_level t fs = subst (λ r. level t ≤ level r.0) (closed_is fs t) (taken_level None fs t)

reduced_level : (l : ℕ) (t : Tree) (fs : List Frame) → level t ≤ level (reduced l fs t).0
reduced_level l t fs = subst (λ r. level t ≤ level r.0) (reduced_is l fs t) (taken_level (Some l) fs t)

closed_shallow : (t : Tree) (fs : List Frame) (k : Punctuator) (q : Place) → Shallow 250 (machine.part_by_mark (closed fs t) k q) (level t ≤ 250)
closed_shallow t fs k q =
    weaker (machine.part_by_mark (closed fs t) k q) (λ h. let g = closed_level t fs in omega arith)
    (part_shallow (closed fs t).0 (closed fs t).1 k q)

pub colon_shallow : (t : Tree) (fs : List Frame) (q : Place) → Shallow 250 (machine.colon_by (t, fs) q) (level t ≤ 250)
colon_shallow t [] q = closed_shallow t [] m.Colon q
colon_shallow t (after_question c ∷ fs) q = λ w. w.1
colon_shallow t (in_round p ∷ fs) q = closed_shallow t (in_round p ∷ fs) m.Colon q
colon_shallow t (in_list p is o ∷ fs) q = closed_shallow t (in_list p is o ∷ fs) m.Colon q
colon_shallow t (in_key p es o ∷ fs) q = closed_shallow t (in_key p es o ∷ fs) m.Colon q
colon_shallow t (in_value p es o a ∷ fs) q = closed_shallow t (in_value p es o a ∷ fs) m.Colon q
colon_shallow t (in_arguments p a x us ∷ fs) q = closed_shallow t (in_arguments p a x us ∷ fs) m.Colon q
colon_shallow t (in_index a o ∷ fs) q = closed_shallow t (in_index a o ∷ fs) m.Colon q
colon_shallow t (after_sign s p ∷ fs) q = closed_shallow t (after_sign s p ∷ fs) m.Colon q
colon_shallow t (after_operator a op k ∷ fs) q = closed_shallow t (after_operator a op k ∷ fs) m.Colon q
colon_shallow t (after_colon c a ∷ fs) q = closed_shallow t (after_colon c a ∷ fs) m.Colon q

end_shallow : (t : Tree) (fs : List Frame) (k : Punctuator) (q : Place) → Shallow 250 (machine.end_of_part fs t k q) (level t ≤ 250)
end_shallow t fs m.Question q =
    weaker (machine.question_by (reduced 5 fs t)) (λ h. let g = reduced_level 5 t fs in omega arith)
    (question_shallow (reduced 5 fs t).0 (reduced 5 fs t).1)
end_shallow t fs m.Colon q =
    weaker (machine.colon_by (reduced 5 fs t) q) (λ h. let g = reduced_level 5 t fs in omega arith)
    (colon_shallow (reduced 5 fs t).0 (reduced 5 fs t).1 q)
end_shallow t fs m.OpenRound q = closed_shallow t fs m.OpenRound q
end_shallow t fs m.CloseRound q = closed_shallow t fs m.CloseRound q
end_shallow t fs m.OpenSquare q = closed_shallow t fs m.OpenSquare q
end_shallow t fs m.CloseSquare q = closed_shallow t fs m.CloseSquare q
end_shallow t fs m.OpenBrace q = closed_shallow t fs m.OpenBrace q
end_shallow t fs m.CloseBrace q = closed_shallow t fs m.CloseBrace q
end_shallow t fs m.Comma q = closed_shallow t fs m.Comma q
end_shallow t fs m.Dot q = closed_shallow t fs m.Dot q
end_shallow t fs m.Not q = closed_shallow t fs m.Not q
end_shallow t fs m.Minus q = closed_shallow t fs m.Minus q
end_shallow t fs m.Plus q = closed_shallow t fs m.Plus q
end_shallow t fs m.Star q = closed_shallow t fs m.Star q
end_shallow t fs m.Slash q = closed_shallow t fs m.Slash q
end_shallow t fs m.Percent q = closed_shallow t fs m.Percent q
end_shallow t fs m.Less q = closed_shallow t fs m.Less q
end_shallow t fs m.LessOrEqual q = closed_shallow t fs m.LessOrEqual q
end_shallow t fs m.Greater q = closed_shallow t fs m.Greater q
end_shallow t fs m.GreaterOrEqual q = closed_shallow t fs m.GreaterOrEqual q
end_shallow t fs m.Equal q = closed_shallow t fs m.Equal q
end_shallow t fs m.NotEqual q = closed_shallow t fs m.NotEqual q
end_shallow t fs m.And q = closed_shallow t fs m.And q
end_shallow t fs m.Or q = closed_shallow t fs m.Or q

linked_shallow : (l : Link) (fs : List Frame) (t : Tree) (q : Place) → Shallow 250 (linked l fs t q) (level t ≤ 250)
linked_shallow link.Dot fs t q = λ w. w.0
linked_shallow link.Index fs t q = λ w. w.0
linked_shallow (link.Operator l op) fs t q = λ w. let g = reduced_level l t fs in let h = w.0 in omega arith
linked_shallow (link.End k) fs t q = end_shallow t fs k q

-- ---- results

-- an operand that is too deep
pub linked_past : (l : Link) (fs : List Frame) (t : Tree) (q : Place) → 250 < level t → Past (linked l fs t q)
linked_past l fs t q h = past (level t) (linked l fs t q) (linked_shallow l fs t q) h

-- what is taken in is too deep
pub part_past : (r : Tree × List Frame) (k : Punctuator) (q : Place) → 250 < level r.0 → Past (machine.part_by_mark r k q)
part_past r k q h = past (level r.0) (machine.part_by_mark r k q) (part_shallow r.0 r.1 k q) h

pub question_past : (r : Tree × List Frame) → 250 < level r.0 → Past (machine.question_by r)
question_past r h = past (level r.0) (machine.question_by r) (question_shallow r.0 r.1) h

pub colon_past : (r : Tree × List Frame) (q : Place) → 250 < level r.0 → Past (machine.colon_by r q)
colon_past r q h = past (level r.0) (machine.colon_by r q) (colon_shallow r.0 r.1 q) h

pub operated_past : (l : ℕ) (op : BinaryOperator) (r : Tree × List Frame) → 250 < level r.0 → Past (Some (machine.operator_by l op r))
operated_past l op r h = past (level r.0) (Some (machine.operator_by l op r)) (λ w. w.0) h

-- a state that is there
pub steps_of : (o : Option State) (e : Expected) (r : Result Mode Stop) (fs : List CodeFrame) → ((o ≡ None) → ⊥) → Acts o r fs → Steps o e r fs
steps_of o e (Ok x) fs some h = h
steps_of o e (Err stop.Memory) fs some h = tt
steps_of o e (Err stop.TooDeep) fs some h = (some, h)
steps_of o e (Err (stop.Unexpected x)) fs some h = absurd (some h)

-- the same by another name
pub steps_as : (o p : Option State) (e : Expected) (r : Result Mode Stop) (fs : List CodeFrame) → o ≡ p → ((p ≡ None) → ⊥) → Acts p r fs → Steps o e r fs
steps_as o p e r fs same some h = subst (λ (q : Option State). Steps q e r fs) (sym same) (steps_of p e r fs some h)

pub acts_as : (o p : Option State) (r : Result Mode Stop) (fs : List CodeFrame) → o ≡ p → Acts p r fs → Acts o r fs
acts_as o p r fs same h = subst (λ (q : Option State). Acts q r fs) (sym same) h

pub steps_same : (o p : Option State) (e : Expected) (r : Result Mode Stop) (fs : List CodeFrame) → o ≡ p → Steps p e r fs → Steps o e r fs
steps_same o p e r fs same h = subst (λ (q : Option State). Steps q e r fs) (sym same) h

-- ---- errors

-- where what waits can't be taken in
pub fails : (o : Option State) (r : Tree × List Frame) (s : Stop) (fs gs : List CodeFrame) → (250 < level r.0 → Past o) → TakesIn r (Err s) gs → Acts o (Err s) fs
fails o r stop.Memory fs gs f h = tt
fails o r stop.TooDeep fs gs f h = f h
fails o r (stop.Unexpected e) fs gs f h = absurd h

-- where a tree can't be built
pub taken_fails : (r : Tree × List Frame) (t : Tree) (s : Stop) (fs : List CodeFrame) → level t ≤ level r.0 → Builds t (Err s) → TakesIn r (Err s) fs
taken_fails r t stop.Memory fs le h = tt
taken_fails r t stop.TooDeep fs le h = omega arith
taken_fails r t (stop.Unexpected e) fs le h = h

pub select_fails : (o p : Option State) (e : Expected) (t : Tree) (s : Stop) (fs : List CodeFrame) → o ≡ p → ((p ≡ None) → ⊥) → (250 < level t → Past p)
    → Builds t (Err s) → Steps o e (Err s) fs
select_fails o p e t stop.Memory fs same some f h = tt
select_fails o p e t stop.TooDeep fs same some f h = steps_as o p e (Err stop.TooDeep) fs same some (f h)
select_fails o p e t (stop.Unexpected x) fs same some f h = absurd h

-- ---- the end of the text

pub finishes : (t : Tree) (fs : List Frame) (e : Expected) (r : Result Part Stop) (gs : List CodeFrame) → is_text (closing_of (settled None fs)) ≡ true
    → TakesIn (taken_in None fs t) r gs → Finishes (machine.if_whole (closed fs t)) e r
finishes t fs e (Ok p) gs w h = is_whole_tree t fs w ∙ ap (λ x. Some x) (ap (λ r. r.0) h)
finishes t fs e (Err stop.Memory) gs w h = tt
finishes t fs e (Err stop.TooDeep) gs w h = ((taken_in None fs t).0, is_whole_tree t fs w, h)
finishes t fs e (Err (stop.Unexpected x)) gs w h = absurd h

pub finish_fails : (t : Tree) (fs : List Frame) (e : Expected) (s : Stop) → is_text (closing_of (settled None fs)) ≡ true
    → Builds t (Err s) → Finishes (machine.if_whole (closed fs t)) e (Err s)
finish_fails t fs e s w h = finishes t fs e (Err s) [] w (taken_fails (taken_in None fs t) t s [] (taken_level None fs t) h)
