-- Which marks may follow an operand.
use Rattle.std.proofs.Common.{◌≡◌, ◌∙◌, ℕ, refl, sym, ap, subst, Bool, true, false, not, if◌then◌else◌, ◌||◌, Option, Some, None, List, [], ◌∷◌}
use Rattle.std.specs.Prelude.{codes, nat_le}
use Rattle.std.specs.Str.{bytes_eq}
use Rattle.cel_syntax.specs.Token.{word, punctuator}
use Rattle.cel_syntax.specs.Punctuator.{Punctuator}
use Rattle.cel_syntax.specs.Punctuator.TheVariants as m
use Rattle.cel_syntax.specs.BinaryOperator.TheVariants as b
use Rattle.kube_server_syntax.specs.Machine as machine
use Rattle.kube_server_syntax.specs.Machine.{Frame, in_round, in_list, in_key, in_value, in_arguments, in_index, after_sign, after_operator, after_question, after_colon, reduced, closed}
use Rattle.kube_server_syntax.specs.Tree.{Tree}
use Rattle.kube_server_syntax.specs.declared.node.Place.{Place}
use Rattle.kube_server_parser.specs.Expects.{asks, is_asking, settled, closing_of, is_text}
use Rattle.kube_server_parser.specs.Pending.{taken_in}
use Rattle.kube_server_parser.specs.Tables.{at, ends, takes, goes_on, link_of, linked}
use Rattle.kube_server_parser.specs.declared.links.Link.{Link}
use Rattle.kube_server_parser.specs.declared.links.Link.TheVariants as link
use Rattle.kube_server_parser.proofs.Taken.{reduced_is, closed_is, settled_is}

-- whether there is a state
abbrev pub Is : {A : Type 0} → Bool → Option A → Type 0
Is true o = (o ≡ None) → ⊥
Is false o = o ≡ None

-- ---- what ends a part

part_is : (t : Tree) (fs : List Frame) (k : Punctuator) (q : Place) → Is (ends (closing_of fs) k) (machine.part_by_mark (t, fs) k q)
part_is t [] k q = refl
part_is t (in_round p ∷ fs) m.CloseRound q = λ e. cc
part_is t (in_round p ∷ fs) _ q = refl
part_is t (in_arguments p a x us ∷ fs) m.CloseRound q = λ e. cc
part_is t (in_arguments p a x us ∷ fs) m.Comma q = λ e. cc
part_is t (in_arguments p a x us ∷ fs) _ q = refl
part_is t (in_index a o ∷ fs) m.CloseSquare q = λ e. cc
part_is t (in_index a o ∷ fs) _ q = refl
part_is t (in_list p is o ∷ fs) m.CloseSquare q = λ e. cc
part_is t (in_list p is o ∷ fs) m.Comma q = λ e. cc
part_is t (in_list p is o ∷ fs) _ q = refl
part_is t (in_key p es o ∷ fs) m.Colon q = λ e. cc
part_is t (in_key p es o ∷ fs) _ q = refl
part_is t (in_value p es o a ∷ fs) m.CloseBrace q = λ e. cc
part_is t (in_value p es o a ∷ fs) m.Comma q = λ e. cc
part_is t (in_value p es o a ∷ fs) _ q = refl
part_is t (after_sign s p ∷ fs) k q = refl
part_is t (after_operator a op l ∷ fs) k q = refl
part_is t (after_question c ∷ fs) k q = refl
part_is t (after_colon c a ∷ fs) k q = refl

closed_part : (t : Tree) (fs : List Frame) (k : Punctuator) (q : Place)
    → Is (ends (closing_of (settled None fs)) k) (machine.part_by_mark (closed fs t) k q)
closed_part t fs k q =
    let e : (closed fs t).1 ≡ settled None fs = sym (ap (λ r. r.1) (closed_is fs t)) ∙ settled_is None fs t in
    subst (λ gs. Is (ends (closing_of gs) k) (machine.part_by_mark ((closed fs t).0, (closed fs t).1) k q)) e
    (part_is (closed fs t).0 (closed fs t).1 k q)

asked : (t : Tree) (fs : List Frame) → Is (not (asks fs)) (machine.question_by (t, fs))
asked t [] = λ e. cc
asked t (after_question c ∷ fs) = refl
asked t (in_round p ∷ fs) = λ e. cc
asked t (in_list p is o ∷ fs) = λ e. cc
asked t (in_key p es o ∷ fs) = λ e. cc
asked t (in_value p es o a ∷ fs) = λ e. cc
asked t (in_arguments p a x us ∷ fs) = λ e. cc
asked t (in_index a o ∷ fs) = λ e. cc
asked t (after_sign s p ∷ fs) = λ e. cc
asked t (after_operator a op k ∷ fs) = λ e. cc
asked t (after_colon c a ∷ fs) = λ e. cc

reduced_settled : (t : Tree) (fs : List Frame) → (reduced 5 fs t).1 ≡ settled (Some 5) fs
reduced_settled t fs = sym (ap (λ r. r.1) (reduced_is 5 fs t)) ∙ settled_is (Some 5) fs t

pub question_is : (t : Tree) (fs : List Frame) → Is (not (is_asking fs)) (machine.question_by (reduced 5 fs t))
question_is t fs =
    subst (λ gs. Is (not (asks gs)) (machine.question_by ((reduced 5 fs t).0, (reduced 5 fs t).1))) (reduced_settled t fs)
    (asked (reduced 5 fs t).0 (reduced 5 fs t).1)

either_is : {A : Type 0} (b c : Bool) (o : Option A) → (b ≡ true → Is true o) → (b ≡ false → Is c o) → Is (b || c) o
either_is {A} b c o f g = by b refl
  where
    by : (d : Bool) → b ≡ d → Is (d || c) o
    by true e = f e
    by false e = g e

branched : (t : Tree) (fs gs : List Frame) (u : Tree) (q : Place) → asks fs ≡ true → Is true (machine.colon_by (t, fs) q)
branched t (after_question c ∷ fs) gs u q h = λ e. cc
branched t [] gs u q h = absurd (cc)
branched t (in_round p ∷ fs) gs u q h = absurd (cc)
branched t (in_list p is o ∷ fs) gs u q h = absurd (cc)
branched t (in_key p es o ∷ fs) gs u q h = absurd (cc)
branched t (in_value p es o a ∷ fs) gs u q h = absurd (cc)
branched t (in_arguments p a x us ∷ fs) gs u q h = absurd (cc)
branched t (in_index a o ∷ fs) gs u q h = absurd (cc)
branched t (after_sign s p ∷ fs) gs u q h = absurd (cc)
branched t (after_operator a op k ∷ fs) gs u q h = absurd (cc)
branched t (after_colon c a ∷ fs) gs u q h = absurd (cc)

unbranched : (t : Tree) (fs : List Frame) (q : Place) → asks fs ≡ false → machine.colon_by (t, fs) q ≡ machine.part_by_mark (closed fs t) m.Colon q
unbranched t (after_question c ∷ fs) q h = absurd (cc)
unbranched t [] q h = refl
unbranched t (in_round p ∷ fs) q h = refl
unbranched t (in_list p is o ∷ fs) q h = refl
unbranched t (in_key p es o ∷ fs) q h = refl
unbranched t (in_value p es o a ∷ fs) q h = refl
unbranched t (in_arguments p a x us ∷ fs) q h = refl
unbranched t (in_index a o ∷ fs) q h = refl
unbranched t (after_sign s p ∷ fs) q h = refl
unbranched t (after_operator a op k ∷ fs) q h = refl
unbranched t (after_colon c a ∷ fs) q h = refl

closed_by : (b : Bool) (x y : Tree × List Frame) (z : Tree × List Frame) → closed x.1 x.0 ≡ z → closed y.1 y.0 ≡ z
    → closed (if b then x else y).1 (if b then x else y).0 ≡ z
closed_by true x y z h g = h
closed_by false x y z h g = g

-- what is closed may be reduced before
pub closed_reduced : (l : ℕ) (fs : List Frame) (t : Tree) → closed (reduced l fs t).1 (reduced l fs t).0 ≡ closed fs t
closed_reduced l [] t = refl
closed_reduced l (after_sign s p ∷ fs) t = closed_reduced l fs (machine.signed s p t)
closed_reduced l (after_operator a op k ∷ fs) t =
    closed_by (nat_le k l) (reduced l fs (machine.operated a op t)) (t, after_operator a op k ∷ fs) (closed fs (machine.operated a op t))
    (closed_reduced l fs (machine.operated a op t)) refl
closed_reduced l (in_round p ∷ fs) t = refl
closed_reduced l (in_list p is o ∷ fs) t = refl
closed_reduced l (in_key p es o ∷ fs) t = refl
closed_reduced l (in_value p es o a ∷ fs) t = refl
closed_reduced l (in_arguments p a x us ∷ fs) t = refl
closed_reduced l (in_index a o ∷ fs) t = refl
closed_reduced l (after_question c ∷ fs) t = refl
closed_reduced l (after_colon c a ∷ fs) t = refl

-- a colon where no condition asks for it
pub colon_part : (t : Tree) (fs : List Frame) (q : Place) → is_asking fs ≡ false
    → machine.colon_by (reduced 5 fs t) q ≡ machine.part_by_mark (closed fs t) m.Colon q
colon_part t fs q h =
    unbranched (reduced 5 fs t).0 (reduced 5 fs t).1 q (ap asks (reduced_settled t fs) ∙ h)
    ∙ ap (λ r. machine.part_by_mark r m.Colon q) (closed_reduced 5 fs t)

colon_is : (t : Tree) (fs : List Frame) (q : Place)
    → Is (is_asking fs || ends (closing_of (settled None fs)) m.Colon) (machine.colon_by (reduced 5 fs t) q)
colon_is t fs q = either_is (is_asking fs) (ends (closing_of (settled None fs)) m.Colon) (machine.colon_by (reduced 5 fs t) q)
    (λ h. branched (reduced 5 fs t).0 (reduced 5 fs t).1 fs t q (ap asks (reduced_settled t fs) ∙ h))
    (λ h. subst (λ o. Is (ends (closing_of (settled None fs)) m.Colon) o) (sym (colon_part t fs q h)) (closed_part t fs m.Colon q))

end_is : (t : Tree) (fs : List Frame) (k : Punctuator) (q : Place) → Is (takes fs k) (machine.end_of_part fs t k q)
end_is t fs m.Question q = question_is t fs
end_is t fs m.Colon q = colon_is t fs q
end_is t fs m.OpenRound q = closed_part t fs m.OpenRound q
end_is t fs m.CloseRound q = closed_part t fs m.CloseRound q
end_is t fs m.OpenSquare q = closed_part t fs m.OpenSquare q
end_is t fs m.CloseSquare q = closed_part t fs m.CloseSquare q
end_is t fs m.OpenBrace q = closed_part t fs m.OpenBrace q
end_is t fs m.CloseBrace q = closed_part t fs m.CloseBrace q
end_is t fs m.Comma q = closed_part t fs m.Comma q
end_is t fs m.Dot q = closed_part t fs m.Dot q
end_is t fs m.Not q = closed_part t fs m.Not q
end_is t fs m.Minus q = closed_part t fs m.Minus q
end_is t fs m.Plus q = closed_part t fs m.Plus q
end_is t fs m.Star q = closed_part t fs m.Star q
end_is t fs m.Slash q = closed_part t fs m.Slash q
end_is t fs m.Percent q = closed_part t fs m.Percent q
end_is t fs m.Less q = closed_part t fs m.Less q
end_is t fs m.LessOrEqual q = closed_part t fs m.LessOrEqual q
end_is t fs m.Greater q = closed_part t fs m.Greater q
end_is t fs m.GreaterOrEqual q = closed_part t fs m.GreaterOrEqual q
end_is t fs m.Equal q = closed_part t fs m.Equal q
end_is t fs m.NotEqual q = closed_part t fs m.NotEqual q
end_is t fs m.And q = closed_part t fs m.And q
end_is t fs m.Or q = closed_part t fs m.Or q

-- ---- what follows an operand

pub linked_is : (l : Link) (fs : List Frame) (t : Tree) (q : Place) → Is (goes_on fs l) (linked l fs t q)
linked_is link.Dot fs t q = λ e. cc
linked_is link.Index fs t q = λ e. cc
linked_is (link.Operator l op) fs t q = λ e. cc
linked_is (link.End k) fs t q = end_is t fs k q

-- a mark behind an operand
pub mark_linked : (k : Punctuator) (fs : List Frame) (t : Tree) (q : Place)
    → machine.after_member fs t (at (punctuator k) q) ≡ linked (link_of k) fs t q
mark_linked m.Dot fs t q = refl
mark_linked m.OpenSquare fs t q = refl
mark_linked _ fs t q = refl

word_by : (is : Bool) (w : List ℕ) (fs : List Frame) (t : Tree) (q : Place)
    → machine.operand_by (if is then Some (3, b.In) else None) fs t (at (word w) q)
    ≡ (if is then linked (link.Operator 3 b.In) fs t q else None)
word_by true w fs t q = refl
word_by false w fs t q = refl

pub word_linked : (w : List ℕ) (fs : List Frame) (t : Tree) (q : Place)
    → machine.after_member fs t (at (word w) q) ≡ (if bytes_eq w (codes "in") then linked (link.Operator 3 b.In) fs t q else None)
word_linked w fs t q = word_by (bytes_eq w (codes "in")) w fs t q

-- ---- the end of the text

whole : (t : Tree) (fs : List Frame) → Is (is_text (closing_of fs)) (machine.if_whole (t, fs))
whole t [] = λ e. cc
whole t (in_round p ∷ fs) = refl
whole t (in_list p is o ∷ fs) = refl
whole t (in_key p es o ∷ fs) = refl
whole t (in_value p es o a ∷ fs) = refl
whole t (in_arguments p a x us ∷ fs) = refl
whole t (in_index a o ∷ fs) = refl
whole t (after_sign s p ∷ fs) = refl
whole t (after_operator a op k ∷ fs) = refl
whole t (after_question c ∷ fs) = refl
whole t (after_colon c a ∷ fs) = refl

pub whole_is : (t : Tree) (fs : List Frame) → Is (is_text (closing_of (settled None fs))) (machine.if_whole (closed fs t))
whole_is t fs =
    let e : (closed fs t).1 ≡ settled None fs = sym (ap (λ r. r.1) (closed_is fs t)) ∙ settled_is None fs t in
    subst (λ gs. Is (is_text (closing_of gs)) (machine.if_whole (closed fs t))) e (whole (closed fs t).0 (closed fs t).1)

some_whole : (t u : Tree) (fs : List Frame) → machine.if_whole (t, fs) ≡ Some u → t ≡ u
some_whole t u [] e = cc
some_whole t u (f ∷ fs) e = absurd (cc)

-- the whole is what the operand takes in
pub is_whole_tree : (t : Tree) (fs : List Frame) → is_text (closing_of (settled None fs)) ≡ true
    → machine.if_whole (closed fs t) ≡ Some (taken_in None fs t).0
is_whole_tree t fs h = by (machine.if_whole (closed fs t)) refl (subst (λ b. Is b (machine.if_whole (closed fs t))) h (whole_is t fs))
  where
    by : (o : Option Tree) → machine.if_whole (closed fs t) ≡ o → Is true o → o ≡ Some (taken_in None fs t).0
    by None e some = absurd (some refl)
    by (Some u) e some = ap (λ x. Some x) (sym (some_whole (closed fs t).0 u (closed fs t).1 e) ∙ ap (λ r. r.0) (sym (closed_is fs t)))

-- ---- by what is known

pub link_goes : (l : Link) (fs : List Frame) (t : Tree) (q : Place) → goes_on fs l ≡ true → (linked l fs t q ≡ None) → ⊥
link_goes l fs t q e = subst (λ b. Is b (linked l fs t q)) e (linked_is l fs t q)

pub link_stops : (l : Link) (fs : List Frame) (t : Tree) (q : Place) → goes_on fs l ≡ false → linked l fs t q ≡ None
link_stops l fs t q e = subst (λ b. Is b (linked l fs t q)) e (linked_is l fs t q)

pub question_none : (t : Tree) (fs : List Frame) → is_asking fs ≡ true → machine.question_by (reduced 5 fs t) ≡ None
question_none t fs e = subst (λ b. Is (not b) (machine.question_by (reduced 5 fs t))) e (question_is t fs)

asked_some : (t : Tree) (fs : List Frame) → asks fs ≡ false → machine.question_by (t, fs) ≡ Some (machine.needs, after_question t ∷ fs)
asked_some t [] h = refl
asked_some t (after_question c ∷ fs) h = absurd (cc)
asked_some t (in_round p ∷ fs) h = refl
asked_some t (in_list p is o ∷ fs) h = refl
asked_some t (in_key p es o ∷ fs) h = refl
asked_some t (in_value p es o a ∷ fs) h = refl
asked_some t (in_arguments p a x us ∷ fs) h = refl
asked_some t (in_index a o ∷ fs) h = refl
asked_some t (after_sign s p ∷ fs) h = refl
asked_some t (after_operator a op k ∷ fs) h = refl
asked_some t (after_colon c a ∷ fs) h = refl

-- where an operand has taken in what waits
pub question_to : (fs gs : List Frame) (t u : Tree) → is_asking fs ≡ false → taken_in (Some 5) fs t ≡ (u, gs)
    → machine.question_by (reduced 5 fs t) ≡ Some (machine.needs, after_question u ∷ gs)
question_to fs gs t u h e =
    ap machine.question_by (sym (reduced_is 5 fs t) ∙ e)
    ∙ asked_some u gs (ap asks (sym (ap (λ r. r.1) e) ∙ settled_is (Some 5) fs t) ∙ h)

pub asks_to : (fs gs : List Frame) (t u : Tree) → is_asking fs ≡ true → taken_in (Some 5) fs t ≡ (u, gs) → asks gs ≡ true
asks_to fs gs t u h e = ap asks (sym (ap (λ r. r.1) e) ∙ settled_is (Some 5) fs t) ∙ h

pub not_whole : (t : Tree) (fs : List Frame) → is_text (closing_of (settled None fs)) ≡ false → machine.if_whole (closed fs t) ≡ None
not_whole t fs h = subst (λ b. Is b (machine.if_whole (closed fs t))) h (whole_is t fs)
