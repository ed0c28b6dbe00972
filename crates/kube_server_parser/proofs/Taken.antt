-- An operand takes in what waits for it.
use Rattle.std.proofs.Common.{◌≡◌, ℕ, ◌-◌, ◌≤◌, refl, arith, Bool, true, false, if◌then◌else◌, Option, Some, None, List, [], ◌∷◌}
use Rattle.std.specs.Prelude.{max, nat_le}
use Rattle.std.proofs.Math.Nat.{le-max_right}
use Rattle.kube_server_syntax.specs.Grammar.{level}
use Rattle.kube_server_syntax.specs.Machine as machine
use Rattle.kube_server_syntax.specs.Machine.{Frame, in_round, in_list, in_key, in_value, in_arguments, in_index, after_sign, after_operator, after_question, after_colon, reduced, closed, operated}
use Rattle.kube_server_syntax.specs.Tree.{Tree}
use Rattle.kube_server_parser.specs.Expects.{waits, settled}
use Rattle.kube_server_parser.specs.Pending.{applied, taken_in, next_waits}

pub when : {A : Type 0} (b : Bool) (x y : A) → b ≡ true → (if b then x else y) ≡ x
when true x y h = refl
when false x y h = absurd (cc)

pub unless : {A : Type 0} (b : Bool) (x y : A) → b ≡ false → (if b then x else y) ≡ y
unless true x y h = absurd (cc)
unless false x y h = refl

-- ---- the same as the machine's

same_if : {A : Type 0} (b : Bool) (x y z : A) → x ≡ y → (if b then x else z) ≡ (if b then y else z)
same_if true x y z h = h
same_if false x y z h = refl

pub reduced_is : (l : ℕ) (fs : List Frame) (t : Tree) → taken_in (Some l) fs t ≡ reduced l fs t
reduced_is l [] t = refl
reduced_is l (after_sign s p ∷ fs) t = reduced_is l fs (machine.signed s p t)
reduced_is l (after_operator a op k ∷ fs) t =
    same_if (nat_le k l) (taken_in (Some l) fs (operated a op t)) (reduced l fs (operated a op t)) (t, after_operator a op k ∷ fs)
    (reduced_is l fs (operated a op t))
reduced_is l (in_round p ∷ fs) t = refl
reduced_is l (in_list p is o ∷ fs) t = refl
reduced_is l (in_key p es o ∷ fs) t = refl
reduced_is l (in_value p es o a ∷ fs) t = refl
reduced_is l (in_arguments p a x us ∷ fs) t = refl
reduced_is l (in_index a o ∷ fs) t = refl
reduced_is l (after_question c ∷ fs) t = refl
reduced_is l (after_colon c a ∷ fs) t = refl

pub closed_is : (fs : List Frame) (t : Tree) → taken_in None fs t ≡ closed fs t
closed_is [] t = refl
closed_is (after_sign s p ∷ fs) t = closed_is fs (machine.signed s p t)
closed_is (after_operator a op k ∷ fs) t = closed_is fs (operated a op t)
closed_is (after_colon c a ∷ fs) t = closed_is fs (machine.chosen c a t)
closed_is (in_round p ∷ fs) t = refl
closed_is (in_list p is o ∷ fs) t = refl
closed_is (in_key p es o ∷ fs) t = refl
closed_is (in_value p es o a ∷ fs) t = refl
closed_is (in_arguments p a x us ∷ fs) t = refl
closed_is (in_index a o ∷ fs) t = refl
closed_is (after_question c ∷ fs) t = refl

second_if : (b : Bool) (x y : Tree × List Frame) (z : List Frame) → x.1 ≡ z → (if b then x else y).1 ≡ (if b then z else y.1)
second_if true x y z h = h
second_if false x y z h = refl

pub settled_is : (l : Option ℕ) (fs : List Frame) (t : Tree) → (taken_in l fs t).1 ≡ settled l fs
settled_is l [] t = refl
settled_is l (f ∷ fs) t = second_if (waits l f) (taken_in l fs (applied f t)) (t, f ∷ fs) (settled l fs) (settled_is l fs (applied f t))

-- ---- one frame after another

pub in_goes : (l : Option ℕ) (f : Frame) (fs : List Frame) (t : Tree) → waits l f ≡ true → taken_in l (f ∷ fs) t ≡ taken_in l fs (applied f t)
in_goes l f fs t h = when (waits l f) (taken_in l fs (applied f t)) (t, f ∷ fs) h

pub in_stays : (l : Option ℕ) (fs : List Frame) (t : Tree) → next_waits l fs ≡ false → taken_in l fs t ≡ (t, fs)
in_stays l [] t h = refl
in_stays l (f ∷ fs) t h = unless (waits l f) (taken_in l fs (applied f t)) (t, f ∷ fs) h

-- ---- levels

pub applied_level : (f : Frame) (t : Tree) → level t ≤ level (applied f t)
applied_level (after_sign s p) t = omega arith
applied_level (after_operator a op k) t = let g = le-max_right (level a) (level t) in omega arith
applied_level (after_colon c a) t =
    let f = le-max_right (level c) (max (level a) (level t)) in
    let g = le-max_right (level a) (level t) in
    omega arith
applied_level (in_round p) t = omega arith
applied_level (in_list p is o) t = omega arith
applied_level (in_key p es o) t = omega arith
applied_level (in_value p es o a) t = omega arith
applied_level (in_arguments p a x us) t = omega arith
applied_level (in_index a o) t = omega arith
applied_level (after_question c) t = omega arith

at_least : (b : Bool) (n : ℕ) (x y : Tree × List Frame) → n ≤ level x.0 → n ≤ level y.0 → n ≤ level (if b then x else y).0
at_least true n x y h g = h
at_least false n x y h g = g

pub taken_level : (l : Option ℕ) (fs : List Frame) (t : Tree) → level t ≤ level (taken_in l fs t).0
taken_level l [] t = omega arith
taken_level l (f ∷ fs) t =
    let g = applied_level f t in
    let h = taken_level l fs (applied f t) in
    at_least (waits l f) (level t) (taken_in l fs (applied f t)) (t, f ∷ fs) (omega arith) (omega arith)
