-- Brackets without a part, and behind a comma.
use Rattle.std.proofs.Common.{◌≡◌, refl, subst, true, Option, Some, None, List, [], ◌∷◌}
use Rattle.cel_syntax.specs.Token.{Token, word, number, quoted, punctuator}
use Rattle.cel_syntax.specs.Punctuator.TheVariants as m
use Rattle.kube_server_syntax.specs.Machine as machine
use Rattle.kube_server_syntax.specs.Machine.{Frame, State, in_round, in_list, in_key, in_value, in_arguments, in_index, after_sign, after_operator, after_question, after_colon}
use Rattle.kube_server_syntax.specs.declared.node.Place.{Place}
use Rattle.kube_server_parser.specs.Tables.{at, in_holder, in_more, holder_of, end_empty, marked}
use Rattle.kube_server_parser.specs.declared.brackets.Inside.{Inside}
use Rattle.kube_server_parser.specs.declared.brackets.Inside.TheVariants as inside
use Rattle.kube_server_parser.proofs.Ends.{Is}

-- what a step is that takes a token as this
abbrev pub As : Option State → Option State → Inside → List Frame → Place → Type 0
As o other inside.End fs q = (o ≡ end_empty fs q) × Is true (end_empty fs q)
As o other inside.Mark fs q = (o ≡ marked fs) × Is true (marked fs)
As o other inside.Comma fs q = o ≡ Some (machine.ended, fs)
As o other inside.Operand fs q = o ≡ other

abbrev pub AsMore : Option State → Option State → Inside → List Frame → Place → Type 0
AsMore o other inside.End fs q = (o ≡ end_empty fs q) × Is true (end_empty fs q)
AsMore o other inside.Mark fs q = (o ≡ marked fs) × Is true (marked fs)
AsMore o other inside.Comma fs q = o ≡ None
AsMore o other inside.Operand fs q = o ≡ other

pub opened_is : (fs : List Frame) (t : Token) (q : Place)
    → As (machine.step_opened fs (at t q)) (machine.begin fs (at t q)) (in_holder (holder_of fs) t) fs q
opened_is (in_list p is o ∷ fs) (punctuator m.CloseSquare) q = (refl, λ e. cc)
opened_is (in_list p is o ∷ fs) (punctuator m.Question) q = (refl, λ e. cc)
opened_is (in_list p is o ∷ fs) (punctuator m.Comma) q = refl
opened_is (in_list p is o ∷ fs) (punctuator _) q = refl
opened_is (in_list p is o ∷ fs) (word y) q = refl
opened_is (in_list p is o ∷ fs) (number y) q = refl
opened_is (in_list p is o ∷ fs) (quoted y) q = refl
opened_is (in_key p es o ∷ fs) (punctuator m.CloseBrace) q = (refl, λ e. cc)
opened_is (in_key p es o ∷ fs) (punctuator m.Question) q = (refl, λ e. cc)
opened_is (in_key p es o ∷ fs) (punctuator m.Comma) q = refl
opened_is (in_key p es o ∷ fs) (punctuator _) q = refl
opened_is (in_key p es o ∷ fs) (word y) q = refl
opened_is (in_key p es o ∷ fs) (number y) q = refl
opened_is (in_key p es o ∷ fs) (quoted y) q = refl
opened_is (in_arguments p a x us ∷ fs) (punctuator m.CloseRound) q = (refl, λ e. cc)
opened_is (in_arguments p a x us ∷ fs) (punctuator _) q = refl
opened_is (in_arguments p a x us ∷ fs) (word y) q = refl
opened_is (in_arguments p a x us ∷ fs) (number y) q = refl
opened_is (in_arguments p a x us ∷ fs) (quoted y) q = refl
opened_is [] (punctuator k) q = refl
opened_is [] (word y) q = refl
opened_is [] (number y) q = refl
opened_is [] (quoted y) q = refl
opened_is (in_round p ∷ fs) (punctuator k) q = refl
opened_is (in_round p ∷ fs) (word y) q = refl
opened_is (in_round p ∷ fs) (number y) q = refl
opened_is (in_round p ∷ fs) (quoted y) q = refl
opened_is (in_value p es o a ∷ fs) (punctuator k) q = refl
opened_is (in_value p es o a ∷ fs) (word y) q = refl
opened_is (in_value p es o a ∷ fs) (number y) q = refl
opened_is (in_value p es o a ∷ fs) (quoted y) q = refl
opened_is (in_index a o ∷ fs) (punctuator k) q = refl
opened_is (in_index a o ∷ fs) (word y) q = refl
opened_is (in_index a o ∷ fs) (number y) q = refl
opened_is (in_index a o ∷ fs) (quoted y) q = refl
opened_is (after_sign s p ∷ fs) (punctuator k) q = refl
opened_is (after_sign s p ∷ fs) (word y) q = refl
opened_is (after_sign s p ∷ fs) (number y) q = refl
opened_is (after_sign s p ∷ fs) (quoted y) q = refl
opened_is (after_operator a op l ∷ fs) (punctuator k) q = refl
opened_is (after_operator a op l ∷ fs) (word y) q = refl
opened_is (after_operator a op l ∷ fs) (number y) q = refl
opened_is (after_operator a op l ∷ fs) (quoted y) q = refl
opened_is (after_question c ∷ fs) (punctuator k) q = refl
opened_is (after_question c ∷ fs) (word y) q = refl
opened_is (after_question c ∷ fs) (number y) q = refl
opened_is (after_question c ∷ fs) (quoted y) q = refl
opened_is (after_colon c a ∷ fs) (punctuator k) q = refl
opened_is (after_colon c a ∷ fs) (word y) q = refl
opened_is (after_colon c a ∷ fs) (number y) q = refl
opened_is (after_colon c a ∷ fs) (quoted y) q = refl

pub more_is : (fs : List Frame) (t : Token) (q : Place)
    → AsMore (machine.step_more fs (at t q)) (machine.begin fs (at t q)) (in_more (holder_of fs) t) fs q
more_is (in_list p is o ∷ fs) (punctuator m.CloseSquare) q = (refl, λ e. cc)
more_is (in_list p is o ∷ fs) (punctuator m.Question) q = (refl, λ e. cc)
more_is (in_list p is o ∷ fs) (punctuator m.Comma) q = refl
more_is (in_list p is o ∷ fs) (punctuator _) q = refl
more_is (in_list p is o ∷ fs) (word y) q = refl
more_is (in_list p is o ∷ fs) (number y) q = refl
more_is (in_list p is o ∷ fs) (quoted y) q = refl
more_is (in_key p es o ∷ fs) (punctuator m.CloseBrace) q = (refl, λ e. cc)
more_is (in_key p es o ∷ fs) (punctuator m.Question) q = (refl, λ e. cc)
more_is (in_key p es o ∷ fs) (punctuator m.Comma) q = refl
more_is (in_key p es o ∷ fs) (punctuator _) q = refl
more_is (in_key p es o ∷ fs) (word y) q = refl
more_is (in_key p es o ∷ fs) (number y) q = refl
more_is (in_key p es o ∷ fs) (quoted y) q = refl
more_is (in_arguments p a x us ∷ fs) (punctuator _) q = refl
more_is (in_arguments p a x us ∷ fs) (word y) q = refl
more_is (in_arguments p a x us ∷ fs) (number y) q = refl
more_is (in_arguments p a x us ∷ fs) (quoted y) q = refl
more_is [] (punctuator k) q = refl
more_is [] (word y) q = refl
more_is [] (number y) q = refl
more_is [] (quoted y) q = refl
more_is (in_round p ∷ fs) (punctuator k) q = refl
more_is (in_round p ∷ fs) (word y) q = refl
more_is (in_round p ∷ fs) (number y) q = refl
more_is (in_round p ∷ fs) (quoted y) q = refl
more_is (in_value p es o a ∷ fs) (punctuator k) q = refl
more_is (in_value p es o a ∷ fs) (word y) q = refl
more_is (in_value p es o a ∷ fs) (number y) q = refl
more_is (in_value p es o a ∷ fs) (quoted y) q = refl
more_is (in_index a o ∷ fs) (punctuator k) q = refl
more_is (in_index a o ∷ fs) (word y) q = refl
more_is (in_index a o ∷ fs) (number y) q = refl
more_is (in_index a o ∷ fs) (quoted y) q = refl
more_is (after_sign s p ∷ fs) (punctuator k) q = refl
more_is (after_sign s p ∷ fs) (word y) q = refl
more_is (after_sign s p ∷ fs) (number y) q = refl
more_is (after_sign s p ∷ fs) (quoted y) q = refl
more_is (after_operator a op l ∷ fs) (punctuator k) q = refl
more_is (after_operator a op l ∷ fs) (word y) q = refl
more_is (after_operator a op l ∷ fs) (number y) q = refl
more_is (after_operator a op l ∷ fs) (quoted y) q = refl
more_is (after_question c ∷ fs) (punctuator k) q = refl
more_is (after_question c ∷ fs) (word y) q = refl
more_is (after_question c ∷ fs) (number y) q = refl
more_is (after_question c ∷ fs) (quoted y) q = refl
more_is (after_colon c a ∷ fs) (punctuator k) q = refl
more_is (after_colon c a ∷ fs) (word y) q = refl
more_is (after_colon c a ∷ fs) (number y) q = refl
more_is (after_colon c a ∷ fs) (quoted y) q = refl

-- ---- by what is known

pub opened_end : (fs : List Frame) (t : Token) (q : Place) → in_holder (holder_of fs) t ≡ inside.End
    → (machine.step_opened fs (at t q) ≡ end_empty fs q) × ((end_empty fs q ≡ None) → ⊥)
opened_end fs t q e = subst (λ i. As (machine.step_opened fs (at t q)) (machine.begin fs (at t q)) i fs q) e (opened_is fs t q)

pub opened_operand : (fs : List Frame) (t : Token) (q : Place) → in_holder (holder_of fs) t ≡ inside.Operand
    → machine.step_opened fs (at t q) ≡ machine.begin fs (at t q)
opened_operand fs t q e = subst (λ i. As (machine.step_opened fs (at t q)) (machine.begin fs (at t q)) i fs q) e (opened_is fs t q)

pub more_end : (fs : List Frame) (t : Token) (q : Place) → in_more (holder_of fs) t ≡ inside.End
    → (machine.step_more fs (at t q) ≡ end_empty fs q) × ((end_empty fs q ≡ None) → ⊥)
more_end fs t q e = subst (λ i. AsMore (machine.step_more fs (at t q)) (machine.begin fs (at t q)) i fs q) e (more_is fs t q)

pub more_operand : (fs : List Frame) (t : Token) (q : Place) → in_more (holder_of fs) t ≡ inside.Operand
    → machine.step_more fs (at t q) ≡ machine.begin fs (at t q)
more_operand fs t q e = subst (λ i. AsMore (machine.step_more fs (at t q)) (machine.begin fs (at t q)) i fs q) e (more_is fs t q)
