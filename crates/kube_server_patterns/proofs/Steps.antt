-- How a translation goes on from lexeme to lexeme.
use Rattle.std.proofs.Common.{◌≡◌, ℕ, zero, suc, ◌+◌, ◌<◌, List, [], ◌∷◌, ◌++◌, length, append_assoc, add-one, refl, ap, sym, ◌∙◌, subst, arith}
use Rattle.std.specs.Prelude.{Result, Ok, Err}
use Rattle.std.specs.Borrow.{Bor}
use Rattle.kube_server_patterns.specs.States.{Place, Step, Made, made_by, made_of, place_of, step}
use Rattle.kube_server_patterns.specs.Translation.{after_text, after_step, ended, translated}
use Rattle.kube_server_patterns.specs.declared.refusal.Refusal.{Refusal}
use Rattle.kube_server_patterns.specs.declared.refusal.Refusal.TheVariants.{Invalid}
use Rattle.kube_server_patterns.specs.declared.state.State as code

-- nothing is left to read
pub at_end : (n : ℕ) (p : Place) → translated n p [] ≡ ended p
unfolding translated
at_end zero p = refl
at_end (suc n) p = refl

-- something is left that isn't read
pub out_of_lexemes : (p : Place) (t : List ℕ) → 0 < length t → translated 0 p t ≡ Err Invalid
unfolding translated
out_of_lexemes p [] h = absurd (omega arith)
out_of_lexemes p (c ∷ t) h = refl

one_step : (n : ℕ) (p : Place) (t : List ℕ) → 0 < length t → translated (suc n) p t ≡ after_step (λ q u. translated n q u) (step p t)
unfolding translated
one_step n p [] h = absurd (omega arith)
one_step n p (c ∷ t) h = refl

after_twice : (a b : List ℕ) (r : Result (List ℕ) Refusal) → after_text a (after_text b r) ≡ after_text (a ++ b) r
after_twice a b (Ok t) = ap (λ (made : List ℕ). Ok made) (sym (append_assoc a b t))
after_twice a b (Err e) = refl

pub after_nothing : (r : Result (List ℕ) Refusal) → after_text [] r ≡ r
after_nothing (Ok t) = refl
after_nothing (Err e) = refl

others_after : (others : Place → List ℕ → Result (List ℕ) Refusal) (out : List ℕ) (m : Made) (r : Result Step Refusal) →
    Ok m ≡ made_of out r → after_text out (after_step others r) ≡ after_text m.text (others m.place m.rest)
others_after others out m (Ok s) e =
    let text : m.text ≡ out ++ s.written = cc in
    let place : m.place ≡ s.place = cc in
    let rest : m.rest ≡ s.rest = cc in
    after_twice out s.written (others s.place s.rest)
    ∙ (ap (λ (t : List ℕ). after_text t (others s.place s.rest)) (sym text)
    ∙ (ap (λ (q : Place). after_text m.text (others q s.rest)) (sym place)
    ∙ ap (λ (u : List ℕ). after_text m.text (others m.place u)) (sym rest)))
others_after others out m (Err r) e = cc

-- a lexeme is read, and the translation is what is written for it and for those after it
pub goes_on : (k n : ℕ) (p : Place) (t out : List ℕ) (m : Made) (all : Result (List ℕ) Refusal) → k ≡ n + 1 → 0 < length t →
    Ok m ≡ made_of out (step p t) → after_text out (translated k p t) ≡ all → after_text m.text (translated n m.place m.rest) ≡ all
goes_on k n p t out m all e some made so_far =
    sym (others_after (λ q u. translated n q u) out m (step p t) made)
    ∙ (ap (λ r. after_text out r) (sym (one_step n p t some))
    ∙ (ap (λ (j : ℕ). after_text out (translated j p t)) (sym (e ∙ add-one n)) ∙ so_far))

refused_with : (others : Place → List ℕ → Result (List ℕ) Refusal) (out : List ℕ) (x : Refusal) (r : Result Step Refusal) →
    Err x ≡ made_of out r → after_text out (after_step others r) ≡ Err x
refused_with others out x (Ok s) e = cc
refused_with others out x (Err y) e = cc

-- a lexeme is refused
pub stops : (k n : ℕ) (p : Place) (t out : List ℕ) (x : Refusal) (all : Result (List ℕ) Refusal) → k ≡ n + 1 → 0 < length t →
    Err x ≡ made_of out (step p t) → after_text out (translated k p t) ≡ all → Err x ≡ all
stops k n p t out x all e some made so_far =
    sym (refused_with (λ q u. translated n q u) out x (step p t) made)
    ∙ (ap (λ r. after_text out r) (sym (one_step n p t some))
    ∙ (ap (λ (j : ℕ). after_text out (translated j p t)) (sym (e ∙ add-one n)) ∙ so_far))

-- the same, of what the code has
pub goes_on_to : (k n : ℕ) (p : Place) (t out : List ℕ) (r : Result (Bor (List ℕ)) Refusal) (rest : Bor (List ℕ)) (s : code.State) (made : List ℕ) (all : Result (List ℕ) Refusal) →
    k ≡ n + 1 → 0 < length t → r ≡ Ok rest → made_by r s made ≡ made_of out (step p t) → after_text out (translated k p t) ≡ all →
    after_text made (translated n (place_of s) rest.now) ≡ all
goes_on_to k n p t out r rest s made all e some is by so_far =
    let m : Made = record { text = made; place = place_of s; rest = rest.now } in
    let read : Ok m ≡ made_of out (step p t) = subst (λ (q : Result (Bor (List ℕ)) Refusal). made_by q s made ≡ made_of out (step p t)) is by in
    goes_on k n p t out m all e some read so_far

pub stops_at : (k n : ℕ) (p : Place) (t out : List ℕ) (r : Result (Bor (List ℕ)) Refusal) (x : Refusal) (s : code.State) (made : List ℕ) (all : Result (List ℕ) Refusal) →
    k ≡ n + 1 → 0 < length t → r ≡ Err x → made_by r s made ≡ made_of out (step p t) → after_text out (translated k p t) ≡ all → Err x ≡ all
stops_at k n p t out r x s made all e some is by so_far =
    let read : Err x ≡ made_of out (step p t) = subst (λ (q : Result (Bor (List ℕ)) Refusal). made_by q s made ≡ made_of out (step p t)) is by in
    stops k n p t out x all e some read so_far

pub finishes : (k : ℕ) (p : Place) (t out : List ℕ) (all r : Result (List ℕ) Refusal) → length t ≡ 0 → after_text out (translated k p t) ≡ all →
    r ≡ after_text out (ended p) → r ≡ all
finishes k p [] out all r none so_far e = e ∙ (ap (λ x. after_text out x) (sym (at_end k p)) ∙ so_far)
finishes k p (c ∷ t) out all r none so_far e = absurd (omega arith)

pub left_over : (k : ℕ) (p : Place) (t out : List ℕ) (all : Result (List ℕ) Refusal) → k ≡ 0 → 0 < length t → after_text out (translated k p t) ≡ all →
    Err Invalid ≡ all
left_over k p t out all none some so_far =
    sym (ap (λ x. after_text out x) (ap (λ (j : ℕ). translated j p t) none ∙ out_of_lexemes p t some)) ∙ so_far
