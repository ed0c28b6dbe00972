-- The tokens that an expression may begin with, and brackets whose first part begins with one.
use Rattle.std.proofs.Common.{◌≡◌, ◌∙◌, ℕ, refl, ap, Bool, true, false, Some, List, [], ◌∷◌}
use Rattle.cel_value.specs.Data.{Data}
use Rattle.cel_syntax.specs.Literal.{literal_value}
use Rattle.cel_syntax.specs.Token.{Token, word, number, quoted, punctuator}
use Rattle.cel_syntax.specs.Punctuator.TheVariants as m
use Rattle.cel_syntax.specs.UnaryOperator.{UnaryOperator}
use Rattle.cel_syntax.specs.UnaryOperator.TheVariants as u
use Rattle.cel_syntax.specs.Operator.{sign}
use Rattle.kube_server_syntax.specs.Grammar as g
use Rattle.kube_server_syntax.specs.Grammar.{Expression, Chain, Prefixed, Signed, Member, Primary, OptionalMark}
use Rattle.kube_server_syntax.specs.Machine.{Frame, in_list, in_key, in_arguments, in_index, needs, opened, more, indexed, step, step_opened, step_more, begin}
use Rattle.kube_server_syntax.specs.Placed.{Placed}
use Rattle.kube_server_syntax.specs.Tree.{Tree, Trees}
use Rattle.kube_server_syntax.specs.declared.node.Place.{Place}
use Rattle.kube_server_syntax.proofs.Runs.{ends, runs, at, goes_to}

abbrev pub starts_token : Token → Bool
starts_token (word x) = true
starts_token (number s) = true
starts_token (quoted s) = true
starts_token (punctuator m.OpenRound) = true
starts_token (punctuator m.OpenSquare) = true
starts_token (punctuator m.OpenBrace) = true
starts_token (punctuator m.Not) = true
starts_token (punctuator m.Minus) = true
starts_token (punctuator _) = false

abbrev pub starts : List Placed → Bool
starts [] = false
starts (k ∷ ts) = starts_token k.token

literal_starts : (t : Token) (v : Data) → literal_value false t ≡ Some v → starts_token t ≡ true
literal_starts (word x) v h = refl
literal_starts (number s) v h = refl
literal_starts (quoted s) v h = refl
literal_starts (punctuator n) v h = absurd (cc)

sign_starts : (s : UnaryOperator) → starts_token (punctuator (sign s)) ≡ true
sign_starts u.Not = refl
sign_starts u.Negate = refl

primary_starts : {ts rest : List Placed} {t : Tree} → Primary ts rest t → starts ts ≡ true
primary_starts (g.ident e h) = ap starts_token e
primary_starts (g.call e h o us c) = ap starts_token e
primary_starts (g.round o e c) = ap starts_token o
primary_starts (g.list o is c e) = ap starts_token o
primary_starts (g.map o es c e) = ap starts_token o
primary_starts (g.literal {k = k} {v = v} e) = literal_starts k.token v e
primary_starts (g.negative e h is) = ap starts_token e

member_starts : {ts rest : List Placed} {t : Tree} → Member ts rest t → starts ts ≡ true
member_starts (g.member d ls) = primary_starts d

signed_starts : {s : UnaryOperator} {ts rest : List Placed} {t : Tree} → Signed s ts rest t → starts ts ≡ true
signed_starts (g.unsigned d) = member_starts d
signed_starts {s} (g.one_sign e b d) = ap starts_token e ∙ sign_starts s

chain_starts : {k : ℕ} {ts rest : List Placed} {t : Tree} → Chain k ts rest t → starts ts ≡ true
chain_starts (g.operand (g.signed d)) = signed_starts d
chain_starts (g.chain d ops) = chain_starts d

pub expression_starts : {ts rest : List Placed} {t : Tree} → Expression ts rest t → starts ts ≡ true
expression_starts (g.plain d) = chain_starts d
expression_starts (g.conditional c q a k b) = chain_starts c

-- ---- brackets

pub list_opened : (p : Place) (is : List (Bool × Tree)) (o : Bool) (fs : List Frame) (ts : List Placed) → starts ts ≡ true
    → runs opened (in_list p is o ∷ fs) ts ≡ runs needs (in_list p is o ∷ fs) ts
list_opened p is o fs [] h = absurd (cc)
list_opened p is o fs (k ∷ ts) h = ap (λ s. ends s ts) (by_token k.token h)
  where
    by_token : (z : Token) → starts_token z ≡ true → step_opened (in_list p is o ∷ fs) (at z k.place) ≡ begin (in_list p is o ∷ fs) (at z k.place)
    by_token (word x) g = refl
    by_token (number s) g = refl
    by_token (quoted s) g = refl
    by_token (punctuator m.OpenRound) g = refl
    by_token (punctuator m.OpenSquare) g = refl
    by_token (punctuator m.OpenBrace) g = refl
    by_token (punctuator m.Not) g = refl
    by_token (punctuator m.Minus) g = refl
    by_token (punctuator _) g = absurd (cc)

pub list_more : (p : Place) (is : List (Bool × Tree)) (o : Bool) (fs : List Frame) (ts : List Placed) → starts ts ≡ true
    → runs more (in_list p is o ∷ fs) ts ≡ runs needs (in_list p is o ∷ fs) ts
list_more p is o fs [] h = absurd (cc)
list_more p is o fs (k ∷ ts) h = ap (λ s. ends s ts) (by_token k.token h)
  where
    by_token : (z : Token) → starts_token z ≡ true → step_more (in_list p is o ∷ fs) (at z k.place) ≡ begin (in_list p is o ∷ fs) (at z k.place)
    by_token (word x) g = refl
    by_token (number s) g = refl
    by_token (quoted s) g = refl
    by_token (punctuator m.OpenRound) g = refl
    by_token (punctuator m.OpenSquare) g = refl
    by_token (punctuator m.OpenBrace) g = refl
    by_token (punctuator m.Not) g = refl
    by_token (punctuator m.Minus) g = refl
    by_token (punctuator _) g = absurd (cc)

pub key_opened : (p : Place) (es : List (Bool × Tree × Tree)) (o : Bool) (fs : List Frame) (ts : List Placed) → starts ts ≡ true
    → runs opened (in_key p es o ∷ fs) ts ≡ runs needs (in_key p es o ∷ fs) ts
key_opened p es o fs [] h = absurd (cc)
key_opened p es o fs (k ∷ ts) h = ap (λ s. ends s ts) (by_token k.token h)
  where
    by_token : (z : Token) → starts_token z ≡ true → step_opened (in_key p es o ∷ fs) (at z k.place) ≡ begin (in_key p es o ∷ fs) (at z k.place)
    by_token (word x) g = refl
    by_token (number s) g = refl
    by_token (quoted s) g = refl
    by_token (punctuator m.OpenRound) g = refl
    by_token (punctuator m.OpenSquare) g = refl
    by_token (punctuator m.OpenBrace) g = refl
    by_token (punctuator m.Not) g = refl
    by_token (punctuator m.Minus) g = refl
    by_token (punctuator _) g = absurd (cc)

pub key_more : (p : Place) (es : List (Bool × Tree × Tree)) (o : Bool) (fs : List Frame) (ts : List Placed) → starts ts ≡ true
    → runs more (in_key p es o ∷ fs) ts ≡ runs needs (in_key p es o ∷ fs) ts
key_more p es o fs [] h = absurd (cc)
key_more p es o fs (k ∷ ts) h = ap (λ s. ends s ts) (by_token k.token h)
  where
    by_token : (z : Token) → starts_token z ≡ true → step_more (in_key p es o ∷ fs) (at z k.place) ≡ begin (in_key p es o ∷ fs) (at z k.place)
    by_token (word x) g = refl
    by_token (number s) g = refl
    by_token (quoted s) g = refl
    by_token (punctuator m.OpenRound) g = refl
    by_token (punctuator m.OpenSquare) g = refl
    by_token (punctuator m.OpenBrace) g = refl
    by_token (punctuator m.Not) g = refl
    by_token (punctuator m.Minus) g = refl
    by_token (punctuator _) g = absurd (cc)

pub arguments_opened : (p : Place) (a : Trees) (x : List ℕ) (us : List Tree) (fs : List Frame) (ts : List Placed) → starts ts ≡ true
    → runs opened (in_arguments p a x us ∷ fs) ts ≡ runs needs (in_arguments p a x us ∷ fs) ts
arguments_opened p a x us fs [] h = absurd (cc)
arguments_opened p a x us fs (k ∷ ts) h = ap (λ s. ends s ts) (by_token k.token h)
  where
    by_token : (z : Token) → starts_token z ≡ true
        → step_opened (in_arguments p a x us ∷ fs) (at z k.place) ≡ begin (in_arguments p a x us ∷ fs) (at z k.place)
    by_token (word y) g = refl
    by_token (number s) g = refl
    by_token (quoted s) g = refl
    by_token (punctuator m.OpenRound) g = refl
    by_token (punctuator m.OpenSquare) g = refl
    by_token (punctuator m.OpenBrace) g = refl
    by_token (punctuator m.Not) g = refl
    by_token (punctuator m.Minus) g = refl
    by_token (punctuator _) g = absurd (cc)

index_opened : (t : Tree) (fs : List Frame) (ts : List Placed) → starts ts ≡ true
    → runs (indexed t) fs ts ≡ runs needs (in_index t false ∷ fs) ts
index_opened t fs [] h = absurd (cc)
index_opened t fs (k ∷ ts) h = ap (λ s. ends s ts) (by_token k.token h)
  where
    by_token : (z : Token) → starts_token z ≡ true
        → step (indexed t) fs (at z k.place) ≡ begin (in_index t false ∷ fs) (at z k.place)
    by_token (word y) g = refl
    by_token (number s) g = refl
    by_token (quoted s) g = refl
    by_token (punctuator m.OpenRound) g = refl
    by_token (punctuator m.OpenSquare) g = refl
    by_token (punctuator m.OpenBrace) g = refl
    by_token (punctuator m.Not) g = refl
    by_token (punctuator m.Minus) g = refl
    by_token (punctuator _) g = absurd (cc)

-- ---- optional question marks

pub list_marked : {o : Bool} {mark ts : List Placed} → OptionalMark o mark ts → (p : Place) (is : List (Bool × Tree)) (fs : List Frame) → starts ts ≡ true
    → runs opened (in_list p is false ∷ fs) mark ≡ runs needs (in_list p is o ∷ fs) ts
list_marked {ts = ts} g.unmarked p is fs h = list_opened p is false fs ts h
list_marked {ts = ts} (g.marked {q = q} e) p is fs h =
    goes_to opened (in_list p is false ∷ fs) q ts (punctuator m.Question) (Some (needs, in_list p is true ∷ fs)) e refl

pub list_marked_more : {o : Bool} {mark ts : List Placed} → OptionalMark o mark ts → (p : Place) (is : List (Bool × Tree)) (fs : List Frame) → starts ts ≡ true
    → runs more (in_list p is false ∷ fs) mark ≡ runs needs (in_list p is o ∷ fs) ts
list_marked_more {ts = ts} g.unmarked p is fs h = list_more p is false fs ts h
list_marked_more {ts = ts} (g.marked {q = q} e) p is fs h =
    goes_to more (in_list p is false ∷ fs) q ts (punctuator m.Question) (Some (needs, in_list p is true ∷ fs)) e refl

pub key_marked : {o : Bool} {mark ts : List Placed} → OptionalMark o mark ts → (p : Place) (es : List (Bool × Tree × Tree)) (fs : List Frame) → starts ts ≡ true
    → runs opened (in_key p es false ∷ fs) mark ≡ runs needs (in_key p es o ∷ fs) ts
key_marked {ts = ts} g.unmarked p es fs h = key_opened p es false fs ts h
key_marked {ts = ts} (g.marked {q = q} e) p es fs h =
    goes_to opened (in_key p es false ∷ fs) q ts (punctuator m.Question) (Some (needs, in_key p es true ∷ fs)) e refl

pub key_marked_more : {o : Bool} {mark ts : List Placed} → OptionalMark o mark ts → (p : Place) (es : List (Bool × Tree × Tree)) (fs : List Frame) → starts ts ≡ true
    → runs more (in_key p es false ∷ fs) mark ≡ runs needs (in_key p es o ∷ fs) ts
key_marked_more {ts = ts} g.unmarked p es fs h = key_more p es false fs ts h
key_marked_more {ts = ts} (g.marked {q = q} e) p es fs h =
    goes_to more (in_key p es false ∷ fs) q ts (punctuator m.Question) (Some (needs, in_key p es true ∷ fs)) e refl

pub index_marked : {o : Bool} {mark ts : List Placed} → OptionalMark o mark ts → (t : Tree) (fs : List Frame) → starts ts ≡ true
    → runs (indexed t) fs mark ≡ runs needs (in_index t o ∷ fs) ts
index_marked {ts = ts} g.unmarked t fs h = index_opened t fs ts h
index_marked {ts = ts} (g.marked {q = q} e) t fs h =
    goes_to (indexed t) fs q ts (punctuator m.Question) (Some (needs, in_index t true ∷ fs)) e refl
