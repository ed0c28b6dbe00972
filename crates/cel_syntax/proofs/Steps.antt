-- The steps of the parser.
use Rattle.std.proofs.Common.{◌≡◌, ℕ, suc, ◌+◌, ◌<◌, ◌≤◌, refl, sym, ap, arith, Bool, true, false, Option, Some, None, List, [], ◌∷◌, drop, ◌&&◌, ◌||◌}
use Rattle.std.specs.Prelude.{nat_lt, nat_eq, not, codes}
use Rattle.std.specs.List.{list_any}
use Rattle.std.specs.Str.{bytes_eq, is_utf8}
use denote.Enum.Bare.{same_true, true_same, false_same}
use Rattle.std.proofs.lemmas.Option.{cond_some}
use Rattle.std.proofs.lemmas.Bool.{ltb-true, le-leb, eqb-true, eq-eqb}
use Rattle.std.proofs.lemmas.Bool.Decides.{nat_tests}
use Rattle.cel_syntax_lexer.specs.contracts.punctuator.Punctuator.{the_type}
use Rattle.cel_syntax_lexer.specs.declared.punctuator.Punctuator.{Punctuator}
use Rattle.cel_syntax_lexer.specs.Token.{Token, word, punctuator}
use Rattle.cel_syntax_ast.specs.Term.{Term}
use Rattle.cel_syntax_ast.specs.declared.expr.BinaryOperator.{BinaryOperator}
use Rattle.cel_syntax_ast.specs.Words.{is_identifier, is_selector, is_literal, is_reserved}
use Rattle.cel_syntax_lexer.specs.Literal.{word_value, literal_value}
use Rattle.cel_syntax.specs.Operator.{operator, operator_of}
use Rattle.cel_syntax.specs.Ahead.{same_punctuator, sees, operator_at, if_level, is_end, sees_end}
use Rattle.cel_syntax.specs.Parser.{Outcome, Parser, Found, and_then, above, slack}

pub and_then_some : {A B : Type 0} {f : A → Parser B} {rest : List Token} {y : B} (o : Outcome A) → and_then o f ≡ Some (y, rest)
    → (x : A) × (mid : List Token) × (o ≡ Some (x, mid)) × (f x mid ≡ Some (y, rest))
and_then_some None e = absurd (cc)
and_then_some (Some p) e = (p.0, p.1, refl, e)

pub sees_punctuator : (m : Punctuator) (ts : List Token) → sees m ts ≡ true → ts ≡ punctuator m ∷ drop 1 ts
unfolding same_punctuator
sees_punctuator m [] e = absurd (cc)
sees_punctuator m (punctuator k ∷ ts) e = let s : k ≡ m = same_true the_type (Prim.search) _ _ e in ap (λ x. punctuator x ∷ ts) s
sees_punctuator m (_ ∷ ts) e = absurd (cc)

pub sees_itself : (m : Punctuator) (ts : List Token) → sees m (punctuator m ∷ ts) ≡ true
unfolding same_punctuator
sees_itself m ts = true_same the_type m m refl

pub above_some : {t : Term} {x : Found} {rest : List Token} (limit l : ℕ) (ts : List Token) → above limit l t ts ≡ Some (x, rest)
    → (x ≡ (t, l + 1)) × (ts ≡ rest) × (l + 1 ≤ limit + slack t)
unfolding above
above_some {t} {x} {rest} limit l ts e =
    let h = cond_some {A = Found × List Token} (nat_lt l (limit + slack t)) ((t, l + 1), ts) (x, rest) e in
    let lt : l < limit + slack t = ltb-true l (limit + slack t) h.0 in
    (sym (ap (λ (p : Found × List Token). p.0) h.1), ap (λ (p : Found × List Token). p.1) h.1, omega arith)

pub above_at : {t : Term} (limit l : ℕ) (ts : List Token) → l + 1 ≤ limit + slack t → above limit l t ts ≡ Some ((t, l + 1), ts)
unfolding above
above_at {t} limit l ts h = let lt : nat_lt l (limit + slack t) ≡ true = le-leb (suc l) (limit + slack t) (omega arith) in rw lt

if_level_some : (k : ℕ) (o : Option (ℕ × BinaryOperator)) (op : BinaryOperator) → if_level k o ≡ Some op → o ≡ Some (k, op)
if_level_some k None op e = absurd (cc)
if_level_some k (Some (j, q)) op e =
    let h = cond_some (nat_eq j k) q op e in
    let at : j ≡ k = eqb-true j k h.0 in
    rw (at, h.1)

pub operator_at_token : (k : ℕ) (ts : List Token) (op : BinaryOperator) → operator_at k ts ≡ Some op
    → (o : Token) × (ts ≡ o ∷ drop 1 ts) × (operator o ≡ Some (k, op))
unfolding operator_at
operator_at_token k [] op e = absurd (cc)
operator_at_token k (o ∷ ts) op e = (o, refl, if_level_some k (operator o) op e)

pub token_operator_at : (k : ℕ) (o : Token) (ts : List Token) (op : BinaryOperator) → operator o ≡ Some (k, op) → operator_at k (o ∷ ts) ≡ Some op
unfolding operator_at
token_operator_at k o ts op e = rw (e, eq-eqb k k refl)

-- A token that is an operator is no other punctuator.
pub no_operator : (m k : Punctuator) (o : ℕ × BinaryOperator) → operator_of m ≡ Some o → operator_of k ≡ None → same_punctuator m k ≡ false
unfolding same_punctuator
no_operator m k o e none = false_same the_type (Prim.search) m k (λ same. absurd (cc (ap operator_of same)))

-- nor is a token that begins an expression one that ends it
pub no_end : (k : Punctuator) (ts : List Token) → is_end k ≡ true → sees_end ts ≡ false → sees k ts ≡ false
unfolding same_punctuator
no_end k [] is h = refl
no_end k (punctuator n ∷ ts) is h = false_same the_type (Prim.search) n k (λ same. absurd (cc (ap is_end same)))
no_end k (_ ∷ ts) is h = refl

-- An operator of level k + 1 is none of a lower level.
pub no_tighter : (j k : ℕ) (o : Token) (ts : List Token) (op : BinaryOperator) → operator o ≡ Some (suc k, op) → j ≤ k → operator_at j (o ∷ ts) ≡ None
unfolding operator_at
no_tighter j k o ts op e h = let differ : nat_eq (suc k) j ≡ false = grind (arith, nat_tests) in rw (e, differ)

both : (a b : Bool) → (a && b) ≡ true → (a ≡ true) × (b ≡ true)
both true b e = (refl, e)
both false b e = absurd (cc)

neither : (a b : Bool) → not (a || b) ≡ true → (a ≡ false) × (not b ≡ true)
neither true b e = absurd (cc)
neither false b e = (refl, e)

no_word : (w t : List ℕ) (ts : List (List ℕ)) → not (list_any (bytes_eq w) (t ∷ ts)) ≡ true → (bytes_eq w t ≡ false) × (not (list_any (bytes_eq w) ts) ≡ true)
no_word w t ts e = neither (bytes_eq w t) (list_any (bytes_eq w) ts) e

-- An identifier is no literal.
pub identifier_value : (w : List ℕ) → is_identifier w ≡ true → literal_value false (word w) ≡ None
unfolding is_identifier is_selector is_literal word_value
identifier_value w h =
    let some = both (is_utf8 w) (not (is_literal w)) (both (is_selector w) (not (is_reserved w)) h).0 in
    let a = no_word w (codes "true") (codes "false" ∷ codes "null" ∷ codes "in" ∷ []) some.1 in
    let b = no_word w (codes "false") (codes "null" ∷ codes "in" ∷ []) a.1 in
    let c = no_word w (codes "null") (codes "in" ∷ []) b.1 in
    rw (a.0, b.0, c.0)
