-- Parsing an operand and what follows it, level by level.
use Rattle.std.proofs.Common.{◌≡◌, ℕ, zero, suc, refl, ap, ◌∙◌, false, Option, Some, None, List, [], ◌∷◌}
use Rattle.std.specs.Prelude.{is_some}
use Rattle.cel_syntax_lexer.specs.Token.{Token}
use Rattle.cel_syntax_ast.specs.declared.expr.BinaryOperator.{BinaryOperator}
use Rattle.cel_syntax.specs.Operator.{operator}
use Rattle.cel_syntax.specs.Ahead.{operator_at, if_level, sees_operator}
use Rattle.cel_syntax.specs.Parser.{Outcome, Parser, Found, and_then, pure, unary_expression, chain, turns}
use Rattle.cel_syntax.specs.Climb.{climb}

and_then_pure : {A : Type 0} (o : Outcome A) → o ≡ and_then o pure
and_then_pure None = refl
and_then_pure (Some p) = refl

and_then_twice : {A B C : Type 0} (o : Outcome A) (f : A → Parser B) (g : B → Parser C) → and_then (and_then o f) g ≡ and_then o (λ x ts. and_then (f x ts) g)
and_then_twice None f g = refl
and_then_twice (Some p) f g = refl

pub chain_climbs : (limit : ℕ) (sub : Parser Found) (level : ℕ) (ts : List Token) → chain limit sub level ts ≡ and_then (unary_expression limit sub ts) (climb limit sub level)
unfolding chain climb
chain_climbs limit sub zero ts = and_then_pure (unary_expression limit sub ts)
chain_climbs limit sub (suc k) ts =
    let rest : Found → Parser Found = λ x. turns limit sub (chain limit sub k) (suc k) limit x.0 x.1 in
    ap (λ (o : Outcome Found). and_then o rest) (chain_climbs limit sub k ts) ∙ and_then_twice (unary_expression limit sub ts) (climb limit sub k) rest

none_at : (k : ℕ) (o : Option (ℕ × BinaryOperator)) → is_some o ≡ false → if_level k o ≡ None
none_at k None e = refl
none_at k (Some o) e = absurd (cc)

no_operator_at : (k : ℕ) (ts : List Token) → sees_operator ts ≡ false → operator_at k ts ≡ None
unfolding operator_at
no_operator_at k [] e = refl
no_operator_at k (t ∷ ts) e = none_at k (operator t) e

no_turn : (limit : ℕ) (sub operand : Parser Found) (k n : ℕ) (x : Found) (ts : List Token) → operator_at k ts ≡ None → turns limit sub operand k n x.0 x.1 ts ≡ Some (x, ts)
unfolding turns
no_turn limit sub operand k zero x ts e = rw e
no_turn limit sub operand k (suc n) x ts e = rw e

-- if no operator follows, nothing is taken
pub nothing_climbs : (limit : ℕ) (sub : Parser Found) (level : ℕ) (x : Found) (ts : List Token) → sees_operator ts ≡ false → climb limit sub level x ts ≡ Some (x, ts)
unfolding climb
nothing_climbs limit sub zero x ts e = refl
nothing_climbs limit sub (suc k) x ts e =
    rw (nothing_climbs limit sub k x ts e) (no_turn limit sub (chain limit sub k) (suc k) limit x ts (no_operator_at (suc k) ts e))
