-- The signs that come next.
use Rattle.std.proofs.Common.{◌≡◌, ℕ, ◌+◌, refl, ap, arith, true, false, List, [], ◌∷◌, drop, length}
use Rattle.cel_syntax_lexer.specs.Token.{Token}
use Rattle.cel_syntax_ast.specs.declared.expr.UnaryOperator.{UnaryOperator}
use Rattle.cel_syntax.specs.Ahead.{signs, sees_sign}

none_left : (s : UnaryOperator) (ts : List Token) → sees_sign s ts ≡ false → signs s ts ≡ (0, ts)
unfolding signs
none_left s [] h = refl
none_left s (t ∷ ts) h = rw h

one_left : (s : UnaryOperator) (ts : List Token) → sees_sign s ts ≡ true
    → (signs s ts ≡ ((signs s (drop 1 ts)).0 + 1, (signs s (drop 1 ts)).1)) × (length ts ≡ length (drop 1 ts) + 1)
unfolding signs sees_sign
one_left s [] h = absurd (cc)
one_left s (t ∷ ts) h = (rw h, omega arith)

-- if no sign comes next, for both parts of the loop's state
pub stops : (s : UnaryOperator) (ts : List Token) → sees_sign s ts ≡ false → ((signs s ts).0 ≡ 0) × ((signs s ts).1 ≡ ts)
stops s ts h = let n = none_left s ts h in (ap (λ (p : ℕ × List Token). p.0) n, ap (λ (p : ℕ × List Token). p.1) n)

pub goes : (s : UnaryOperator) (ts us : List Token) → sees_sign s ts ≡ true → us ≡ drop 1 ts
    → ((signs s ts).0 ≡ (signs s us).0 + 1) × ((signs s ts).1 ≡ (signs s us).1) × (length ts ≡ length us + 1)
goes s ts us h e =
    let n = one_left s ts h in
    rw e (ap (λ (p : ℕ × List Token). p.0) n.0, ap (λ (p : ℕ × List Token). p.1) n.0, n.1)

pub ended : (s : UnaryOperator) (ts : List Token) → length ts ≡ 0 → ((signs s ts).0 ≡ 0) × ((signs s ts).1 ≡ ts)
unfolding signs
ended s [] h = (refl, refl)
ended s (t ∷ ts) h = absurd (omega arith)
