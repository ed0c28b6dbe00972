-- Parsing all the tokens.
use Rattle.std.proofs.Common.{◌≡◌, ℕ, ◌<◌, zero, suc, refl, sym, arith, cond, Option, Some, None, List, [], ◌∷◌, length}
use Rattle.std.specs.Prelude.{nat_le, Result, Ok, Err, IfOk, MatchOption, option_map}
use Rattle.std.specs.declared.alloc.AllocError.{AllocError}
use Rattle.cel_syntax_lexer.specs.Token.{Token}
use Rattle.cel_syntax_ast.specs.Term.{Term, term}
use Rattle.cel_syntax_ast.specs.declared.expr.Expr.{Expr}
use Rattle.cel_syntax.specs.Grammar.{Derives}
use Rattle.cel_syntax.specs.Parser.{Found, expr, expression, below, if_last, tree_of_tokens}
use Rattle.cel_syntax.proofs.Complete.{complete_parse}
use Rattle.cel_syntax.proofs.Sound.{sound_parse}

pub expr_is : (n : ℕ) → expr n ≡ expression n (below n)
unfolding expr below
expr_is zero = refl
expr_is (suc n) = refl

pub if_none_left : (x : Found) (ts : List Token) → length ts ≡ 0 → if_last (Some (x, ts)) ≡ cond (nat_le x.1 250) (Some x.0) None
if_none_left x [] h = refl
if_none_left x (t ∷ ts) h = absurd (omega arith)

pub if_some_left : (x : Found) (ts : List Token) → 0 < length ts → if_last (Some (x, ts)) ≡ None
if_some_left x [] h = absurd (omega arith)
if_some_left x (t ∷ ts) h = refl

-- the parser's function gives what the tokens derive
pub derives_of : (ts : List Token) (o : Option Expr) → option_map term o ≡ tree_of_tokens ts
    → MatchOption o ((t : Term) → Derives ts t → ⊥) (λ e. Derives ts (term e))
derives_of ts None e = λ t d. absurd (cc (complete_parse ts t d))
derives_of ts (Some x) e = sound_parse ts (term x) (sym e)

pub answer_of : (ts : List Token) (r : Result (Option Expr) AllocError) → IfOk r (λ o. option_map term o ≡ tree_of_tokens ts)
    → IfOk r (λ o. MatchOption o ((t : Term) → Derives ts t → ⊥) (λ e. Derives ts (term e)))
answer_of ts (Ok o) h = derives_of ts o h
answer_of ts (Err e) h = h
