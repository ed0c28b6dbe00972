-- How many levels a tree may be over a limit.
use Rattle.std.proofs.Common.{◌≡◌, ℕ, ◌+◌, ◌-◌, ◌≤◌, refl, sym, subst, arith, Bool, true, false, cond, Option, Some, None, List, [], ◌∷◌, length, ◌&&◌}
use Rattle.std.specs.Prelude.{nat_eq, codes}
use Rattle.std.specs.Str.{bytes_eq}
use Rattle.cel_syntax_lexer.specs.Token.{Token}
use Rattle.cel_syntax_ast.specs.Term as tree
use Rattle.cel_syntax_ast.specs.Term.{Term, Terms, terms_of}
use Rattle.cel_syntax_ast.specs.declared.expr.UnaryOperator.{UnaryOperator}
use Rattle.cel_syntax_ast.specs.declared.expr.MacroKind.{MacroKind}
use Rattle.cel_syntax_ast.specs.Calls.{call_of, method_of, parts_level, plain_method, macro_of, macro_with, has_of, by_kind, kind_of, call_by, dotted_by, identifier_of}
use Rattle.cel_syntax.specs.Grammar.{Expression, plain, conditional, Chain, operand, tighter, binary, unary_expression, Signed, unsigned, signed_member, Member, primary, select, method, index, Primary, ident, call, round, list, map, literal, negative, SomeItems, last_item, more_items}
use Rattle.cel_syntax.specs.Parser.{slack}

abbrev pub slack_all : List Term → ℕ
slack_all (t ∷ []) = slack t
slack_all us = 0

pub several : (t : Term) {ts rest : List Token} {us : List Term} {l : ℕ} → SomeItems ts rest us l → slack_all (t ∷ us) ≡ 0
several t (last_item d) = refl
several t (more_items d ds) = refl

pub slack_most : (t : Term) → slack t ≤ 1
slack_most (tree.select t w) = omega arith
slack_most _ = omega arith

some_same : {A : Type 0} {a b : A} → Some a ≡ Some b → a ≡ b
some_same e = cc

has_fits : (limit : ℕ) (us : List Term) (t : Term) (l : ℕ) → has_of us ≡ Some t → parts_level t l + 1 ≤ limit + slack t → l + 1 ≤ limit + slack_all us
has_fits limit [] t l e h = absurd (cc)
has_fits limit (tree.select a x ∷ []) t l e h =
    let fits : l - 1 + 1 ≤ limit + 0 = subst (λ (z : Term). parts_level z l + 1 ≤ limit + slack z) (sym (some_same e)) h in
    omega arith
has_fits limit (_ ∷ []) t l e h = absurd (cc)
has_fits limit (tree.select a x ∷ b ∷ us) t l e h = absurd (cc)
has_fits limit (_ ∷ b ∷ us) t l e h = absurd (cc)

pub call_fits : (limit : ℕ) (w : List ℕ) (us : List Term) (t : Term) (l : ℕ) → call_of w us ≡ Some t → parts_level t l + 1 ≤ limit + slack t
    → l + 1 ≤ limit + slack_all us
unfolding call_of
call_fits limit w us t l e h = by_test (bytes_eq w (codes "has") && nat_eq (length us) 1) e
  where
    by_test : (b : Bool) → cond b (has_of us) (Some (tree.call tree.no_terms w (terms_of us))) ≡ Some t → l + 1 ≤ limit + slack_all us
    by_test true e = has_fits limit us t l e h
    by_test false e =
        let fits : l + 1 ≤ limit + 0 = subst (λ (z : Term). parts_level z l + 1 ≤ limit + slack z) (sym (some_same e)) h in
        omega arith

call_slack : (o : Option (List ℕ)) (t : Term) (w : List ℕ) (us : List Term) → slack (call_by o t w us) ≡ 0
call_slack None t w us = refl
call_slack (Some x) t w us = refl

plain_slack : (t : Term) (w : List ℕ) (us : List Term) → slack (plain_method t w us) ≡ 0
unfolding plain_method
plain_slack t w us = call_slack (dotted_by (identifier_of t) w) t w us

with_slack : (k : MacroKind) (t u : Term) (o : Option (List ℕ)) (f : Terms) (b : Term) → macro_with k t o f b ≡ Some u → slack u ≡ 0
with_slack k t u None f b e = absurd (cc)
with_slack k t u (Some x) f b e = rw (← (some_same e))

macro_slack : (k : MacroKind) (t u : Term) (us : List Term) → macro_of k t us ≡ Some u → slack u ≡ 0
macro_slack k t u [] e = absurd (cc)
macro_slack k t u (x ∷ []) e = absurd (cc)
macro_slack k t u (x ∷ b ∷ []) e = with_slack k t u (identifier_of x) tree.no_terms b e
macro_slack k t u (x ∷ f ∷ b ∷ []) e = with_slack k t u (identifier_of x) (tree.term_and f tree.no_terms) b e
macro_slack k t u (x ∷ f ∷ b ∷ c ∷ us) e = absurd (cc)

kind_slack : (o : Option MacroKind) (t : Term) (w : List ℕ) (us : List Term) (u : Term)
    → by_kind o (plain_method t w us) (λ k. macro_of k t us) ≡ Some u → slack u ≡ 0
kind_slack None t w us u e = rw (← (some_same e)) (plain_slack t w us)
kind_slack (Some k) t w us u e = macro_slack k t u us e

pub method_slack : (t : Term) (w : List ℕ) (us : List Term) (u : Term) → method_of t w us ≡ Some u → slack u ≡ 0
unfolding method_of
method_slack t w us u e = kind_slack (kind_of w (length us)) t w us u e

-- A selection has a level of its own.
primary_level : {ts rest : List Token} {t : Term} {l : ℕ} → Primary ts rest t l → slack t ≤ l
primary_level (ident h) = omega arith
primary_level (call {t = t} h d is) = omega (arith, slack_most t)
primary_level (round {t = t} d) = omega (arith, slack_most t)
primary_level (list d c) = omega arith
primary_level (map d c) = omega arith
primary_level (literal h) = omega arith
primary_level (negative h is) = omega arith

member_level : {ts rest : List Token} {t : Term} {l : ℕ} → Member ts rest t l → slack t ≤ l
member_level (primary d) = primary_level d
member_level (select d h) = omega arith
member_level (method {u = u} d h a is) = omega (arith, slack_most u)
member_level (index d i) = omega arith

signed_level : {s : UnaryOperator} {ts rest : List Token} {t : Term} {l : ℕ} → Signed s ts rest t l → slack t ≤ l
signed_level (unsigned d) = member_level d
signed_level (signed_member h d) = omega arith

chain_level : {k : ℕ} {ts rest : List Token} {t : Term} {l : ℕ} → Chain k ts rest t l → slack t ≤ l
chain_level (operand (unary_expression d)) = signed_level d
chain_level (tighter d) = chain_level d
chain_level (binary a o b) = omega arith

pub expression_level : {ts rest : List Token} {t : Term} {l : ℕ} → Expression ts rest t l → slack t ≤ l
expression_level (plain d) = chain_level d
expression_level (conditional c a b) = omega arith
