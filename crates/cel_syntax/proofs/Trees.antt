-- The tree computed from a text is the one that it derives.
use Rattle.std.proofs.Common.{◌≡◌, ℕ, refl, sym, ◌∙◌, Option, Some, None, List}
use Rattle.std.specs.Prelude.{Result, Ok, Err, IfOk, option_map}
use Rattle.std.specs.declared.alloc.AllocError.{AllocError}
use Rattle.cel_syntax_lexer.specs.Token.{Token}
use Rattle.cel_syntax_lexer.specs.Tokens.{CutsInto, CutsIntoNone}
use Rattle.cel_syntax_lexer.specs.Cut.{tokens_of_text}
use Rattle.cel_syntax_lexer.proofs.CutOf.{cuts_of_cut, cut_of_cuts}
use Rattle.cel_syntax_ast.specs.Term.{Term, term}
use Rattle.cel_syntax_ast.specs.declared.expr.Expr.{Expr}
use Rattle.cel_syntax.specs.Parser.{tree_of_tokens}
use Rattle.cel_syntax.proofs.Complete.{complete_parse}
use Rattle.cel_syntax.proofs.Sound.{sound_parse}
use Rattle.cel_syntax.specs.Reading.{TextDerives, tree_of, tree_of_cut}

pub complete_text : (z : List ℕ) (t : Term) → TextDerives z t → tree_of z ≡ Some t
unfolding tree_of
complete_text z t (ts, cuts, d) = rw (cut_of_cuts z ts cuts) (complete_parse ts t d)

sound_by : (z : List ℕ) (t : Term) (o : Option (List Token)) → tokens_of_text z ≡ o → tree_of_cut o ≡ Some t → TextDerives z t
sound_by z t None is e = absurd (cc)
sound_by z t (Some ts) is e = (ts, cuts_of_cut z ts is, sound_parse ts t e)

pub sound_text : (z : List ℕ) (t : Term) → tree_of z ≡ Some t → TextDerives z t
unfolding tree_of
sound_text z t e = sound_by z t (tokens_of_text z) refl e

some_same : {A : Type 0} {a b : A} → Some a ≡ Some b → a ≡ b
some_same e = cc

pub one_tree : (z : List ℕ) (t u : Term) → TextDerives z t → TextDerives z u → t ≡ u
one_tree z t u a b = some_same (sym (complete_text z t a) ∙ complete_text z u b)

-- the tree of a text that splits into these tokens
pub of_tokens : (z : List ℕ) (ts : List Token) → CutsInto z ts → tree_of_tokens ts ≡ tree_of z
unfolding tree_of
of_tokens z ts cuts = rw (cut_of_cuts z ts cuts.0)

none_by : (z : List ℕ) (o : Option (List Token)) → tokens_of_text z ≡ o → CutsIntoNone z → tree_of_cut o ≡ None
none_by z None is none = refl
none_by z (Some ts) is none = absurd (none ts (cuts_of_cut z ts is))

pub of_no_tokens : (z : List ℕ) → CutsIntoNone z → tree_of z ≡ None
unfolding tree_of
of_no_tokens z none = none_by z (tokens_of_text z) refl none

-- an answer that is the text's tree is derived by the grammar
pub some_derives : (z : List ℕ) (t : Term) → Some t ≡ tree_of z → TextDerives z t
some_derives z t e = sound_text z t (sym e)

pub none_derives : (z : List ℕ) → None ≡ tree_of z → (t : Term) → TextDerives z t → ⊥
none_derives z e t d = absurd (cc (complete_text z t d))

-- the answer of the parser, as that of the text
pub reported : (z : List ℕ) (ts : List Token) (r : Result (Option Expr) AllocError) → CutsInto z ts
    → IfOk r (λ o. option_map term o ≡ tree_of_tokens ts) → IfOk r (λ o. option_map term o ≡ tree_of z)
reported z ts (Ok o) cuts reads = reads ∙ of_tokens z ts cuts
reported z ts (Err e) cuts reads = reads
