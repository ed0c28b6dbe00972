-- Trusted by the headline.
-- Which text derives which tree. Source: section "Syntax" of the CEL language definition.
use Rattle.std.specs.Prelude.{ℕ, List, Option, Some, None, Result, Ok, Err}
use Rattle.cel_syntax_lexer.specs.Token.{Token}
use Rattle.cel_syntax_lexer.specs.Tokens.{Cuts}
use Rattle.cel_syntax_lexer.specs.Cut.{tokens_of_text}
use Rattle.cel_syntax_ast.specs.Term.{Term, term}
use Rattle.cel_syntax_ast.specs.declared.expr.Expr.{Expr}
use Rattle.cel_syntax.specs.Grammar.{Derives}
use Rattle.cel_syntax.specs.Parser.{tree_of_tokens}
use Rattle.cel_syntax.specs.declared.error.ParseErrors.{ParseErrors}

-- The text splits into tokens that derive the tree.
abbrev pub TextDerives : List ℕ → Term → Type 0
TextDerives z t = (ts : List Token) × Cuts z ts × Derives ts t

abbrev pub tree_of_cut : Option (List Token) → Option Term
tree_of_cut None = None
tree_of_cut (Some ts) = tree_of_tokens ts

-- the tree that a text derives, as a function
unfoldable pub tree_of : List ℕ → Option Term
tree_of z = tree_of_cut (tokens_of_text z)

-- the tree of an answer, or None for an error
abbrev pub tree_seen : Result Expr ParseErrors → Option Term
tree_seen (Ok e) = Some (term e)
tree_seen (Err errors) = None
