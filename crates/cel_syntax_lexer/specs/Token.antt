-- Trusted by the headline.
-- A token, and the code's tokens as contracts see them.
use Rattle.std.specs.Prelude.{ℕ, List}
use Rattle.cel_syntax_lexer.specs.declared.punctuator.Punctuator.{Punctuator}
use Rattle.cel_syntax_lexer.specs.declared.token.Token as declared
use Rattle.cel_syntax_lexer.specs.declared.token.Token.TheVariants as variant

pub data Token : Type 0 where
  -- a word, reserved or not
  word : List ℕ → Token
  -- the spelling of a number
  number : List ℕ → Token
  -- the spelling of a string literal, with its quotes
  quoted : List ℕ → Token
  -- a bracket, a punctuation mark or an operator
  punctuator : Punctuator → Token

abbrev pub token_of : declared.Token → Token
token_of (variant.Word w) = word w.now
token_of (variant.Number n) = number n.now
token_of (variant.Quoted s) = quoted s.now
token_of (variant.Punctuator k) = punctuator k
