use Rattle.std.proofs.Common.{◌≡◌, ◌+◌, false, drop}
use Rattle.std.specs.Prelude.{option_map}
use Rattle.cel_syntax_lexer.specs.Strings.{end_of}
use Rattle.kube_server_lexer.proofs.string_literal.end_of.Given as goal

abbrev pub invariant-loop-index : goal.invariant-loop-index
invariant-loop-index l = end_of (record { byte = l.quotes.byte; tripled = l.quotes.tripled; raw = l.quotes.raw }) false l.text ≡ option_map (λ n. l.index + n) (end_of (record { byte = l.quotes.byte; tripled = l.quotes.tripled; raw = l.quotes.raw }) l.hidden (drop l.index l.text))
