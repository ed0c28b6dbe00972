-- Scaffolding: only proofs and private clauses cite it.
-- The definitions of string literals at a form of this crate.
use Rattle.std.specs.Prelude.{ℕ, Bool, List, Option}
use Rattle.cel_syntax_lexer.specs.Strings as strings
use Rattle.kube_server_lexer.specs.declared.string_literal.Quotes.{Quotes}

abbrev pub closes : Quotes → Bool → List ℕ → Bool
closes q = strings.closes (record { byte = q.byte; tripled = q.tripled; raw = q.raw })

abbrev pub breaks : Quotes → ℕ → Bool
breaks q = strings.breaks (record { byte = q.byte; tripled = q.tripled; raw = q.raw })

abbrev pub hides : Quotes → Bool → ℕ → Bool
hides q = strings.hides (record { byte = q.byte; tripled = q.tripled; raw = q.raw })

abbrev pub end_of : Quotes → Bool → List ℕ → Option ℕ
end_of q = strings.end_of (record { byte = q.byte; tripled = q.tripled; raw = q.raw })

abbrev pub is_closed : Quotes → List ℕ → Bool
is_closed q = strings.is_closed (record { byte = q.byte; tripled = q.tripled; raw = q.raw })

abbrev pub is_after_two : Quotes → List ℕ → Bool
is_after_two q = strings.is_after_two (record { byte = q.byte; tripled = q.tripled; raw = q.raw })

abbrev pub is_after_one : Quotes → List ℕ → Bool
is_after_one q = strings.is_after_one (record { byte = q.byte; tripled = q.tripled; raw = q.raw })
