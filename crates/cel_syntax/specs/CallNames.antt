-- Trusted by the clauses of analysis and linter.
-- The names of the functions that an expression calls, qualified ones in full. A macro is no call.
-- Source: CEL language definition, "Syntax", "Macros".
use Rattle.std.specs.Prelude.{ℕ, List, Bool, false}
use Rattle.std.specs.List.{list_any}
use Rattle.std.specs.Str.{bytes_eq}
use Rattle.cel_syntax_ast.specs.Nodes.{nodes_of}
use Rattle.cel_syntax_ast.specs.Term.{Term, call, qualified}

-- whether a node calls a function named x
abbrev pub calls : List ℕ → Term → Bool
calls x (call target y ts) = bytes_eq x y
calls x (qualified y ts) = bytes_eq x y
calls x _ = false

-- whether a node of the term does
abbrev pub is_called : List ℕ → Term → Bool
is_called x t = list_any (calls x) (nodes_of t)
