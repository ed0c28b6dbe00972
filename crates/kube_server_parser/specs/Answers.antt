-- Scaffolding: only proofs and private clauses cite it.
-- What the functions that read texts return.
use Rattle.std.specs.Prelude.{◌≡◌, ℕ, List, Result, Ok, Err, Some}
use Rattle.cel_syntax_lexer.specs.Token.{token_of}
use Rattle.kube_server_syntax.specs.Machine as machine
use Rattle.kube_server_syntax.specs.Tree.{tree}
use Rattle.kube_server_syntax.specs.declared.token.PlacedToken.{PlacedToken}
use Rattle.kube_server_parser.specs.Expects.{expected}
use Rattle.kube_server_parser.specs.Results.{Finishes}
use Rattle.kube_server_parser.specs.Texts.{TextDerives, GoesWrong, error_at, wrong_token_at}
use Rattle.kube_server_parser.specs.Views.{mode_view, frames_of}
use Rattle.kube_server_parser.specs.declared.frame.Frame.{Frame}
use Rattle.kube_server_parser.specs.declared.mode.Mode.{Mode}
use Rattle.kube_server_parser.specs.declared.parser.Failure.{Failure}
use Rattle.kube_server_parser.specs.declared.parser.Failure.TheVariants as failure
use Rattle.kube_server_parser.specs.declared.part.Part.{Part}
use Rattle.kube_server_parser.specs.declared.stop.Stop.{Stop}
use Rattle.kube_server_parser.specs.declared.stop.Stop.TheVariants as stop
use Rattle.kube_server_parser.specs.declared.syntax_error.Problem.TheVariants as problem

-- what a stop at a token means
abbrev pub Fails : Stop → PlacedToken → Failure → Type 0
Fails stop.Memory t f = f ≡ failure.Memory
Fails stop.TooDeep t f = f ≡ failure.Wrong (error_at t.place.begin t.place.end problem.TooDeep)
Fails (stop.Unexpected e) t f =
    f ≡ failure.Wrong (error_at t.place.begin t.place.end (wrong_token_at e (token_of t.token)))

-- and at the end of the text
abbrev pub FailsAtEnd : Stop → ℕ → Failure → Type 0
FailsAtEnd stop.Memory n f = f ≡ failure.Memory
FailsAtEnd stop.TooDeep n f = f ≡ failure.Wrong (error_at n n problem.TooDeep)
FailsAtEnd (stop.Unexpected e) n f = f ≡ failure.Wrong (error_at n n (problem.Unfinished e))

-- the end of a text in a state
abbrev pub Ends : List Frame → Mode → ℕ → Result Part Failure → Type 0
Ends fs x n (Ok p) = machine.end (mode_view x) (frames_of fs) ≡ Some (tree p.node)
Ends fs x n (Err failure.Memory) = Unit {0}
Ends fs x n (Err (failure.Wrong e)) = (s : Stop) × FailsAtEnd s n (failure.Wrong e)
    × Finishes (machine.end (mode_view x) (frames_of fs)) (expected (mode_view x) (frames_of fs)) (Err s)

-- the tree of a text
abbrev pub Reads : List ℕ → Result Part Failure → Type 0
Reads z (Ok p) = TextDerives z (tree p.node)
Reads z (Err failure.Memory) = Unit {0}
Reads z (Err (failure.Wrong e)) = GoesWrong z e
