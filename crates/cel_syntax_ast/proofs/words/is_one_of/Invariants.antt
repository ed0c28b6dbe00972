use Rattle.std.proofs.Common.{◌≡◌, map, drop}
use Rattle.std.specs.List.{list_any}
use Rattle.std.specs.Str.{bytes_eq}
use Rattle.cel_syntax_ast.proofs.words.is_one_of.Given as goal

abbrev pub invariant-loop-other : goal.invariant-loop-other
invariant-loop-other l =
    list_any (bytes_eq l.word) (map (λ w. w.now) l.words) ≡ list_any (bytes_eq l.word) (map (λ w. w.now) (drop l.other-index l.words))
