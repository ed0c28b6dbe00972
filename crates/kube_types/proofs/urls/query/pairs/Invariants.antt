use Rattle.std.proofs.Common.{◌≡◌, ℕ, List, map, take, Bor}
use Rattle.kube_types.specs.Url.Query.{pairs_of_pieces}
use Rattle.kube_types.specs.Url.Shown.{pair_texts}
use Rattle.kube_types.proofs.urls.query.pairs.Given as goal

abbrev pub invariant-loop-piece : goal.invariant-loop-piece
invariant-loop-piece l = map pair_texts l.pairs.items ≡ pairs_of_pieces (map (λ (piece : Bor (List ℕ)). piece.now) (take l.piece-index l.piece-items))
