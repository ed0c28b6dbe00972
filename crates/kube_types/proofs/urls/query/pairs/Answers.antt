use Rattle.std.proofs.Common.{◌≡◌, ◌==◌, ℕ, List, [], length, map, take, get_or, true, false, Bor, sym, ◌∙◌, ap}
use Rattle.kube_types.specs.Url.Query.{pairs_of_pieces}
use Rattle.kube_types.specs.Url.Shown.{pair_texts}
use Rattle.kube_types.proofs.Url.Queries.{no_pieces, piece_taken, pair_pushed, piece_skipped}
use Rattle.kube_types.proofs.urls.query.pairs.Goals as goal
use Rattle.kube_types.proofs.urls.query.pairs.Goals.{then-not-is_empty+in_ok-pair+in_ok-push, else-not-is_empty}

pub loop-piece-init : goal.loop-piece-init
loop-piece-init c = ap (map pair_texts) c.new-pairs.ensures.items ∙ no_pieces

pub loop-piece-preserved : goal.loop-piece-preserved
loop-piece-preserved c =
    let items = c.deref-piece-items.result.now in
    let i = c.loop-piece.piece-index in
    let d : Bor (List ℕ) = record { ref_ptr = (0, 0); now = [] } in
    let before = map (λ (p : Bor (List ℕ)). p.now) (take i items) in
    let taken = piece_taken items i d c.loop-piece-test.true in
    elim c.if-not-is_empty.branch [
      | then-not-is_empty+in_ok-pair+in_ok-push w ↦
          let some : (length (get_or items i d).now == 0) ≡ false = sym c.is_empty.ensures ∙ w.if-not-is_empty.true in
          pair_pushed c.loop-piece.pairs.items c.if-not-is_empty.pairs.items w.in_ok-pair.field-0 (get_or items i d).now before
          (ap (λ v. v.items) w.pairs-is ∙ w.in_ok-push.ensures.items) w.in_ok-pair.ensures c.loop-piece.invariant some
          ∙ ap pairs_of_pieces (sym taken)
      | else-not-is_empty w ↦
          let none : (length (get_or items i d).now == 0) ≡ true = sym c.is_empty.ensures ∙ w.if-not-is_empty.false in
          piece_skipped c.loop-piece.pairs.items c.if-not-is_empty.pairs.items (get_or items i d).now before
          (ap (λ v. v.items) w.pairs-is) c.loop-piece.invariant none
          ∙ ap pairs_of_pieces (sym taken)
    ]
