use Rattle.std.proofs.Common.{◌≡◌, ◌++◌, ◌+◌, rules, length, map, ap, sym, ◌∙◌}
use Rattle.std.specs.Str.{chars}
use Rattle.std.proofs.lemmas.List.{length_push}
use Rattle.kube_functions_strings.specs.Cuts.{pieces_behind}
use Rattle.kube_functions_strings.proofs.CutSteps.{pieces_begun, pieces_more, fewer}
use Rattle.kube_functions_strings.proofs.splitting.pieces.Goals as goal

pub loop-piece-init : goal.loop-piece-init
loop-piece-init c = (search rules, pieces_begun (chars c.args.text.now) (chars c.args.separator.now) c.args.limit c.new-pieces.result.items c.new-pieces.ensures.items)

pub loop-piece-preserved : goal.loop-piece-preserved
loop-piece-preserved c = (
  search rules,
  pieces_more (chars c.loop-piece.rest.now) (chars c.in-Some.behind.now) (chars c.args.separator.now) c.args.limit c.loop-piece.pieces.items c.push.new.self.items c.in-Some.piece c.len.result
      (c.len.ensures ∙ c.loop-piece.pieces.ok.0) c.in_ok-push.ensures.items c.in-Some.ensures.value
      ∙ c.loop-piece.invariant.1,
)

pub loop-piece-smaller : goal.loop-piece-smaller
loop-piece-smaller c =
    let count : c.len.result ≡ length c.loop-piece.pieces.items = c.len.ensures ∙ c.loop-piece.pieces.ok.0 in
    let more : length c.push.new.self.items ≡ length c.loop-piece.pieces.items + 1 = ap length c.in_ok-push.ensures.items ∙ length_push c.loop-piece.pieces.items c.in-Some.piece in
    fewer _ _ _ _ (rw count at c.in-Some.ensures.shorter) more

pub returns : goal.returns
returns c =
    let made = c.loop-piece.pieces.items in
    c.in_ok-pieces.ensures
    ∙ ap (λ ts. map (λ s. s.now) made ++ ts) (sym (ap (pieces_behind (chars c.loop-piece.rest.now) (chars c.args.separator.now) c.args.limit) (sym (c.len.ensures ∙ c.loop-piece.pieces.ok.0)) ∙ c.in_default.ensures.value))
    ∙ c.loop-piece.invariant.1
