use Rattle.cel_value.specs.Data.{list, text}
use Rattle.cel_value.specs.View.{items_of, view}
use Rattle.kube_cel_vap.proofs.Listed.{one_more_seen}
use Rattle.kube_cel_vap.proofs.value.texts_value.Goals as goal
use Rattle.kube_cel_vap.specs.Requests.{texts_value}
use Rattle.std.proofs.Common.{◌≡◌, ◌<◌, length, arith, map, string_bytes, take, take_all, ap, ◌∙◌}

pub loop-chars-preserved : goal.loop-chars-preserved
loop-chars-preserved c =
    let texts = c.args.texts.now in
    let below : c.loop-chars.chars-index < length texts = omega arith in
    one_more_seen view text string_bytes c.loop-chars.values.items c.push.new.self.items c.in_ok-bind_text.field-0 texts c.loop-chars.chars-index c.chars-item.result
    c.in_ok-push.ensures.items c.loop-chars.invariant (c.in_ok-bind_text.ensures.value ∙ ap text c.as_str.ensures.value) below c.chars-item.is

pub returns-clause-value : goal.returns-clause-value
unfolding texts_value
returns-clause-value c =
    let texts = c.args.texts.now in
    let all : take c.loop-chars.chars-index texts ≡ texts = take_all c.loop-chars.chars-index texts c.loop-chars-test.false in
    c.in_ok-value.ensures.value ∙ ap (λ ds. list (items_of ds)) (c.loop-chars.invariant ∙ ap (λ ts. map text (map string_bytes ts)) all)
