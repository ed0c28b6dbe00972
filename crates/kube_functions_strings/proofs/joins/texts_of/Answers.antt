use Rattle.std.proofs.Common.{◌∙◌, ◌+◌, ℕ, List, Bor, Err, ap, sym, map, drop}
use Rattle.std.proofs.lemmas.List.{map_push}
use Rattle.cel_value.specs.View.{view}
use Rattle.kube_functions_strings.specs.Joins as spec
use Rattle.kube_functions_strings.proofs.Joining.{all_before, all_begun, text_more, text_missing, text_last}
use Rattle.kube_functions_strings.proofs.joins.texts_of.Goals as goal

abbrev lent : Bor (List ℕ) → List ℕ
lent s = s.now

pub loop-item-init : goal.loop-item-init
loop-item-init c =
    all_begun (spec.texts_of (map view c.args.items.now))
    ∙ ap (λ ts. all_before (map lent ts) (spec.texts_of (map view c.args.items.now))) (sym c.new-texts.ensures.items)

pub loop-item-preserved : goal.loop-item-preserved
loop-item-preserved c =
    c.loop-item.invariant
    ∙ text_more c.args.items.now c.loop-item.item-index c.item-item.result (map lent c.loop-item.texts.items) c.in-Some.text.now c.loop-item-test.true c.item-item.is c.in-Some.ensures
    ∙ ap (λ ts. all_before ts (spec.texts_of (map view (drop (c.loop-item.item-index + 1) c.args.items.now))))
    (sym (ap (map lent) c.in_ok-push-in-Some.ensures.items ∙ map_push lent c.loop-item.texts.items c.in-Some.text))

pub returns-in-None : goal.returns-in-None
returns-in-None c =
    ap Err c.type_of.ensures
    ∙ sym (c.loop-item.invariant ∙ text_missing c.args.items.now c.loop-item.item-index c.item-item.result (map lent c.loop-item.texts.items) c.loop-item-test.true c.item-item.is c.in-None.ensures)

pub returns : goal.returns
returns c = sym (c.loop-item.invariant ∙ text_last c.args.items.now c.loop-item.item-index (map lent c.loop-item.texts.items) c.loop-item-test.false)
