use native.Mathlib.Omega.{arith}
use Rattle.std.proofs.Common.{◌≡◌, ◌∙◌, ◌+◌, ap, sym, map, drop, List, [], ◌∷◌, ℕ}
use Rattle.std.proofs.lemmas.List.{at_drop_more}
use Rattle.std.proofs.Math.ListN.{drop_of_length-le}
use Rattle.cel_syntax.specs.Expr.{Expr}
use Rattle.cel_syntax.specs.Term.{term, terms_of}
use Rattle.kube_cel_analysis.specs.Cost.{cost, cost_of_all, sum}
use Rattle.kube_cel_analysis.specs.Sizes.{sizes_view}
use Rattle.kube_cel_analysis.proofs.Sums.{nothing_at_all, nothing_more, nothing_yet, sum_on}
use Rattle.kube_cel_analysis.proofs.cost.+cost.Goals as goal

pub cost_of_all-loop-item-init : goal.cost_of_all-loop-item-init
cost_of_all-loop-item-init t c = (nothing_yet _ _, nothing_at_all)

pub cost_of_all-loop-item-preserved : goal.cost_of_all-loop-item-preserved
cost_of_all-loop-item-preserved t c =
    let s = sizes_view c.args.sizes in
    let items = c.deref-item-items.result.now in
    let i = c.loop-item.item-index in
    let all = c.loop-item.all in
    let rest : List Expr → ℕ = λ es. cost_of_all s (terms_of (map term es)) in
    let counted = c.sum-all.ensures ∙ ap (sum all) c.estimated_cost.ensures in (
      (ap (λ n. sum n (rest (drop (i + 1) items))) counted
          ∙ sum_on all (cost s (term c.item-item.result)) (rest (drop (i + 1) items))
          ∙ ap (sum all) (ap (λ e. rest (e ∷ drop (i + 1) items)) c.item-item.is ∙ sym (at_drop_more rest items i c.item-item.result (omega (arith, c.loop-item-test.true))))
          ∙ c.loop-item.invariant.0),
      (ap (λ n. sum n 0) counted ∙ nothing_more _ _ ∙ sym counted),
    )

pub cost_of_all-returns : goal.cost_of_all-returns
cost_of_all-returns t c =
    let s = sizes_view c.args.sizes in
    let items = c.deref-item-items.result.now in
    let rest : List Expr → ℕ = λ es. cost_of_all s (terms_of (map term es)) in
    let gone : drop c.loop-item.item-index items ≡ [] = drop_of_length-le items (omega (arith, c.loop-item-test.false)) in
    sym c.loop-item.invariant.1 ∙ ap (λ es. sum c.loop-item.all (rest es)) (sym gone) ∙ c.loop-item.invariant.0 ∙ ap rest c.deref-item-items.ensures.value
