use Rattle.std.proofs.Common.{◌≡◌, map, drop}
use Rattle.cel_syntax.specs.Term.{term, terms_of}
use Rattle.kube_cel_analysis.specs.Cost.{cost_of_all, sum}
use Rattle.kube_cel_analysis.specs.Sizes.{sizes_view}
use Rattle.kube_cel_analysis.proofs.cost.+cost.Given as goal

-- the cost so far plus that of the rest is the total; and the cost so far is at most 64 bits
abbrev pub invariant-cost_of_all-loop-item : goal.invariant-cost_of_all-loop-item
invariant-cost_of_all-loop-item l =
    (sum l.all (cost_of_all (sizes_view l.sizes) (terms_of (map term (drop l.item-index l.item-items))))
    ≡ cost_of_all (sizes_view l.sizes) (terms_of (map term l.item-items)))
    × (sum l.all 0 ≡ l.all)
