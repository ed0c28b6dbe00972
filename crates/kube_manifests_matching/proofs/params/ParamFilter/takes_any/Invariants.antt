use Rattle.kube_manifests_matching.proofs.params.ParamFilter.takes_any.Given as goal
use Rattle.kube_manifests_matching.specs.Params.{filter_view, takes}
use Rattle.serde_json.specs.View.{view}
use Rattle.std.proofs.Common.{◌≡◌, drop, map}
use Rattle.std.specs.List.{list_any}

abbrev pub invariant-loop-object : goal.invariant-loop-object
invariant-loop-object l =
    list_any (takes (filter_view l.self)) (map (λ v. view v.now) l.objects)
    ≡ list_any (takes (filter_view l.self)) (map (λ v. view v.now) (drop l.object-index l.objects))
