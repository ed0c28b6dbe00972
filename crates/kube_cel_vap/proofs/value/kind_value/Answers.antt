use Rattle.cel_value.specs.Data.{text}
use Rattle.kube_cel_vap.proofs.value.kind_value.Goals as goal
use Rattle.kube_cel_vap.specs.Requests.{kind_value, map_with}
use Rattle.std.proofs.Common.{[], ◌∷◌, codes, ◌∙◌}

pub returns-clause-value : goal.returns-clause-value
unfolding kind_value
returns-clause-value c =
    c.in_ok-value.ensures.value ∙ (λ i. map_with ((codes "group", text (c.as_str-group.ensures.value i)) ∷ (codes "version", text (c.as_str-version.ensures.value i)) ∷ (codes "kind", text (c.as_str-name.ensures.value i)) ∷ []))
