use Rattle.std.proofs.Common.{◌∙◌, codes}
use Rattle.kube_manifests_texts.proofs.Commas.{join_map}
use Rattle.kube_manifests_texts.proofs.spelling.joined.Goals as goal

pub returns : goal.returns
returns c = c.in_ok-text.ensures.ok ∙ join_map (λ w. w.now) (codes ", ") c.args.words.now
