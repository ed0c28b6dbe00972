use Rattle.std.proofs.Common.{◌∙◌}
use Rattle.std.specs.Int.{w64}
use Rattle.std.proofs.lemmas.Int.{to_z-of_z}
use Rattle.kube_functions_lists.specs.Lists.{slice_message}
use Rattle.kube_functions_lists.proofs.lists.slice_message.Goals as goal

pub returns : goal.returns
returns c =
    c.in_ok-format.ensures.ok
    ∙ (λ i. slice_message (to_z-of_z w64 c.args.start c.ranges.start i) (to_z-of_z w64 c.args.end c.ranges.end i) c.args.length)
