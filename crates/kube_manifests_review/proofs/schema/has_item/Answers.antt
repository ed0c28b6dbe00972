use Rattle.std.proofs.Common.{sym, arith}
use Rattle.kube_manifests_review.proofs.Items.{some_item}
use Rattle.kube_manifests_review.proofs.schema.has_item.Goals as goal

pub returns-in-len1-up : goal.returns-in-len1-up
returns-in-len1-up c = let h = c.in-len1-up.len_at_least in sym (some_item c.args.items.now (omega arith))
