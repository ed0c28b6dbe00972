use Rattle.std.proofs.Common.{arith}
use Rattle.kube_types_formats.proofs.KindLemmas.{none_named}
use Rattle.kube_types_formats.proofs.kind.FormatKind.named.Goals as goal

pub returns : goal.returns
returns c = none_named c.args.name.now (λ k d h. c.loop-kind.invariant k d (omega arith))
