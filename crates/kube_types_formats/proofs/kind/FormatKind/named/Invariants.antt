use Rattle.std.proofs.Common.{◌≡◌, ℕ, ◌<◌, get_or}
use Rattle.kube_types_formats.specs.Formats.{name_of}
use Rattle.kube_types_formats.specs.declared.kind.FormatKind.{FormatKind}
use Rattle.kube_types_formats.proofs.kind.FormatKind.named.Given as goal

abbrev pub invariant-loop-kind : goal.invariant-loop-kind
invariant-loop-kind l =
    (k : ℕ) (d : FormatKind) → k < l.kind-index → name_of (get_or l.kind-items k d) ≡ l.name → ⊥
