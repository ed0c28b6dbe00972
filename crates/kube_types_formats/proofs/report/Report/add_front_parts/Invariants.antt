use Rattle.std.proofs.Common.{◌≡◌, ℕ, List, ◌++◌, length}
use Rattle.kube_types_formats.specs.Found.{texts_of}
use Rattle.kube_types_formats.specs.Labels.{label_faults, faults_of_parts, parts_of}
use Rattle.kube_types_formats.specs.declared.dns.Label.TheVariants.{Rfc1123}
use Rattle.kube_types_formats.proofs.report.Report.add_front_parts.Given as goal

abbrev pub invariant-loop-dot : goal.invariant-loop-dot
invariant-loop-dot l =
    (last : List ℕ → List (List ℕ)) → texts_of l.self ++ faults_of_parts (label_faults Rfc1123 l.prefix) last (parts_of l.rest)
    ≡ texts_of l.initial.self ++ faults_of_parts (label_faults Rfc1123 l.prefix) last (parts_of l.text)

abbrev pub decreases-loop-dot : goal.decreases-loop-dot
decreases-loop-dot l = length l.rest
