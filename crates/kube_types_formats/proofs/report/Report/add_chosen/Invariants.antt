use Rattle.std.proofs.Common.{◌≡◌, ◌++◌, drop}
use Rattle.kube_types_formats.specs.Found.{faults_found, texts_of}
use Rattle.kube_types_formats.proofs.report.Report.add_chosen.Given as goal

abbrev pub invariant-loop-rule : goal.invariant-loop-rule
invariant-loop-rule l =
    texts_of l.self ++ faults_found l.prefix (drop l.rule-index l.rules)
    ≡ texts_of l.initial.self ++ faults_found l.prefix l.rules
