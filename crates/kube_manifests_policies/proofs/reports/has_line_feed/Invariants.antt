use Rattle.kube_manifests_policies.proofs.reports.has_line_feed.Given as goal
use Rattle.kube_manifests_policies.specs.Reports.{is_line_feed}
use Rattle.std.proofs.Common.{◌≡◌, drop}
use Rattle.std.specs.List.{list_any}

abbrev pub invariant-loop-byte : goal.invariant-loop-byte
invariant-loop-byte l = list_any is_line_feed l.byte-items ≡ list_any is_line_feed (drop l.byte-index l.byte-items)
