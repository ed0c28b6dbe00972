use Rattle.std.proofs.Common.{◌++◌, map, ap, sym, ◌∙◌, string_bytes}
use Rattle.cel_value.specs.View.{view}
use Rattle.kube_manifests_review.proofs.Seen.{double_candidate}
use Rattle.kube_manifests_review.proofs.node.add_literal.Goals as goal
use Rattle.kube_manifests_review.specs.Calls.{text_view}
use Rattle.kube_manifests_review.specs.Candidates.{candidate_view}

pub returns : goal.returns
returns c =
    c.in_ok-add_candidate.ensures
    ∙ ap (λ xs. map candidate_view c.args.candidates.now.items ++ xs)
    (double_candidate (text_view c.args.text) (view c.args.value.now) (string_bytes c.in_ok-message.message)
    (sym c.holds_double.ensures ∙ c.if-not-holds_double.false) c.in_ok-message.ensures.ok)
