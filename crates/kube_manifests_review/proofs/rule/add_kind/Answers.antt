use Rattle.std.proofs.Common.{◌++◌, map, ap, sym, ◌∙◌, string_bytes}
use Rattle.cel_syntax.specs.Term.{term}
use Rattle.kube_manifests_review.proofs.Seen.{kind_candidate}
use Rattle.kube_manifests_review.proofs.rule.add_kind.Goals as goal
use Rattle.kube_manifests_review.specs.Calls.{text_view}
use Rattle.kube_manifests_review.specs.Candidates.{candidate_view}

pub returns : goal.returns
returns c =
    c.in_ok-add_candidate.ensures
    ∙ ap (λ xs. map candidate_view c.args.candidates.now.items ++ xs)
    (kind_candidate (text_view c.args.text) (term c.args.tree.now) (string_bytes c.in_ok-message.message)
    (sym c.is_no_string.ensures ∙ c.if-not-is_no_string.false) c.in_ok-message.ensures.ok)
