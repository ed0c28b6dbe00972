use Rattle.std.proofs.Common.{◌++◌, map, option_map, length, sym, ap, ◌∙◌}
use Rattle.std.proofs.lemmas.List.{length-map}
use Rattle.cel_syntax.specs.Term.{term}
use Rattle.kube_manifests_review.proofs.Steps.{some_mapped}
use Rattle.kube_manifests_review.proofs.Wrong.{wrong_candidate}
use Rattle.kube_manifests_review.proofs.call.add_call.Goals as goal
use Rattle.kube_manifests_review.specs.Calls.{text_view}
use Rattle.kube_manifests_review.specs.Candidates.{candidate_view}

pub returns-in_ok-add_wrong-in-Wrong : goal.returns-in_ok-add_wrong-in-Wrong
returns-in_ok-add_wrong-in-Wrong c =
    c.in_ok-add_wrong-in-Wrong.ensures
    ∙ ap (λ xs. map candidate_view c.args.candidates.now.items ++ xs)
    (wrong_candidate (text_view c.args.text) (option_map (λ r. term r.now) c.args.receiver) c.args.name.now (map term c.args.args.now) c.is_some-has_receiver.result (length c.args.args.now)
    (c.is_some-has_receiver.ensures ∙ sym (some_mapped (λ r. term r.now) c.args.receiver)) (sym (length-map c.args.args.now term)) c.in-Wrong.ensures)
