use Rattle.std.proofs.Common.{◌++◌, None, map, option_map, ap, sym, ◌∙◌}
use Rattle.cel_syntax.specs.Term.{term}
use Rattle.kube_manifests_review.proofs.Seen.{call_seen, qualified_seen}
use Rattle.kube_manifests_review.proofs.node.add_node.Goals as goal
use Rattle.kube_manifests_review.specs.Calls.{call_candidates, node_candidates, text_view}
use Rattle.kube_manifests_review.specs.Candidates.{candidate_view}

pub returns-in_ok-add_method-in-Call : goal.returns-in_ok-add_method-in-Call
returns-in_ok-add_method-in-Call c =
    let t = text_view c.args.text in
    let old = map candidate_view c.args.candidates.now.items in
    let r = option_map (λ r. term r.value) c.in-Call.target in
    c.in_ok-add_method-in-Call.ensures
    ∙ ap (λ x. old ++ call_candidates t r x (map term c.as_slice.result.now)) c.as_str.ensures
    ∙ ap (λ es. old ++ call_candidates t r c.in-Call.name (map term es)) c.as_slice.ensures.value
    ∙ ap (λ ds. old ++ ds) (sym (call_seen t c.in-Call.target c.in-Call.name c.in-Call.args) ∙ ap (λ e. node_candidates t (term e)) (sym c.in-Call.is))

pub returns-in_ok-add_call-in-Qualified : goal.returns-in_ok-add_call-in-Qualified
returns-in_ok-add_call-in-Qualified c =
    let t = text_view c.args.text in
    let old = map candidate_view c.args.candidates.now.items in
    c.in_ok-add_call-in-Qualified.ensures
    ∙ ap (λ x. old ++ call_candidates t None x (map term c.as_slice-in-Qualified.result.now)) c.as_str-in-Qualified.ensures
    ∙ ap (λ es. old ++ call_candidates t None c.in-Qualified.name (map term es)) c.as_slice-in-Qualified.ensures.value
    ∙ ap (λ ds. old ++ ds) (sym (qualified_seen t c.in-Qualified.name c.in-Qualified.args) ∙ ap (λ e. node_candidates t (term e)) (sym c.in-Qualified.is))
