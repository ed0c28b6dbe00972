use Rattle.std.proofs.Common.{◌++◌, [], map, option_map, codes, ap, ◌∙◌, string_bytes}
use Rattle.kube_manifests_review.proofs.Steps.{two_steps}
use Rattle.kube_manifests_review.proofs.unread.add_location.Goals as goal
use Rattle.kube_manifests_review.specs.Candidates.{candidate_view}
use Rattle.kube_manifests_review.specs.Keywords.{keys_candidates, schema_fields}
use Rattle.kube_manifests_documents.specs.Pointers.{keyword_pointer}
use Rattle.kube_manifests_review.specs.Rules.{members_of}
use Rattle.kube_manifests_review.specs.Unread.{location_unread, schema_rules_unread}
use Rattle.serde_json.specs.View.{view}

pub returns : goal.returns
unfolding location_unread schema_fields
returns c =
    let old = map candidate_view c.args.candidates.now.items in
    let mid = map candidate_view c.add_keys_of.new.candidates.items in
    let s = view c.args.location.now.schema.now in
    let rules = option_map (λ v. view v.now) c.get-rules.result in
    let read = c.args.location.now.is_read in
    let q = keyword_pointer (string_bytes c.args.location.now.pointer) (codes "x-kubernetes-validations") in
    two_steps old mid _ _ _
    (c.in_ok-add_keys_of.ensures ∙ ap (λ p. old ++ keys_candidates schema_fields p [] (members_of s)) c.as_str-pointer.ensures.value)
    (c.in_ok-add_schema_rules.ensures
    ∙ ap (λ p. mid ++ schema_rules_unread read p rules) (c.as_str.ensures.value ∙ c.in_ok-inner.ensures ∙ ap (λ r. keyword_pointer r (codes "x-kubernetes-validations")) c.as_str-pointer.ensures.value)
    ∙ ap (λ o. mid ++ schema_rules_unread read q o) c.get-rules.ensures)
