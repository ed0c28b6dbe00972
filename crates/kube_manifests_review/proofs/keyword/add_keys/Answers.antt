use Rattle.std.proofs.Common.{◌++◌, map, ap, sym, ◌∙◌, string_bytes}
use Rattle.kube_manifests_review.proofs.Steps.{no_more, one_more}
use Rattle.kube_manifests_review.proofs.keyword.add_keys.Goals as goal
use Rattle.kube_manifests_review.specs.Candidates.{candidate_view}
use Rattle.kube_manifests_review.specs.Keywords.{key_candidates, keys_candidates}
use Rattle.serde_json.specs.View.{members_view}

pub loop-key-preserved : goal.loop-key-preserved
loop-key-preserved c =
    let l = c.loop-key in
    let fields = map (λ f. f.now) c.args.fields.now in
    let had = map candidate_view l.candidates.items in
    one_more _ had (key_candidates fields c.args.pointer.now c.args.rule.now (string_bytes c.in-Some.key.now)) (keys_candidates fields c.args.pointer.now c.args.rule.now (members_view c.next.new.self)) _
    (c.in_ok-add_key.ensures ∙ ap (λ k. had ++ key_candidates fields c.args.pointer.now c.args.rule.now k) c.as_str.ensures.value)
    (ap (λ es. had ++ keys_candidates fields c.args.pointer.now c.args.rule.now (members_view es)) (sym c.in-Some.ensures.steps) ∙ l.invariant)

pub returns : goal.returns
returns c =
    let l = c.loop-key in
    let fields = map (λ f. f.now) c.args.fields.now in
    no_more (map candidate_view l.candidates.items) (keys_candidates fields c.args.pointer.now c.args.rule.now (members_view l.key-iterator)) _
    (ap (λ es. keys_candidates fields c.args.pointer.now c.args.rule.now (members_view es)) c.in-None.ensures.steps.0) l.invariant
