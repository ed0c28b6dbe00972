use Rattle.std.proofs.Common.{◌<◌, ◌≤◌, length, map, None, ap, sym, ◌∙◌, arith}
use Rattle.std.proofs.lemmas.List.{at_drop_all}
use Rattle.kube_manifests_texts.proofs.Firsts.{from_on, from_start, on_hit, on_miss}
use Rattle.kube_manifests_documents.proofs.earlier.first_defining.Goals as goal
use Rattle.kube_manifests_documents.specs.Earlier.{defines}
use Rattle.kube_manifests_texts.specs.Positions.{first_at}
use Rattle.serde_json.specs.View.{view}

pub loop-position-init : goal.loop-position-init
loop-position-init c = from_start (first_at (defines c.args.group.now c.args.kind.now) (map (λ v. view v.now) c.args.documents.now))

pub returns-then-defines : goal.returns-then-defines
returns-then-defines c =
    let below : c.loop-position.position < length c.args.documents.now = omega arith in
    sym (c.loop-position.invariant
    ∙ on_hit (λ v. view v.now) (defines c.args.group.now c.args.kind.now) c.args.documents.now c.loop-position.position c.index-documents-position.result below c.index-documents-position.is
    (sym c.defines.ensures ∙ c.if-defines.true))

pub loop-position-preserved : goal.loop-position-preserved
loop-position-preserved c =
    let below : c.loop-position.position < length c.args.documents.now = omega arith in
    c.loop-position.invariant
    ∙ on_miss (λ v. view v.now) (defines c.args.group.now c.args.kind.now) c.args.documents.now c.loop-position.position c.index-documents-position.result below c.index-documents-position.is
    (sym c.defines.ensures ∙ c.if-defines.false)

pub returns : goal.returns
returns c =
    let past : length c.args.documents.now ≤ c.loop-position.position = omega arith in
    sym (c.loop-position.invariant
    ∙ at_drop_all (λ vs. from_on c.loop-position.position (first_at (defines c.args.group.now c.args.kind.now) (map (λ v. view v.now) vs))) c.args.documents.now c.loop-position.position past)
