use Rattle.kube_cel_vap.proofs.Equals.{and_decides, kinds_decide, lists_decide, resources_decide, texts_decide}
use Rattle.kube_cel_vap.proofs.laws.equal_requests.Goals as goal
use Rattle.std.proofs.Common.{sym, ap, ◌∙◌}
use Rattle.std.specs.Cmp.{booleans_Decides}

pub returns : goal.returns
returns c =
    let a = c.args.a.now in
    let b = c.args.b.now in
    let from_resource = resources_decide a.resource b.resource in
    let from_kind = and_decides _ _ (kinds_decide a.kind b.kind) from_resource in
    let from_dry_run = and_decides _ _ (booleans_Decides a.dry_run b.dry_run) from_kind in
    let from_namespace = and_decides _ _ (texts_decide a.namespace b.namespace) from_dry_run in
    let from_name = and_decides _ _ (texts_decide a.name b.name) from_namespace in
    let from_groups = and_decides _ _ (lists_decide a.groups.items b.groups.items) from_name in
    let from_uid = and_decides _ _ (texts_decide a.uid b.uid) from_groups in
    let from_username = and_decides _ _ (texts_decide a.username b.username) from_uid in
    let from_operation = and_decides _ _ (texts_decide a.operation b.operation) from_username in (
      λ h. let p = from_operation.0 (sym c.eq.ensures ∙ h) in (λ i. record { operation = p.0 i; username = p.1.0 i; uid = p.1.1.0 i; groups = p.1.1.1.0 i; name = p.1.1.1.1.0 i; namespace = p.1.1.1.1.1.0 i; dry_run = p.1.1.1.1.1.1.0 i; kind = p.1.1.1.1.1.1.1.0 i; resource = p.1.1.1.1.1.1.1.1 i }),
      λ h. c.eq.ensures ∙ from_operation.1 (ap (λ r. r.operation) h, (ap (λ r. r.username) h, (ap (λ r. r.uid) h, (ap (λ r. r.groups) h, (ap (λ r. r.name) h, (ap (λ r. r.namespace) h, (ap (λ r. r.dry_run) h, (ap (λ r. r.kind) h, ap (λ r. r.resource) h)))))))),
    )
