use Rattle.kube_manifests_policies.specs.Verdicts.{result_view}
use Rattle.kubecel_report.specs.Items.{finding_view}
use Rattle.kubecel_cli.specs.Reports.{entries_in, expressions_view, result_findings}
use Rattle.kubecel_cli.proofs.admit.add_results.Goals as goal
use Rattle.serde_json.specs.View.{view}
use Rattle.std.proofs.lemmas.List.{append-nil, append_assoc, map-append, take_more}
use Rattle.std.proofs.lemmas.List.Concat.{flat_map-append}
use Rattle.std.specs.List.{flat_map}
use Rattle.std.proofs.Common.{arith, ◌≡◌, ◌+◌, ◌++◌, ◌∷◌, [], map, take, ap, sym, ◌∙◌}

pub loop-one-preserved : goal.loop-one-preserved
loop-one-preserved c =
    let d = view c.args.policy.now in
    let indexed = c.in_ok-entries.ensures in
    let added : map finding_view c.add_result.new.findings.items
    ≡ map finding_view c.loop-one.findings.items ++ result_findings (expressions_view c.args.expressions) d (result_view c.one-item.result) =
    c.in_ok-add_result.ensures d (indexed.1 ∙ ap (λ e. entries_in e d) (sym indexed.0))
    ∙ ap (λ e. map finding_view c.loop-one.findings.items ++ result_findings e d (result_view c.one-item.result)) indexed.0 in
    let f = result_findings (expressions_view c.args.expressions) d in
    let xs = c.args.results.now in
    let i = c.loop-one.one-index in
    let x = c.one-item.result in
    let front = flat_map f (map result_view (take i xs)) in
    let joined : flat_map f (map result_view (take (i + 1) xs)) ≡ front ++ f (result_view x) =
    ap (λ ys. flat_map f (map result_view ys)) (take_more xs i x (omega (arith, c.loop-one-test.true, c.loop-one.auto.one-index-end)) ∙ ap (λ y. take i xs ++ y ∷ []) (sym c.one-item.is))
    ∙ (ap (flat_map f) (map-append result_view (take i xs) (x ∷ []))
    ∙ (flat_map-append f (map result_view (take i xs)) (result_view x ∷ [])
    ∙ ap (λ z. front ++ z) (append-nil (f (result_view x))))) in
    added ∙ (ap (λ z. z ++ f (result_view x)) c.loop-one.invariant
    ∙ (append_assoc (map finding_view c.args.findings.now.items) front (f (result_view x))
    ∙ ap (λ z. map finding_view c.args.findings.now.items ++ z) (sym joined)))
