use Rattle.kube_manifests_texts.proofs.Firsts.{found_at_first, lent_at}
use Rattle.kubecel_cli.proofs.place.Entries.first_of.Goals as goal
use Rattle.kubecel_cli.specs.Reports.{expressions_view, is_labelled}
use Rattle.serde_json.specs.View.{view}
use Rattle.std.proofs.Common.{Bor, map, option_and_then, option_map, ap, sym, ◌∙◌}
use Rattle.std.specs.List.{slice_get}

pub returns-in_err-get : goal.returns-in_err-get
returns-in_err-get c =
    let es = map view c.args.self.now.entries.now in
    let p = is_labelled (expressions_view c.args.self.now.expressions) c.args.label.now in
    ap (option_map (λ v. view v.now)) c.from_residual.ensures
    ∙ (ap (option_and_then (slice_get es)) (sym c.in_err-get.was ∙ (c.get.ensures ∙ c.requires c.args.label.now))
    ∙ sym (found_at_first p es))

pub returns : goal.returns
returns c =
    let es = map view c.args.self.now.entries.now in
    let p = is_labelled (expressions_view c.args.self.now.expressions) c.args.label.now in
    lent_at view c.args.self.now.entries.now c.in_ok-get.field-0 c.get-2.result c.get-2.ensures.lookup
    ∙ (ap (option_and_then (slice_get es)) (c.in_ok-get.ensures ∙ c.requires c.args.label.now)
    ∙ sym (found_at_first p es))
