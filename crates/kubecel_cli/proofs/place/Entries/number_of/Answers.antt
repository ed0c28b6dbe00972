use Rattle.kubecel_cli.proofs.Labels.{counted, place_or}
use Rattle.kubecel_cli.proofs.place.Entries.number_of.Goals as goal
use Rattle.kubecel_cli.specs.Reports.{expressions_view, is_labelled}
use Rattle.serde_json.specs.View.{view}
use Rattle.std.proofs.Common.{length, map, ap, sym, ◌∙◌}
use Rattle.std.proofs.lemmas.List.{length-map}

pub returns-in-Some : goal.returns-in-Some
returns-in-Some c =
    let es = map view c.args.self.now.entries.now in
    ap (λ o. place_or o (length es)) (c.in-Some.ensures ∙ c.requires c.args.label.now)
    ∙ sym (counted (is_labelled (expressions_view c.args.self.now.expressions) c.args.label.now) es)

pub returns-in-None : goal.returns-in-None
returns-in-None c =
    let es = map view c.args.self.now.entries.now in
    sym (length-map c.args.self.now.entries.now view)
    ∙ (ap (λ o. place_or o (length es)) (c.in-None.ensures ∙ c.requires c.args.label.now)
    ∙ sym (counted (is_labelled (expressions_view c.args.self.now.expressions) c.args.label.now) es))
