use Rattle.kube_manifests_texts.proofs.Firsts.{first_after}
use Rattle.kube_manifests.specs.Positions.{first_at, position_at}
use Rattle.kubecel_cli.proofs.place.Entries.find_in.Goals as goal
use Rattle.kubecel_cli.specs.Reports.{expressions_view, is_labelled}
use Rattle.serde_json.specs.View.{view}
use Rattle.std.proofs.lemmas.List.{length-map, length-take, map-append, take_more}
use Rattle.std.specs.Option.{option_or}
use Rattle.std.specs.Str.{bytes_eq}
use Rattle.std.proofs.Common.{Some, None, if◌then◌else◌, arith, ◌≡◌, ◌+◌, ◌++◌, ◌∷◌, [], length, map, take, ap, sym, ◌∙◌}

pub loop-entry-preserved : goal.loop-entry-preserved
loop-entry-preserved c =
    let xs = c.entries_in-entries.result.now in
    let i = c.loop-entry.entry-index in
    let x = c.entry-item.result in
    let more : map view (take (i + 1) xs) ≡ map view (take i xs) ++ view x ∷ [] =
    ap (map view) (take_more xs i x (omega (arith, c.loop-entry-test.true, c.loop-entry.auto.entry-index-end)) ∙ ap (λ y. take i xs ++ y ∷ []) (sym c.entry-item.is)) ∙ map-append view (take i xs) (x ∷ []) in
    let long : c.loop-entry.number ≡ length (map view (take i xs)) = c.loop-entry.invariant.0 ∙ sym (length-map (take i xs) view ∙ omega (arith, length-take i xs, c.loop-entry-test.true)) in (
      ap (λ n. n + 1) c.loop-entry.invariant.0,
      λ label.
          first_after (is_labelled (expressions_view c.args.expressions) label) (map view (take i xs)) (view x)
          (position_at c.loop-entry.positions [] label) (position_at c.insert_first.new.self [] label) c.loop-entry.number
          (c.loop-entry.invariant.1 label) long
          (c.in_ok-insert_first.ensures [] label
          ∙ ap (λ t. option_or (position_at c.loop-entry.positions [] label) (if bytes_eq t label then Some c.loop-entry.number else None)) c.text_at.ensures)
          ∙ ap (first_at (is_labelled (expressions_view c.args.expressions) label)) (sym more),
    )
