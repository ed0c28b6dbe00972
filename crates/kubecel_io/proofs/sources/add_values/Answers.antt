use Rattle.kubecel_io.proofs.Files.{fewer_left, no_document_left, one_more_document}
use Rattle.kubecel_io.proofs.sources.add_values.Goals as goal
use Rattle.kubecel_io.specs.Reads.{document_view, with_indices}
use Rattle.serde_json.specs.View.{view}
use Rattle.std.proofs.Common.{◌++◌, map, sym, ap, refl, ◌∙◌}
use Rattle.std.specs.Vec.Iter.{into_iter_items}

pub loop-index-preserved : goal.loop-index-preserved
loop-index-preserved c =
    let steps = c.in-Some.ensures.steps in
    let file = c.args.file.now in
    let it = c.loop-index.index-iterator in
    let done = c.loop-index.found.items in
    let after = c.push.new.self.items in
    let left = into_iter_items c.next.new.self.iter in
    let grown = one_more_document file it.count c.in-Some.value (map view left) (record { file = c.in_ok-file.file; index = c.in-Some.index; value = c.in-Some.value }) done after
    c.in_ok-file.ensures.ok steps.1 refl c.in_ok-push.ensures.items in
    record {
      found = ap (λ n. map document_view after ++ with_indices file n (map view left)) steps.2 ∙ sym grown
          ∙ ap (λ vs. map document_view done ++ with_indices file it.count (map view vs)) (sym steps.0.0) ∙ c.loop-index.invariant.found;
      left = fewer_left (into_iter_items it.iter) left c.in-Some.value _ _ steps.0.0 steps.0.1 c.loop-index.invariant.left;
    }

pub returns : goal.returns
returns c =
    let steps = c.in-None.ensures.steps in
    let it = c.loop-index.index-iterator in
    sym (no_document_left c.args.file.now it.count (into_iter_items it.iter) (map document_view c.loop-index.found.items) (sym c.loop-index.invariant.left ∙ steps.0.0)) ∙ c.loop-index.invariant.found
