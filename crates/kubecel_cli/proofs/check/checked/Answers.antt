use Rattle.kubecel_io.specs.Reads.{are_none, document_view}
use Rattle.kubecel_io.specs.Subjects.{subject_view}
use Rattle.kubecel_report.specs.Items.{item_view}
use Rattle.kubecel_cli.proofs.Judging.{with_files}
use Rattle.kubecel_cli.proofs.check.checked.Goals as goal
use Rattle.kubecel_cli.specs.Commands.{check_view}
use Rattle.std.proofs.lemmas.Bool.{and_parts, not-false}
use Rattle.std.proofs.Common.{◌≡◌, ◌&&◌, map, sym, ap, ◌∙◌}

pub returns : goal.returns
returns g c =
    let missed_crds = are_none (map item_view c.in_ok-crds.crds.unusable.items) in
    let missed_olds = are_none (map item_view c.in_ok-olds.olds.unusable.items) in
    let missed_objects = are_none (map item_view c.in_ok-objects.objects.unusable.items) in
    let used = not-false (missed_crds && (missed_olds && missed_objects)) (sym c.is_any_unusable.ensures ∙ c.if-is_any_unusable.false) in
    let first = and_parts missed_crds (missed_olds && missed_objects) used in
    let others = and_parts missed_olds missed_objects first.1 in
    let crds_are = ap (map subject_view) c.as_slice-4.ensures.value ∙ c.in_ok-given.ensures ∙ ap (map document_view) c.as_slice.ensures.value in
    let olds_are = ap (map subject_view) c.as_slice-5.ensures.value ∙ c.in_ok-earlier.ensures ∙ ap (map document_view) c.as_slice-2.ensures.value in
    let objects_are = ap (map subject_view) c.as_slice-6.ensures.value ∙ c.in_ok-present.ensures ∙ ap (map document_view) c.as_slice-3.ensures.value in
    with_files g.S.Sources.reads c.args.files.now (check_view c.args.check) c.read_files-3.new.files c.judged.result
    (map document_view c.in_ok-crds.crds.documents.items) (map document_view c.in_ok-olds.olds.documents.items) (map document_view c.in_ok-objects.objects.documents.items)
    _ _ _ c.read_files.new.files c.read_files-2.new.files crds_are olds_are objects_are (c.in_ok-crds.ensures.all first.0) (c.in_ok-olds.ensures.all others.0) (c.in_ok-objects.ensures.all others.1)
    c.judged.ensures
