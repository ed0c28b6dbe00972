use Rattle.kubecel_io.proofs.Files.{no_document}
use Rattle.kubecel_io.proofs.sources.read_file.Goals as goal
use Rattle.kubecel_io.specs.Reads.{without_mark}
use Rattle.std.proofs.Common.{◌≡◌, length, string_bytes, ap, arith, ◌∙◌}

pub returns-then-is_empty-clause-unread : goal.returns-then-is_empty-clause-unread
returns-then-is_empty-clause-unread g c =
    let values = c.in-Ok-2.values.items in
    let none : length values ≡ 0 = grind (arith, c.if-is_empty.ensures) in
    no_document g.S.Sources.reads c.args.files.now c.read.new.self c.args.path.now _ c.without_mark-json.result.now (string_bytes c.in-Ok.text) values
    (rw c.in-Ok.is at c.in_ok-text.ensures) (c.without_mark-json.ensures ∙ ap without_mark c.as_str.ensures.value) (rw c.in-Ok-2.is at c.in_ok-values.ensures.read) none c.in_ok-from_str-in-Ok-2.ensures.ok
