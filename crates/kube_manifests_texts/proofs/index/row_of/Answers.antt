use Rattle.std.proofs.Common.{Some, cond, string_bytes, ap, ◌∙◌}
use Rattle.kube_manifests_texts.proofs.Rows.{entered, nothing_in}
use Rattle.kube_manifests_texts.proofs.index.row_of.Goals as goal
use Rattle.std.specs.Str.{bytes_eq}

pub returns : goal.returns
returns c = λ t.
    entered c.args.text.now (string_bytes c.in_ok-from_str.field-0) c.new-row.result c.insert.new.self (Some c.args.position) c.in_ok-from_str.ensures.ok c.in_ok-insert.ensures.updates t
    ∙ ap (cond (bytes_eq c.args.text.now t) (Some c.args.position)) (nothing_in c.new-row.result c.new-row.ensures.empty t)
