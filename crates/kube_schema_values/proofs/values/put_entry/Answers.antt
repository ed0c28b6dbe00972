use Rattle.std.proofs.Common.{ap, ◌∙◌}
use Rattle.cel_value.specs.Data.{text_key}
use Rattle.cel_value.specs.Keys.{put}
use Rattle.cel_value.specs.View.{view, entries_view}
use Rattle.kube_schema_values.proofs.values.put_entry.Goals as goal

pub returns-clause-entered : goal.returns-clause-entered
returns-clause-entered c =
    let before = entries_view c.args.entries.now.entries in
    c.in_ok-put_shared.ensures.entered ∙ ap (λ s. put (text_key s) (view c.args.value) before) c.in_ok-key.ensures.value
