use Rattle.std.proofs.Common.{[], ◌∙◌}
use Rattle.cel_value.specs.Data.{text, text_key}
use Rattle.cel_value.specs.Keys.{put}
use Rattle.cel_value.specs.View.{entries_view}
use Rattle.kube_schema_values.proofs.Resources.{put_here, put_there}
use Rattle.kube_schema_values.proofs.resource.put_absent_text.Goals as goal

pub returns-then-contains_key-clause-field : goal.returns-then-contains_key-clause-field
returns-then-contains_key-clause-field c = put_there c.args.name.now c.args.members.now.entries (text []) (entries_view c.args.entries.now.entries) c.if-contains_key.ensures

pub returns-clause-field : goal.returns-clause-field
returns-clause-field c =
    let before = entries_view c.args.entries.now.entries in
    let made = c.in_ok-value.ensures.value in
    c.in_ok-put_entry.ensures.entered ∙ (λ i. put (text_key (c.in_ok-key.ensures.ok i)) (made i) before)
    ∙ put_here c.args.name.now c.args.members.now.entries (text []) before c.if-contains_key.ensures
