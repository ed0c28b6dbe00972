use Rattle.std.proofs.Common.{ap, ◌∙◌}
use Rattle.cel_value.specs.Data.{map_of, no_entries, text_key}
use Rattle.cel_value.specs.Keys.{put}
use Rattle.cel_value.specs.View.{entries_view}
use Rattle.kube_schema_values.proofs.Resources.{put_here, put_there}
use Rattle.kube_schema_values.proofs.resource.put_absent_map.Goals as goal

pub returns-then-contains_key-clause-field : goal.returns-then-contains_key-clause-field
returns-then-contains_key-clause-field c = put_there c.args.name.now c.args.members.now.entries (map_of no_entries) (entries_view c.args.entries.now.entries) c.if-contains_key.ensures

pub returns-clause-field : goal.returns-clause-field
returns-clause-field c =
    let before = entries_view c.args.entries.now.entries in
    let made = c.in_ok-value.ensures.value ∙ ap (λ es. map_of (entries_view es)) c.new.ensures.empty in
    c.in_ok-put_entry.ensures.entered ∙ (λ i. put (text_key (c.in_ok-key.ensures.ok i)) (made i) before)
    ∙ put_here c.args.name.now c.args.members.now.entries (map_of no_entries) before c.if-contains_key.ensures
