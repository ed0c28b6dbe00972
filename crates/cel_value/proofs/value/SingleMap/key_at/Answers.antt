use Rattle.std.proofs.Common.{sym, ap, ◌∙◌}
use Rattle.cel_value.specs.SharedEntries.{map_entries}
use Rattle.cel_value.specs.View.{entries_view}
use Rattle.cel_value.proofs.Indexed.{key_in_map}
use Rattle.cel_value.proofs.value.SingleMap.key_at.Goals as goal

pub returns-in-Own : goal.returns-in-Own
returns-in-Own c =
    let whole = sym (ap (λ m. entries_view (map_entries m)) c.in-Own.is) ∙ c.self.view_is in
    key_in_map c.key_at.result c.in-Own.entries.entries c.args.self.now c.args.index whole c.key_at.ensures
