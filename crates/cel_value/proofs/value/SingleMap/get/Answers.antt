use Rattle.std.proofs.Common.{option_map, sym, ap, ◌∙◌}
use Rattle.cel_value.specs.Find.{find}
use Rattle.cel_value.specs.Keys.{key_view}
use Rattle.cel_value.specs.Shared.{shared_entries}
use Rattle.cel_value.specs.SharedEntries.{map_entries}
use Rattle.cel_value.specs.View.{view, entries_view}
use Rattle.cel_value.proofs.MapEntries.{find-lookup, view-copied}
use Rattle.cel_value.proofs.value.SingleMap.get.Goals as goal

pub returns-in-Own : goal.returns-in-Own
returns-in-Own c =
    view-copied c.get.result ∙ ap (option_map view) c.get.ensures.value ∙ find-lookup c.args.key.now c.in-Own.entries.entries
    ∙ ap (λ m. find (key_view c.args.key.now) (entries_view (map_entries m))) (sym c.in-Own.is)
    ∙ ap (find (key_view c.args.key.now)) c.self.view_is

pub returns-in-Shared : goal.returns-in-Shared
returns-in-Shared c =
    view-copied c.get-in-Shared.result ∙ ap (option_map view) c.get-in-Shared.ensures ∙ find-lookup c.args.key.now (shared_entries c.in-Shared.entries)
    ∙ ap (λ m. find (key_view c.args.key.now) (entries_view (map_entries m))) (sym c.in-Shared.is)
    ∙ ap (find (key_view c.args.key.now)) c.self.view_is
