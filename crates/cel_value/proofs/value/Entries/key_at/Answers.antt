use Rattle.std.proofs.Common.{◌++◌, ◌-◌, sym, ap, ◌∙◌, arith}
use Rattle.std.specs.Prelude.{slice_get}
use Rattle.std.specs.Map.{keys_of}
use Rattle.cel_value.specs.StoredEntries.{all_entries, tree_entries}
use Rattle.cel_value.proofs.Indexed.{behind_key}
use Rattle.cel_value.proofs.value.Entries.key_at.Goals as goal

pub returns-else-index-eq0 : goal.returns-else-index-eq0
returns-else-index-eq0 c =
    let rest = c.self.inside.rest.items in
    let tail = tree_entries c.self.inside.tail in
    let whole = sym (ap (λ o. all_entries o (rest ++ tail)) c.in-Some.is) ∙ ap (λ l. l.entries) c.self.view_is in
    let found = c.key_behind.ensures ∙ ap (λ l. slice_get (keys_of l) (c.args.index - 1)) c.as_slice.ensures.value in
    behind_key c.key_behind.result c.in-Some.first rest tail c.args.self.now.entries c.args.index (c.args.index - 1) (omega (arith, c.if-index-eq0.false)) found whole
