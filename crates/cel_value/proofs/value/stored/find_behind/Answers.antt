use Rattle.std.proofs.Common.{sym, ap, ◌∙◌}
use Rattle.std.specs.Prelude.{option_copied}
use Rattle.std.specs.BTreeMap.{is_at}
use Rattle.cel_value.specs.Keys.{key_cmp}
use Rattle.cel_value.specs.StoredEntries.{tree_entries}
use Rattle.cel_value.proofs.Tails.{lookup_left, lookup_right}
use Rattle.cel_value.proofs.value.stored.find_behind.Goals as goal

pub returns-in-Some : goal.returns-in-Some
returns-in-Some c =
    sym (lookup_left (is_at (key_cmp c.args.key.now)) c.args.rest.now (tree_entries c.args.tail.now) c.in-Some.value.now (sym c.find.ensures ∙ ap option_copied c.in-Some.is))

pub returns-in-None : goal.returns-in-None
returns-in-None c =
    c.find_in_tree.ensures
    ∙ sym (lookup_right (is_at (key_cmp c.args.key.now)) c.args.rest.now (tree_entries c.args.tail.now) (sym c.find.ensures ∙ ap option_copied c.in-None.is))
