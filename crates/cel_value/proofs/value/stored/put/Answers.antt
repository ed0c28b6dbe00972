use Rattle.std.proofs.Common.{◌∷◌, ◌++◌, sym, ap, ◌∙◌, subst}
use Rattle.std.specs.BTreeMap.{is_at}
use Rattle.std.specs.Map.{lookup}
use Rattle.cel_value.specs.Keys.{key_cmp}
use Rattle.cel_value.specs.StoredEntries.{AreSorted, all_entries, tree_entries}
use Rattle.cel_value.proofs.Stored.{none_below, stored_some, stored_behind, stored_one, put_or_kept, sorted_in_front}
use Rattle.cel_value.proofs.value.stored.put.Goals as goal

pub put_behind-requires-clause-sorted : goal.put_behind-requires-clause-sorted
put_behind-requires-clause-sorted c = stored_behind c.args.first.now c.in-Some.entry (c.args.rest.now.items ++ tree_entries c.args.tail.now) c.in-Some.is c.requires.stored

pub put_before-requires-clause-sorted : goal.put_before-requires-clause-sorted
put_before-requires-clause-sorted c = stored_behind c.args.first.now c.in-Some.entry (c.args.rest.now.items ++ tree_entries c.args.tail.now) c.in-Some.is c.requires.stored

pub returns-in-None-clause-stored : goal.returns-in-None-clause-stored
returns-in-None-clause-stored c = stored_one c.args.first.now (c.args.key, c.args.value) (c.args.rest.now.items ++ tree_entries c.args.tail.now) c.in-None.is c.requires.stored

pub returns-in-Greater-clause-stored : goal.returns-in-Greater-clause-stored
returns-in-Greater-clause-stored c =
    let e = c.in-Some.entry in
    let es = c.args.rest.now.items ++ tree_entries c.args.tail.now in
    let s = stored_some c.args.first.now e es c.in-Some.is c.requires.stored in
    put_or_kept _ _ c.put_behind.result c.args.key c.args.value e es (c.put_behind.new.rest.items ++ tree_entries c.put_behind.new.tail) (sym c.cmp.ensures ∙ c.in-Greater.is) s c.put_behind.ensures.entries c.put_behind.ensures.unchanged

pub returns-in_ok-put_before-in-Less-clause-stored : goal.returns-in_ok-put_before-in-Less-clause-stored
returns-in_ok-put_before-in-Less-clause-stored c =
    let e = c.in-Some.entry in
    let es = c.args.rest.now.items ++ tree_entries c.args.tail.now in
    let s = stored_some c.args.first.now e es c.in-Some.is c.requires.stored in
    subst (λ l. AreSorted (c.put_before.new.first ∷ l)) (sym c.in_ok-put_before-in-Less.ensures.added.1)
    (subst (λ f. AreSorted (f ∷ e ∷ es)) (sym c.in_ok-put_before-in-Less.ensures.added.0)
    (sorted_in_front c.args.key c.args.value e es (sym c.cmp.ensures ∙ c.in-Less.is) s))

pub returns-in_ok-put_before-in-Less-clause-old : goal.returns-in_ok-put_before-in-Less-clause-old
returns-in_ok-put_before-in-Less-clause-old c =
    let e = c.in-Some.entry in
    let es = c.args.rest.now.items ++ tree_entries c.args.tail.now in
    let s = stored_some c.args.first.now e es c.in-Some.is c.requires.stored in
    sym (ap (λ o. lookup (is_at (key_cmp c.args.key)) (all_entries o es)) c.in-Some.is ∙ none_below c.args.key e es (sym c.cmp.ensures ∙ c.in-Less.is) s)
