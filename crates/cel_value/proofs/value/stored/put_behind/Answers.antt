use Rattle.std.proofs.Common.{◌≡◌, ◌<◌, ◌≤◌, ◌++◌, Some, length, sym, subst, ap, ◌∙◌, arith, is_ok, slice_set}
use Rattle.std.specs.Prelude.{IfOk, OnOk}
use Rattle.std.specs.BTreeMap.{is_at}
use Rattle.cel_value.specs.Keys.{key_cmp}
use Rattle.cel_value.specs.StoredEntries.{AreSorted, place_of, tree_entries}
use Rattle.cel_value.proofs.Stored.{found, missing, added, replaced}
use Rattle.cel_value.proofs.Tails.{sorted_left, missing_left, put_past, put_found, lookup_left, lookup_right}
use Rattle.cel_value.proofs.value.stored.put_behind.Goals as goal

pub place-requires : goal.place-requires
place-requires c = subst AreSorted (sym c.as_slice.ensures.value) (sorted_left c.args.rest.now.items (tree_entries c.args.tail.now) c.requires.sorted)

pub returns-in-Ok-clause-old : goal.returns-in-Ok-clause-old
returns-in-Ok-clause-old c =
    let rest = c.args.rest.now.items in
    let tail = tree_entries c.args.tail.now in
    let h = sym (c.place.ensures.place ∙ ap (place_of c.args.key) c.as_slice.ensures.value) ∙ c.in-Ok.is in
    ap Some (c.replace.ensures.value ∙ ap (λ e. e.1) c.index_mut.ensures.value)
    ∙ sym (lookup_left (is_at (key_cmp c.args.key)) rest tail _ (found c.args.key rest c.in-Ok.at c.index_mut.result.now h))

pub returns-in-Ok-clause-entries : goal.returns-in-Ok-clause-entries
returns-in-Ok-clause-entries c =
    let rest = c.args.rest.now.items in
    let tail = tree_entries c.args.tail.now in
    let h = sym (c.place.ensures.place ∙ ap (place_of c.args.key) c.as_slice.ensures.value) ∙ c.in-Ok.is in
    (λ i. slice_set rest c.in-Ok.at ((c.index_mut.ensures.value i).0, c.replace.ensures.after i) ++ tail)
    ∙ ap (λ l. l ++ tail) (replaced c.args.key c.args.value rest c.in-Ok.at c.index_mut.result.now h)
    ∙ sym (put_found c.args.key c.args.value rest tail c.in-Ok.at h)

pub returns-then-at-as_slice-clause-old : goal.returns-then-at-as_slice-clause-old
returns-then-at-as_slice-clause-old c =
    let rest = c.args.rest.now.items in
    let tail = tree_entries c.args.tail.now in
    let h = sym (c.place.ensures.place ∙ ap (place_of c.args.key) c.as_slice.ensures.value) ∙ c.in-Err.is in
    let l : c.in-Err.at < length rest = omega (arith, c.if-at-as_slice.true, ap length c.as_slice-in-Err.ensures.value) in
    sym (missing c.args.key (rest ++ tail) c.requires.sorted (ap is_ok (missing_left c.args.key rest tail c.in-Err.at h l)))

pub returns-then-at-as_slice-clause-entries : goal.returns-then-at-as_slice-clause-entries
returns-then-at-as_slice-clause-entries c =
    let rest = c.args.rest.now.items in
    let tail = tree_entries c.args.tail.now in
    let h = sym (c.place.ensures.place ∙ ap (place_of c.args.key) c.as_slice.ensures.value) ∙ c.in-Err.is in
    let l : c.in-Err.at < length rest = omega (arith, c.if-at-as_slice.true, ap length c.as_slice-in-Err.ensures.value) in
    c.in_ok-put_between-in-Err.ensures.added
    ∙ added c.args.key c.args.value (rest ++ tail) c.in-Err.at (missing_left c.args.key rest tail c.in-Err.at h l)

pub returns-else-at-as_slice-clause-old : goal.returns-else-at-as_slice-clause-old
returns-else-at-as_slice-clause-old c =
    let rest = c.args.rest.now.items in
    let tail = tree_entries c.args.tail.now in
    let h = sym (c.place.ensures.place ∙ ap (place_of c.args.key) c.as_slice.ensures.value) ∙ c.in-Err.is in
    let none = missing c.args.key rest (sorted_left rest tail c.requires.sorted) (ap is_ok h) in
    subst (λ v. IfOk c.put_last.result (λ old. old ≡ v)) (sym (lookup_right (is_at (key_cmp c.args.key)) rest tail none)) c.put_last.ensures.old

pub returns-else-at-as_slice-clause-entries : goal.returns-else-at-as_slice-clause-entries
returns-else-at-as_slice-clause-entries c =
    let rest = c.args.rest.now.items in
    let tail = tree_entries c.args.tail.now in
    let h = sym (c.place.ensures.place ∙ ap (place_of c.args.key) c.as_slice.ensures.value) ∙ c.in-Err.is in
    let l : length rest ≤ c.in-Err.at = omega (arith, c.if-at-as_slice.false, ap length c.as_slice-in-Err.ensures.value) in
    subst (λ es. OnOk c.put_last.result (c.put_last.new.rest.items ++ tree_entries c.put_last.new.tail ≡ es))
    (sym (put_past c.args.key c.args.value rest tail c.in-Err.at h l)) c.put_last.ensures.entries
