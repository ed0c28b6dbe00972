use Rattle.std.proofs.Common.{◌∷◌, ◌++◌, ◌-◌, sym, ap, ◌∙◌, arith, subst}
use Rattle.std.specs.Map.{keys_of}
use Rattle.cel_value.specs.StoredEntries.{AreSorted, all_entries, tree_entries}
use Rattle.cel_value.proofs.Indexed.{behind_put, behind_same, first_put, same_keys, still_stored}
use Rattle.cel_value.proofs.Stored.{sorted_stored, stored_some}
use Rattle.cel_value.proofs.value.Entries.replace_at.Goals as goal

pub returns-then-index-eq0-clause-replaced : goal.returns-then-index-eq0-clause-replaced
returns-then-index-eq0-clause-replaced c = λ t k there.
    let others = c.self.inside.rest.items ++ tree_entries c.self.inside.tail in
    let first = c.in-Some.first in
    let whole = sym (ap (λ o. all_entries o others) c.in-Some.is) ∙ ap (λ l. l.entries) c.self.view_is in
    first_put first others c.args.self.now.entries c.args.index k c.args.value c.replace.new.dest (omega (arith, c.if-index-eq0.true)) c.replace.ensures.after
    (stored_some c.self.inside.first first others c.in-Some.is c.self.invariant.0) whole there

pub invariant_of-self-in-Some : goal.invariant_of-self-in-Some
invariant_of-self-in-Some c =
    let rest = c.self.inside.rest.items in
    let tail = tree_entries c.self.inside.tail in
    still_stored c.replace_behind.result c.in-Some.first rest tail c.replace_behind.new.rest.items (c.args.index - 1) c.args.value c.replace_behind.ensures
    (stored_some c.self.inside.first c.in-Some.first (rest ++ tail) c.in-Some.is c.self.invariant.0) c.self.invariant.1

pub returns-in-None-clause-ordered : goal.returns-in-None-clause-ordered
returns-in-None-clause-ordered c = subst (λ m. AreSorted m.entries) c.self.view_is (sorted_stored c.self.inside.first (c.self.inside.rest.items ++ tree_entries c.self.inside.tail) c.self.invariant.0)

pub returns-else-index-eq0-clause-keys : goal.returns-else-index-eq0-clause-keys
returns-else-index-eq0-clause-keys c =
    let rest = c.self.inside.rest.items in
    let tail = tree_entries c.self.inside.tail in
    let whole = sym (ap (λ o. all_entries o (rest ++ tail)) c.in-Some.is) ∙ ap (λ l. l.entries) c.self.view_is in
    ap (λ ks. c.in-Some.first.0 ∷ ks) (same_keys c.replace_behind.result rest tail c.replace_behind.new.rest.items (c.args.index - 1) c.args.value c.replace_behind.ensures) ∙ ap keys_of whole

pub returns-else-index-eq0-clause-replaced : goal.returns-else-index-eq0-clause-replaced
returns-else-index-eq0-clause-replaced c =
    let rest = c.self.inside.rest.items in
    let tail = tree_entries c.self.inside.tail in
    let whole = sym (ap (λ o. all_entries o (rest ++ tail)) c.in-Some.is) ∙ ap (λ l. l.entries) c.self.view_is in
    behind_put c.replace_behind.result c.in-Some.first rest tail c.replace_behind.new.rest.items c.args.self.now.entries c.args.index (c.args.index - 1) c.args.value (omega (arith, c.if-index-eq0.false)) c.replace_behind.ensures
    (stored_some c.self.inside.first c.in-Some.first (rest ++ tail) c.in-Some.is c.self.invariant.0) whole

pub returns-else-index-eq0-clause-unchanged : goal.returns-else-index-eq0-clause-unchanged
returns-else-index-eq0-clause-unchanged c = λ f.
    let rest = c.self.inside.rest.items in
    let tail = tree_entries c.self.inside.tail in
    let whole = sym (ap (λ o. all_entries o (rest ++ tail)) c.in-Some.is) ∙ ap (λ l. l.entries) c.self.view_is in
    behind_same c.replace_behind.result c.in-Some.first rest tail c.replace_behind.new.rest.items c.args.self.now.entries (c.args.index - 1) c.args.value c.replace_behind.ensures whole f
