use Rattle.std.proofs.Common.{◌≡◌, ◌≤◌, Some, None, suc, length, sym, subst}
use Rattle.std.specs.Prelude.{zip, slice_get, OnOk}
use Rattle.cel_value.specs.Find.{find}
use Rattle.cel_value.specs.Keys.{key_view, put}
use Rattle.cel_value.specs.Shared.{Shared, shared_entries}
use Rattle.cel_value.specs.SharedEntries.{values_of}
use Rattle.cel_value.specs.View.{view, entries_view}
use Rattle.cel_value.specs.declared.key.Key.{Key}
use Rattle.cel_value.proofs.Shared.{entry_pushed, still_fits}
use Rattle.cel_value.proofs.value.SharedEntries.push.Goals as goal

pub invariant_of-self : goal.invariant_of-self
invariant_of-self c =
    let ks = c.self.inside.keys.value.items in
    let vs = values_of c.self.inside.values in
    let room = subst (λ s. suc (length s.values) ≤ length s.keys) (sym c.self.view_is) c.requires.room in (
      c.self.invariant.0,
      still_fits c.push.result (length ks) vs (values_of c.push.new.self) c.args.value room c.push.ensures.added c.push.ensures.unchanged,
      c.push.ensures.suits ks c.self.invariant.2,
      c.push.ensures.places,
    )

pub returns-clause-entries : goal.returns-clause-entries
returns-clause-entries c =
    let ks = c.self.inside.keys.value.items in
    let ws = values_of c.push.new.self in
    subst (λ (s : Shared). OnOk c.push.result ((k : Key) → slice_get s.keys (length s.values) ≡ Some k
    → (find (key_view k) (entries_view (shared_entries s)) ≡ None)
    × (entries_view (zip ks ws) ≡ put (key_view k) (view c.args.value) (entries_view (shared_entries s))))) c.self.view_is
    (entry_pushed c.push.result ks (values_of c.self.inside.values) ws c.args.value c.self.invariant.0 c.push.ensures.added)
