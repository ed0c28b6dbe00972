use Rattle.std.proofs.Common.{length, sym, ap, ◌∙◌}
use Rattle.cel_value.specs.Shared.{shared_entries}
use Rattle.cel_value.specs.SharedEntries.{values_of}
use Rattle.cel_value.proofs.Shared.{zip_length}
use Rattle.cel_value.proofs.value.SharedEntries.len.Goals as goal

pub returns : goal.returns
returns c =
    ap length c.as_slice.ensures ∙ sym (zip_length c.self.inside.keys.value.items (values_of c.self.inside.values) c.self.invariant.1)
    ∙ ap (λ s. length (shared_entries s)) c.self.view_is
