use Rattle.std.proofs.Common.{[], ◌∷◌, ◌++◌, sym, ap, ◌∙◌, append_assoc, subst}
use Rattle.std.specs.List.Sorted.{IsStrictlySortedBy}
use Rattle.std.specs.Map.{keys_of}
use Rattle.cel_value.specs.Keys.{key_cmp, key_view, put}
use Rattle.cel_value.specs.Listed.{Entry}
use Rattle.cel_value.specs.View.{view, entries_view}
use Rattle.cel_value.proofs.Shared.{put_last}
use Rattle.cel_value.proofs.value.MapBlock.to_entries.Goals as goal

pub loop-key-preserved : goal.loop-key-preserved
loop-key-preserved c =
    let l = c.loop-key in
    let done = l.invariant.0 in
    let e : Entry = (c.in-Some.key.now, c.in-Some.value.now) in
    let rest = c.next.new.self in
    let next = ap (λ es. done ++ es) c.in-Some.ensures.steps in
    let moved = next ∙ sym (append_assoc done (e ∷ []) rest) in (
      done ++ e ∷ [],
      ap entries_view (sym moved) ∙ l.invariant.1,
      subst (λ es. IsStrictlySortedBy key_cmp (keys_of es)) moved l.invariant.2,
      c.in_ok-put_copy.ensures.added ∙ ap (put (key_view e.0) (view e.1)) l.invariant.3
          ∙ put_last done e rest (subst (λ es. IsStrictlySortedBy key_cmp (keys_of es)) next l.invariant.2),
    )
