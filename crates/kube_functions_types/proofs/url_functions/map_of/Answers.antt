use Rattle.std.proofs.Common.{[], ◌∷◌, ◌++◌, sym, ap, ◌∙◌, append_assoc, append-nil}
use Rattle.cel_value.specs.View.{entries_view}
use Rattle.kube_functions_types.proofs.Queries.{Held, entries_of, named_all, one_more, whole_query}
use Rattle.kube_functions_types.proofs.url_functions.map_of.Goals as goal

pub loop-name-init : goal.loop-name-init
loop-name-init c = ([], sym c.into_iter-name-iterator.ensures.into_iter_gives.0, ap entries_view c.new-entries.ensures.empty)

pub loop-name-preserved : goal.loop-name-preserved
loop-name-preserved c =
    let l = c.loop-name in
    let done = l.invariant.0 in
    let e : Held = (c.in-Some.name, c.in-Some.values) in
    let is = l.invariant.1 ∙ ap (λ es. done ++ es) c.in-Some.ensures.steps in (
      done ++ e ∷ [],
      is ∙ sym (append_assoc done (e ∷ []) c.next.new.self),
      one_more c.args.query.entries done e c.next.new.self (entries_view l.entries.entries) (entries_view c.add_values.new.entries.entries)
          c.into_iter-name-iterator.ensures.into_iter_gives.5 is l.invariant.2 c.in_ok-add_values.ensures.written,
    )

pub returns : goal.returns
returns c = record {
  value = λ pairs h.
      let done = c.loop-name.invariant.0 in
      let all = c.loop-name.invariant.1 ∙ ap (λ es. done ++ es) c.in-None.ensures.steps.0 ∙ append-nil done in
      c.loop-name.invariant.2 ∙ ap (λ es. entries_of (named_all es)) (sym all) ∙ whole_query c.args.query pairs c.into_iter-name-iterator.ensures.into_iter_gives.5 h;
}
