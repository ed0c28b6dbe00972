use Rattle.std.proofs.Common.{Some, ap, ◌∙◌, slice_set}
use Rattle.cel_value.specs.Data.{null}
use Rattle.cel_value.specs.View.{view}
use Rattle.cel_value.specs.declared.value.Value.TheVariants as value
use Rattle.cel_semantics.specs.Bindings.{binding, named_bindings}
use Rattle.cel_semantics.proofs.Anew.{bound_above, found_first, set_first}
use Rattle.cel_semantics.proofs.Lookups.{inner_here}
use Rattle.cel_semantics.proofs.names.Names.take.Goals as goal

pub returns-in-Some : goal.returns-in-Some
returns-in-Some c =
    let es = c.args.self.now.first.items in
    let others = named_bindings c.args.self.now.others.entries in
    let e = c.index_mut.result.now in
    let name = c.args.name.now in (
      ap (λ v. Some (view v)) c.replace.ensures.value
          ∙ inner_here name (named_bindings es) others (view e.1) (found_first name es c.in-Some.slot e c.in-Some.ensures.slot c.index_mut.ensures.value),
      λ x. bound_above x name (named_bindings (slice_set es c.in-Some.slot (e.0, c.replace.new.dest))) (named_bindings es) others null
          (ap (λ w. binding x (named_bindings (slice_set es c.in-Some.slot (e.0, w)))) c.replace.ensures.after
          ∙ set_first x name es c.in-Some.slot e value.Null c.in-Some.ensures.slot c.index_mut.ensures.value),
    )
