use Rattle.kube_manifests_texts.proofs.TextSets.{already_there, inserted}
use Rattle.kube_manifests_texts.proofs.set.insert_text.Goals as goal
use Rattle.std.proofs.Common.{string_bytes, sym, ◌∙◌}

pub returns-then-contains : goal.returns-then-contains
returns-then-contains c = record { added = already_there c.args.text.now c.args.texts.now (sym c.contains.ensures ∙ c.if-contains.true) }

pub returns : goal.returns
returns c = record {
  added = λ x.
      inserted c.args.text.now c.args.texts.now c.insert.new.self (string_bytes c.in_ok-from_str.field-0) c.in_ok-from_str.ensures.ok c.in_ok-_is_new.ensures.updates x;
}
