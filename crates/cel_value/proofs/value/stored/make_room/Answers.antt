use Rattle.std.proofs.Common.{◌≡◌, [], ◌∷◌, ◌++◌, ap, ◌∙◌}
use Rattle.std.specs.Prelude.{option_to_list}
use Rattle.cel_value.specs.StoredEntries.{tree_entries}
use Rattle.cel_value.proofs.Tails.{moved}
use Rattle.cel_value.proofs.value.stored.make_room.Goals as goal

pub returns-in-Ok-clause-same : goal.returns-in-Ok-clause-same
returns-in-Ok-clause-same c =
    let rest = c.args.rest.now.items in
    let front = c.pop.new.self.items in
    let last : rest ≡ front ++ (c.in-Some.key, c.in-Some.value) ∷ [] = c.pop.ensures.items ∙ ap (λ o. front ++ option_to_list o) c.in-Some.is in
    moved rest front (tree_entries c.args.tail.now) (tree_entries c.put_in_tree.new.tail) c.in-Some.key c.in-Some.value c.requires.sorted last c.in-Ok.ensures.entries
