use Rattle.std.proofs.Common.{rules, length}
use Rattle.std.specs.Str.{chars}
use Rattle.kube_functions_strings.proofs.Between.{no_characters, some_characters, no_bytes, some_bytes, first_of_none, first_of_some}
use Rattle.kube_functions_strings.proofs.offsets.first_index.Goals as goal

pub returns-then-is_empty : goal.returns-then-is_empty
returns-then-is_empty c =
    let part = c.args.part.now in
    first_of_none (chars c.args.text.now) (chars part) c.args.start _ (no_characters part c.utf8.part (no_bytes c.is_empty.result (length part) c.is_empty.ensures c.if-is_empty.true)) (search rules)

pub returns-else-is_empty : goal.returns-else-is_empty
returns-else-is_empty c =
    let part = c.args.part.now in
    first_of_some (chars c.args.text.now) (chars part) c.args.start _ (some_characters part c.utf8.part (some_bytes c.is_empty.result (length part) c.is_empty.ensures c.if-is_empty.false)) (search rules)
