use Rattle.std.proofs.Common.{◌≡◌, arith, length}
use Rattle.std.specs.Str.{chars}
use Rattle.kube_functions_strings.specs.Cuts.{characters_passed}
use Rattle.kube_functions_strings.proofs.Between.{no_characters, some_characters, no_bytes, some_bytes}
use Rattle.kube_functions_strings.proofs.CutSteps.{next_of_none, next_of_other, passed_some, passed_first}
use Rattle.kube_functions_strings.proofs.splitting.around_next.Goals.{else-count-gt0-via-then-count-gt0+else-is_empty, else-count-gt0-via-else-count-gt0}
use Rattle.kube_functions_strings.proofs.splitting.around_next.Goals as goal

pub returns-then-is_empty-clause-value : goal.returns-then-is_empty-clause-value
returns-then-is_empty-clause-value c =
    let part = c.args.separator.now in
    next_of_none (chars c.args.text.now) (chars part) c.args.count c.around_offset.result (no_characters part c.utf8.separator (no_bytes c.is_empty.result (length part) c.is_empty.ensures c.if-is_empty.true)) (omega arith) c.around_offset.ensures.value

pub returns-else-count-gt0-clause-value : goal.returns-else-count-gt0-clause-value
returns-else-count-gt0-clause-value c =
    let part = c.args.separator.now in
    let none : characters_passed (chars part) c.args.count ≡ 0 = elim c.else-count-gt0.branch [
      | else-count-gt0-via-then-count-gt0+else-is_empty w ↦ passed_some (chars part) c.args.count (some_characters part c.utf8.separator (some_bytes w.is_empty.result (length part) w.is_empty.ensures w.if-is_empty.false))
      | else-count-gt0-via-else-count-gt0 w ↦ let h = w.if-count-gt0.false in passed_first (chars part) c.args.count (omega arith)
    ] in
    next_of_other (chars c.args.text.now) (chars part) c.args.count c.around_first.result none c.around_first.ensures.value
