use Rattle.std.specs.Str.Iter.{chars_rest}
use Rattle.kube_functions_strings.specs.Cuts.{IsPast}
use Rattle.kube_functions_strings.proofs.cuts.past_characters.Given as goal

abbrev pub invariant-loop-offset : goal.invariant-loop-offset
invariant-loop-offset l = record {
  next : (goal.iterator-loop-offset).can_next l.characters;
  past : IsPast l.text l.offset (chars_rest l.characters);
}
