use Rattle.kube_server_patterns_laws.proofs.Sets.{by_name_read, by_letter_read, in_brackets_read, of_dots_read}
use Rattle.kube_server_patterns_laws.proofs.laws.classes.Goals as goal

pub returns : goal.returns
returns c = record {
  by_name = by_name_read;
  by_letter = by_letter_read;
  in_brackets = in_brackets_read;
  of_dots = of_dots_read;
}
