use Rattle.kube_functions_strings.proofs.Occurring.{around_first_found, first_utf8}
use Rattle.kube_functions_strings.proofs.cuts.around_first.Goals as goal

pub returns : goal.returns
returns c =
    let found = c.split_once.ensures.cases in
    record {
      value = around_first_found c.args.text.now c.args.part.now c.split_once.result c.utf8.text c.utf8.part found;
      utf8 = first_utf8 c.args.text.now c.args.part.now c.split_once.result c.utf8.text c.utf8.part found;
    }
