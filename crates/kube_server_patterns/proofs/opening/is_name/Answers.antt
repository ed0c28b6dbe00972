use Rattle.std.proofs.Common.{◌≡◌, arith, rules, tests, true, false, ap, not, length}
use Rattle.std.specs.Prelude.{nat_lt}
use Rattle.std.specs.List.{list_all}
use Rattle.std.proofs.lemmas.Bool.Decides.{nat_tests}
use Rattle.std.proofs.lemmas.Iterator.{YieldsList-from_slice}
use Rattle.std.proofs.lemmas.Iterator.Search.{all_from_yields_List}
use Rattle.kube_server_patterns.specs.Openings.{is_in_name, is_name}
use Rattle.kube_server_patterns.proofs.opening.is_name.Goals as goal

pub returns-then-not-is_empty : goal.returns-then-not-is_empty
unfolding is_name
returns-then-not-is_empty c =
    let every : c.all.result ≡ list_all is_in_name c.args.name.now = all_from_yields_List is_in_name _ _ c.all.result c.all.ensures.ran (YieldsList-from_slice c.args.name.now cc) (λ x b q k. search (rules, tests)) in
    let more : nat_lt 0 (length c.args.name.now) ≡ true = grind (arith, nat_tests) in
    rw (more, every)

pub returns-else-not-is_empty : goal.returns-else-not-is_empty
unfolding is_name
returns-else-not-is_empty c =
    let none : nat_lt 0 (length c.args.name.now) ≡ false = grind (arith, nat_tests) in
    rw none (ap not c.if-not-is_empty.false)
