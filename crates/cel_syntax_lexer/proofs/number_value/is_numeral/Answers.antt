use Rattle.std.proofs.Common.{◌≡◌, arith, rules, tests, true, length}
use Rattle.std.specs.Prelude.{nat_lt}
use Rattle.std.specs.List.{list_all}
use Rattle.std.proofs.lemmas.Bool.Decides.{nat_tests}
use Rattle.std.proofs.lemmas.Iterator.{YieldsList-from_slice}
use Rattle.std.proofs.lemmas.Iterator.Search.{all_from_yields_List}
use Rattle.cel_syntax_lexer.specs.Number.{is_digit_in, is_numeral}
use Rattle.cel_syntax_lexer.proofs.number_value.is_numeral.Goals as goal

pub returns-then-not-is_empty : goal.returns-then-not-is_empty
unfolding is_numeral
returns-then-not-is_empty c =
    let every : c.all.result ≡ list_all (is_digit_in c.args.radix) c.args.digits.now = all_from_yields_List (is_digit_in c.args.radix) _ _ c.all.result c.all.ensures.ran (YieldsList-from_slice c.args.digits.now cc) (λ x b q k. search (rules, tests)) in
    let more : nat_lt 0 (length c.args.digits.now) ≡ true = grind (arith, nat_tests) in
    rw (more, every)
