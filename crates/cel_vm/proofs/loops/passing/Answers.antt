use Rattle.std.proofs.Common.{Ok, true, false, ap, refl}
use Rattle.cel_syntax_ast.specs.declared.expr.MacroKind.TheVariants.{All, Exists, ExistsOne, Map, Filter}
use Rattle.cel_value.specs.Data.{bool}
use Rattle.cel_vm.specs.Machine.{after_iteration}
use Rattle.cel_vm.proofs.Rounds.{decides_nothing, keeps_nothing}
use Rattle.cel_vm.proofs.loops.passing.Goals as goal

pub returns-then-outcome : goal.returns-then-outcome
returns-then-outcome c = decides_nothing c.args.end.kind All false c.args.end.filtered c.args.outcome c.in-All.is c.if-outcome.true (λ p r vs k ab l ls. refl)

pub returns-else-outcome-2 : goal.returns-else-outcome-2
returns-else-outcome-2 c = decides_nothing c.args.end.kind Exists true c.args.end.filtered c.args.outcome c.in-Exists.is c.if-outcome-2.false (λ p r vs k ab l ls. refl)

pub returns-in-ExistsOne : goal.returns-in-ExistsOne
returns-in-ExistsOne c = keeps_nothing c.passing_by.result c.args.end.kind ExistsOne c.args.end.filtered c.args.outcome c.in-ExistsOne.is (λ p vs k ab l ls. refl) c.passing_by.ensures

pub returns-in-Filter : goal.returns-in-Filter
returns-in-Filter c = keeps_nothing c.passing_by-in-Filter.result c.args.end.kind Filter c.args.end.filtered c.args.outcome c.in-Filter.is (λ p vs k ab l ls. refl) c.passing_by-in-Filter.ensures

pub returns-then-end : goal.returns-then-end
returns-then-end c =
    keeps_nothing c.passing_by-then-end.result c.args.end.kind Map c.args.end.filtered c.args.outcome c.in-Map.is (λ p vs k ab l ls. ap (λ z. after_iteration Map z p (Ok (bool false)) vs k ab l ls) c.if-end.true) c.passing_by-then-end.ensures
