use Rattle.std.proofs.Common.{◌∙◌}
use Rattle.kube_functions.specs.Table.{methods}
use Rattle.cel_stdlib.proofs.ByLength.{named_by_length}
use Rattle.kube_functions.proofs.table.method_named.Goals as goal

pub returns-in-2 : goal.returns-in-2
returns-in-2 c = c.methods_of_two.ensures ∙ named_by_length 2 c.args.name.now methods c.in-2.is

pub returns-in-3 : goal.returns-in-3
returns-in-3 c = c.methods_of_three.ensures ∙ named_by_length 3 c.args.name.now methods c.in-3.is

pub returns-in-4 : goal.returns-in-4
returns-in-4 c = c.methods_of_four.ensures ∙ named_by_length 4 c.args.name.now methods c.in-4.is

pub returns-in-5 : goal.returns-in-5
returns-in-5 c = c.methods_of_five.ensures ∙ named_by_length 5 c.args.name.now methods c.in-5.is

pub returns-in-6 : goal.returns-in-6
returns-in-6 c = c.methods_of_six.ensures ∙ named_by_length 6 c.args.name.now methods c.in-6.is

pub returns-in-7 : goal.returns-in-7
returns-in-7 c = c.methods_of_seven.ensures ∙ named_by_length 7 c.args.name.now methods c.in-7.is

pub returns-in-8 : goal.returns-in-8
returns-in-8 c = c.methods_of_eight.ensures ∙ named_by_length 8 c.args.name.now methods c.in-8.is

pub returns-in-9 : goal.returns-in-9
returns-in-9 c = c.methods_of_nine.ensures ∙ named_by_length 9 c.args.name.now methods c.in-9.is

pub returns-in-10 : goal.returns-in-10
returns-in-10 c = c.methods_of_ten.ensures ∙ named_by_length 10 c.args.name.now methods c.in-10.is

pub returns-in-11 : goal.returns-in-11
returns-in-11 c = c.methods_of_eleven.ensures ∙ named_by_length 11 c.args.name.now methods c.in-11.is

pub returns-in-12 : goal.returns-in-12
returns-in-12 c = c.methods_of_twelve.ensures ∙ named_by_length 12 c.args.name.now methods c.in-12.is

pub returns-in-13 : goal.returns-in-13
returns-in-13 c = c.methods_of_thirteen.ensures ∙ named_by_length 13 c.args.name.now methods c.in-13.is

pub returns-in-14 : goal.returns-in-14
returns-in-14 c = c.methods_of_fourteen.ensures ∙ named_by_length 14 c.args.name.now methods c.in-14.is

pub returns-in-15 : goal.returns-in-15
returns-in-15 c = c.methods_of_fifteen.ensures ∙ named_by_length 15 c.args.name.now methods c.in-15.is

pub returns-in-18 : goal.returns-in-18
returns-in-18 c = c.methods_of_eighteen.ensures ∙ named_by_length 18 c.args.name.now methods c.in-18.is

pub returns-in-20 : goal.returns-in-20
returns-in-20 c = c.methods_of_twenty.ensures ∙ named_by_length 20 c.args.name.now methods c.in-20.is
