use Rattle.std.proofs.Common.{◌∙◌}
use Rattle.kube_functions.specs.Table.{globals}
use Rattle.cel_stdlib.proofs.ByLength.{named_by_length}
use Rattle.kube_functions.proofs.table.global_named.Goals as goal

pub returns-in-2 : goal.returns-in-2
returns-in-2 c = c.globals_of_two.ensures ∙ named_by_length 2 c.args.name.now globals c.in-2.is

pub returns-in-3 : goal.returns-in-3
returns-in-3 c = c.globals_of_three.ensures ∙ named_by_length 3 c.args.name.now globals c.in-3.is

pub returns-in-4 : goal.returns-in-4
returns-in-4 c = c.globals_of_four.ensures ∙ named_by_length 4 c.args.name.now globals c.in-4.is

pub returns-in-5 : goal.returns-in-5
returns-in-5 c = c.globals_of_five.ensures ∙ named_by_length 5 c.args.name.now globals c.in-5.is

pub returns-in-6 : goal.returns-in-6
returns-in-6 c = c.globals_of_six.ensures ∙ named_by_length 6 c.args.name.now globals c.in-6.is

pub returns-in-8 : goal.returns-in-8
returns-in-8 c = c.globals_of_eight.ensures ∙ named_by_length 8 c.args.name.now globals c.in-8.is

pub returns-in-9 : goal.returns-in-9
returns-in-9 c = c.globals_of_nine.ensures ∙ named_by_length 9 c.args.name.now globals c.in-9.is

pub returns-in-10 : goal.returns-in-10
returns-in-10 c = c.globals_of_ten.ensures ∙ named_by_length 10 c.args.name.now globals c.in-10.is

pub returns-in-11 : goal.returns-in-11
returns-in-11 c = c.globals_of_eleven.ensures ∙ named_by_length 11 c.args.name.now globals c.in-11.is

pub returns-in-12 : goal.returns-in-12
returns-in-12 c = c.globals_of_twelve.ensures ∙ named_by_length 12 c.args.name.now globals c.in-12.is

pub returns-in-13 : goal.returns-in-13
returns-in-13 c = c.globals_of_thirteen.ensures ∙ named_by_length 13 c.args.name.now globals c.in-13.is

pub returns-in-14 : goal.returns-in-14
returns-in-14 c = c.globals_of_fourteen.ensures ∙ named_by_length 14 c.args.name.now globals c.in-14.is

pub returns-in-15 : goal.returns-in-15
returns-in-15 c = c.globals_of_fifteen.ensures ∙ named_by_length 15 c.args.name.now globals c.in-15.is

pub returns-in-17 : goal.returns-in-17
returns-in-17 c = c.globals_of_seventeen.ensures ∙ named_by_length 17 c.args.name.now globals c.in-17.is

pub returns-in-18 : goal.returns-in-18
returns-in-18 c = c.globals_of_eighteen.ensures ∙ named_by_length 18 c.args.name.now globals c.in-18.is

pub returns-in-19 : goal.returns-in-19
returns-in-19 c = c.globals_of_nineteen.ensures ∙ named_by_length 19 c.args.name.now globals c.in-19.is

pub returns-in-20 : goal.returns-in-20
returns-in-20 c = c.globals_of_twenty.ensures ∙ named_by_length 20 c.args.name.now globals c.in-20.is

pub returns-in-23 : goal.returns-in-23
returns-in-23 c = c.globals_of_twenty_three.ensures ∙ named_by_length 23 c.args.name.now globals c.in-23.is

pub returns-in-25 : goal.returns-in-25
returns-in-25 c = c.globals_of_twenty_five.ensures ∙ named_by_length 25 c.args.name.now globals c.in-25.is

pub returns-in-29 : goal.returns-in-29
returns-in-29 c = c.globals_of_twenty_nine.ensures ∙ named_by_length 29 c.args.name.now globals c.in-29.is
