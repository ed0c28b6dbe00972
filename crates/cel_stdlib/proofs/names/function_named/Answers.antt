use Rattle.std.proofs.Common.{◌∙◌}
use Rattle.cel_stdlib.specs.Table.{standard_functions}
use Rattle.cel_stdlib.proofs.ByLength.{named_by_length}
use Rattle.cel_stdlib.proofs.names.function_named.Goals as goal

pub returns-in-3 : goal.returns-in-3
returns-in-3 c = c.functions_of_three.ensures ∙ named_by_length 3 c.args.name.now standard_functions c.in-3.is

pub returns-in-4 : goal.returns-in-4
returns-in-4 c = c.functions_of_four.ensures ∙ named_by_length 4 c.args.name.now standard_functions c.in-4.is

pub returns-in-5 : goal.returns-in-5
returns-in-5 c = c.functions_of_five.ensures ∙ named_by_length 5 c.args.name.now standard_functions c.in-5.is

pub returns-in-6 : goal.returns-in-6
returns-in-6 c = c.only.ensures ∙ named_by_length 6 c.args.name.now standard_functions c.in-6.is

pub returns-in-7 : goal.returns-in-7
returns-in-7 c = c.only-in-7.ensures ∙ named_by_length 7 c.args.name.now standard_functions c.in-7.is

pub returns-in-8 : goal.returns-in-8
returns-in-8 c = c.functions_of_eight.ensures ∙ named_by_length 8 c.args.name.now standard_functions c.in-8.is

pub returns-in-9 : goal.returns-in-9
returns-in-9 c = c.only-in-9.ensures ∙ named_by_length 9 c.args.name.now standard_functions c.in-9.is

pub returns-in-10 : goal.returns-in-10
returns-in-10 c = c.only-in-10.ensures ∙ named_by_length 10 c.args.name.now standard_functions c.in-10.is
