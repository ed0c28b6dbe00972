use Rattle.std.proofs.Common.{◌≤◌, ◌^◌, ◌∙◌, subst}
use Rattle.std.specs.Char.{digit_value}
use Rattle.kube_functions_format.specs.Pieces.{with_digit}
use Rattle.kube_functions_format.proofs.Precisions.{digit_more, too_large}
use Rattle.kube_functions_format.proofs.reading.read_precision.Goals as goal

pub returns-in-None-with_digit : goal.returns-in-None-with_digit
returns-in-None-with_digit c cs =
    let digit = c.in-Some.ensures.value in
    let large = subst (λ d. 2 ^ 64 ≤ with_digit c.args.number d) digit.1 c.in-None-with_digit.ensures in
    digit_more c.args.number c.args.character cs digit.0 ∙ too_large (with_digit c.args.number (digit_value c.args.character)) cs large
