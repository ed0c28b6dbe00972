use Rattle.std.proofs.Common.{◌∙◌}
use Rattle.cel_stdlib.proofs.Numerals.{int_read}
use Rattle.cel_stdlib.proofs.conversions.read_int.Goals as goal

pub returns : goal.returns
returns c = c.ok.ensures.value ∙ int_read c.args.text.now c.parse.result c.parse.ensures.value.0
