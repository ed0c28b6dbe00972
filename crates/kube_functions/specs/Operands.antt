-- Trusted by the headline.
-- The operands of a call: the receiver, if there is one, followed by the arguments.
-- The first and the second operand are in `Standard.antt` of `cel_stdlib`.
use Rattle.std.specs.Prelude.{ℕ, List, Option, Some, None}
use Rattle.cel_value.specs.Data.{Data}
use Rattle.cel_value.specs.View.{items_of}
use Rattle.cel_semantics.specs.Members.{nth_item}

-- the argument at an index, if any
abbrev pub nth : ℕ → List Data → Option Data
nth index args = nth_item index (items_of args)

abbrev pub third_operand : Option Data → List Data → Option Data
third_operand (Some v) args = nth 1 args
third_operand None args = nth 2 args

abbrev pub fourth_operand : Option Data → List Data → Option Data
fourth_operand (Some v) args = nth 2 args
fourth_operand None args = nth 3 args
