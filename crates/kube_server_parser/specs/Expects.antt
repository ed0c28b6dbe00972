-- Trusted by laws alone.
-- What the machine takes in a state, by its mode and its innermost frames that wait for nothing.
use Rattle.std.specs.Prelude.{ℕ, nat_le, Bool, true, false, if◌then◌else◌, Option, Some, None, List, [], ◌∷◌}
use Rattle.cel_syntax.specs.UnaryOperator.TheVariants as u
use Rattle.kube_server_syntax.specs.Machine.{Frame, in_round, in_list, in_key, in_value, in_arguments, in_index, after_sign, after_operator, after_question, after_colon, Mode, needs, opened, more, ended, minus, named, has, dotted, dot_marked, fielded, indexed}
use Rattle.kube_server_parser.specs.declared.expected.Closing.{Closing}
use Rattle.kube_server_parser.specs.declared.expected.Closing.TheVariants as closing
use Rattle.kube_server_parser.specs.declared.expected.Expected.{Expected}
use Rattle.kube_server_parser.specs.declared.expected.Expected.TheVariants as expect

-- Whether the frame waits for an operand within its bracket: a sign, an operator, and the second
-- branch of a condition; with a level, a sign or an operator up to this level.
abbrev pub waits : Option ℕ → Frame → Bool
waits l (after_sign s p) = true
waits None (after_operator a op k) = true
waits (Some l) (after_operator a op k) = nat_le k l
waits None (after_colon c a) = true
waits _ f = false

-- the frames from the innermost one on that doesn't wait
abbrev pub settled : Option ℕ → List Frame → List Frame
settled l [] = []
settled l (f ∷ fs) = if waits l f then settled l fs else f ∷ fs

abbrev pub asks : List Frame → Bool
asks (after_question c ∷ fs) = true
asks _ = false

-- whether an operand belongs to the first branch of a condition
abbrev pub is_asking : List Frame → Bool
is_asking fs = asks (settled (Some 5) fs)

abbrev pub closing_of : List Frame → Closing
closing_of [] = closing.Text
closing_of (in_round p ∷ fs) = closing.Round
closing_of (in_list p is o ∷ fs) = closing.Item
closing_of (in_key p es o ∷ fs) = closing.Key
closing_of (in_value p es o a ∷ fs) = closing.Value
closing_of (in_arguments p a x us ∷ fs) = closing.Argument
closing_of (in_index a o ∷ fs) = closing.Index
closing_of (f ∷ fs) = closing.Branch

-- what ends the part that an operand belongs to
abbrev pub ending : List Frame → Closing
ending fs = if is_asking fs then closing.Branch else closing_of (settled None fs)

-- whether nothing is open but what waits
abbrev pub is_text : Closing → Bool
is_text closing.Text = true
is_text _ = false

abbrev pub is_whole : List Frame → Bool
is_whole fs = is_text (closing_of (settled None fs))

-- the first part of the innermost bracket
abbrev pub first_part : List Frame → Expected
first_part (in_list p is o ∷ fs) = expect.FirstItem
first_part (in_key p es o ∷ fs) = expect.FirstKey
first_part (in_arguments p a x us ∷ fs) = expect.FirstArgument
first_part _ = expect.Operand

-- another part
abbrev pub next_part : List Frame → Expected
next_part (in_list p is o ∷ fs) = expect.NextItem
next_part (in_key p es o ∷ fs) = expect.NextKey
next_part _ = expect.Operand

-- its end
abbrev pub its_end : List Frame → Expected
its_end (in_key p es o ∷ fs) = expect.EndOfMap
its_end (in_arguments p a x us ∷ fs) = expect.FirstArgument
its_end _ = expect.EndOfList

-- an operand behind a minus; behind `!-` it is a number
abbrev pub after_minus : List Frame → Expected
after_minus (after_sign u.Not p ∷ fs) = expect.Number
after_minus _ = expect.Operand

abbrev pub expected : Mode → List Frame → Expected
expected needs fs = expect.Operand
expected opened fs = first_part fs
expected more fs = next_part fs
expected ended fs = its_end fs
expected (minus p) fs = after_minus fs
expected (named p x) fs = expect.After (ending fs)
expected (has t) fs = expect.After (ending fs)
expected (dotted t) fs = expect.Member
expected (dot_marked t) fs = expect.Field
expected (fielded t p x) fs = expect.After (ending fs)
expected (indexed t) fs = expect.Index
