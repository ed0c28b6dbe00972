-- Trusted by the clauses of other library calls.
-- Which lexemes may follow which (Go's package `regexp/syntax`, "Syntax"): an operator of
-- repetition stands behind what can be repeated, and not behind another operator; the product of
-- counts inside one another is at most 1000.
use Rattle.std.specs.Prelude.{ℕ, ◌*◌, max, nat_lt, Option, Some, None, Result, Ok, Err, if◌then◌else◌}
use Rattle.kube_server_patterns.specs.declared.group.Before.{Before}
use Rattle.kube_server_patterns.specs.declared.group.Before.TheVariants as before
use Rattle.kube_server_patterns.specs.declared.group.Group.{Group}
use Rattle.kube_server_patterns.specs.declared.lexeme.Flags.{Flags}
use Rattle.kube_server_patterns.specs.declared.lexeme.Lexeme.{Lexeme}
use Rattle.kube_server_patterns.specs.declared.lexeme.Lexeme.TheVariants.{Repeat, Or, Set, Quote, Unquote}
use Rattle.kube_server_patterns.specs.declared.lexeme.Repetition.{Repetition}
use Rattle.kube_server_patterns.specs.declared.refusal.Limit.TheVariants.{RepeatedRepetition}
use Rattle.kube_server_patterns.specs.declared.refusal.Refusal.{Refusal}
use Rattle.kube_server_patterns.specs.declared.refusal.Refusal.TheVariants.{Invalid, Unsupported}

-- the copies of what is repeated, as far as they are limited
abbrev pub copies_of : ℕ → Option ℕ → ℕ
copies_of least (Some most) = most
copies_of least None = max least 1

abbrev pub copies : Repetition → ℕ
copies r = copies_of r.least r.most

-- a group at its beginning
abbrev pub new_group : Flags → Group
new_group flags = record { flags = flags; before = before.Nothing; last = 1; most = 1 }

-- after an item in which counts have this product
abbrev pub with_item : Group → ℕ → Group
with_item g n = record g { before = before.Item; last = n; most = max g.most n }

abbrev pub with_bar : Group → Group
with_bar g = record g { before = before.Nothing; last = 1 }

abbrev pub before_settings : Before → Before
before_settings before.Repetition = before.Settings
before_settings b = b

-- after what matches nothing and can't be repeated
abbrev pub with_settings : Group → Flags → Group
with_settings g flags = record g { flags = flags; before = before_settings g.before }

abbrev pub with_product : Group → ℕ → Result Group Refusal
with_product g n =
    if nat_lt 1000 n then Err Invalid
    else Ok (record g { before = before.Repetition; last = n; most = max g.most n })

abbrev pub repeated_after : Before → Group → Repetition → Result Group Refusal
repeated_after before.Item g r = with_product g (copies r * g.last)
repeated_after before.Settings g r = Err (Unsupported RepeatedRepetition)
repeated_after _ g r = Err Invalid

-- after an operator of repetition
abbrev pub with_repetition : Group → Repetition → Result Group Refusal
with_repetition g r = repeated_after g.before g r

-- the group after a lexeme that neither begins nor ends a group
abbrev pub with_lexeme : Group → Lexeme → Result Group Refusal
with_lexeme g (Repeat r) = with_repetition g r
with_lexeme g Or = Ok (with_bar g)
with_lexeme g (Set flags) = Ok (with_settings g flags)
with_lexeme g Quote = Ok (with_settings g g.flags)
with_lexeme g Unquote = Ok (with_settings g g.flags)
with_lexeme g _ = Ok (with_item g 1)
