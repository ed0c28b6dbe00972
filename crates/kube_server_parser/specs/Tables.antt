-- Trusted by laws alone.
-- What the code looks up before it changes anything.
use Rattle.std.specs.Prelude.{◌≡◌, ℕ, Bool, true, false, not, ◌||◌, List, ◌∷◌, Option, Some, None, Result, Ok, Err}
use Rattle.cel_syntax.specs.Token.{Token, word, punctuator}
use Rattle.cel_syntax.specs.Punctuator.{Punctuator}
use Rattle.cel_syntax.specs.Punctuator.TheVariants as m
use Rattle.cel_syntax.specs.BinaryOperator.TheVariants as b
use Rattle.cel_syntax.specs.UnaryOperator.{UnaryOperator}
use Rattle.cel_syntax.specs.UnaryOperator.TheVariants as u
use Rattle.kube_server_syntax.specs.Machine as machine
use Rattle.kube_server_syntax.specs.Machine.{Frame, State, in_list, in_key, in_arguments, after_sign}
use Rattle.kube_server_syntax.specs.Placed.{Placed}
use Rattle.kube_server_syntax.specs.Tree.{Tree}
use Rattle.kube_server_syntax.specs.declared.node.Place.{Place}
use Rattle.cel_syntax.specs.Words.{is_selector}
use Rattle.kube_server_parser.specs.Expects as expects
use Rattle.kube_server_parser.specs.Expects.{is_asking, settled, closing_of}
use Rattle.kube_server_parser.specs.declared.expected.Expected.{Expected}
use Rattle.kube_server_parser.specs.declared.expected.Expected.TheVariants as expect
use Rattle.kube_server_parser.specs.declared.mode.Mode.{Mode}
use Rattle.kube_server_parser.specs.declared.mode.Mode.TheVariants as mode
use Rattle.kube_server_parser.specs.declared.part.Part.{Part}
use Rattle.kube_server_parser.specs.declared.stop.Stop.{Stop}
use Rattle.kube_server_parser.specs.declared.stop.Stop.TheVariants as stop
use Rattle.kube_server_parser.specs.declared.expected.Closing.{Closing}
use Rattle.kube_server_parser.specs.declared.expected.Closing.TheVariants as closing
use Rattle.kube_server_parser.specs.declared.links.Link.{Link}
use Rattle.kube_server_parser.specs.declared.links.Link.TheVariants as link
use Rattle.kube_server_parser.specs.declared.brackets.Holder.{Holder}
use Rattle.kube_server_parser.specs.declared.brackets.Holder.TheVariants as holder
use Rattle.kube_server_parser.specs.declared.brackets.Inside.{Inside}
use Rattle.kube_server_parser.specs.declared.brackets.Inside.TheVariants as inside

-- whether the mark ends or separates parts
abbrev pub ends : Closing → Punctuator → Bool
ends closing.Round m.CloseRound = true
ends closing.Argument m.CloseRound = true
ends closing.Argument m.Comma = true
ends closing.Index m.CloseSquare = true
ends closing.Item m.CloseSquare = true
ends closing.Item m.Comma = true
ends closing.Key m.Colon = true
ends closing.Value m.CloseBrace = true
ends closing.Value m.Comma = true
ends _ k = false

-- whether an operand may be followed by the mark
abbrev pub takes : List Frame → Punctuator → Bool
takes fs m.Question = not (is_asking fs)
takes fs m.Colon = is_asking fs || ends (closing_of (settled None fs)) m.Colon
takes fs k = ends (closing_of (settled None fs)) k

-- what the mark is behind an operand
abbrev pub link_of : Punctuator → Link
link_of m.Dot = link.Dot
link_of m.OpenSquare = link.Index
link_of m.Star = link.Operator 1 b.Multiply
link_of m.Slash = link.Operator 1 b.Divide
link_of m.Percent = link.Operator 1 b.Remainder
link_of m.Plus = link.Operator 2 b.Add
link_of m.Minus = link.Operator 2 b.Subtract
link_of m.Less = link.Operator 3 b.Less
link_of m.LessOrEqual = link.Operator 3 b.LessOrEqual
link_of m.Greater = link.Operator 3 b.Greater
link_of m.GreaterOrEqual = link.Operator 3 b.GreaterOrEqual
link_of m.Equal = link.Operator 3 b.Equal
link_of m.NotEqual = link.Operator 3 b.NotEqual
link_of m.And = link.Operator 4 b.And
link_of m.Or = link.Operator 5 b.Or
link_of k = link.End k

-- whether an operand may be followed by this
abbrev pub goes_on : List Frame → Link → Bool
goes_on fs (link.End k) = takes fs k
goes_on fs _ = true

-- the state after a link, an operator, or what ends the part
abbrev pub linked : Link → List Frame → Tree → Place → Option State
linked link.Dot fs t q = Some (machine.dotted t, fs)
linked link.Index fs t q = Some (machine.indexed t, fs)
linked (link.Operator l op) fs t q = Some (machine.operator_by l op (machine.reduced l fs t))
linked (link.End k) fs t q = machine.end_of_part fs t k q

-- ---- brackets without a part, or behind a comma

-- what the innermost bracket is
abbrev pub holder_of : List Frame → Holder
holder_of (in_list p is o ∷ fs) = holder.List
holder_of (in_key p es o ∷ fs) = holder.Map
holder_of (in_arguments p a x us ∷ fs) = holder.Arguments
holder_of _ = holder.Other

abbrev pub by_mark : Holder → Punctuator → Inside
by_mark holder.List m.CloseSquare = inside.End
by_mark holder.List m.Question = inside.Mark
by_mark holder.List m.Comma = inside.Comma
by_mark holder.Map m.CloseBrace = inside.End
by_mark holder.Map m.Question = inside.Mark
by_mark holder.Map m.Comma = inside.Comma
by_mark holder.Arguments m.CloseRound = inside.End
by_mark h k = inside.Operand

-- what the token is there
abbrev pub in_holder : Holder → Token → Inside
in_holder h (punctuator k) = by_mark h k
in_holder h _ = inside.Operand

-- whether the sign may follow what waits
abbrev pub allows : List Frame → UnaryOperator → Bool
allows (after_sign u.Not p ∷ fs) u.Negate = false
allows (after_sign u.Negate p ∷ fs) u.Not = false
allows _ s = true

-- what it is behind a comma
abbrev pub in_more : Holder → Token → Inside
in_more holder.List t = in_holder holder.List t
in_more holder.Map t = in_holder holder.Map t
in_more _ t = inside.Operand

-- the end of the innermost bracket, which holds no further part
abbrev pub end_empty : List Frame → Place → Option State
end_empty (in_list p is o ∷ fs) q = machine.end_by_mark (in_list p is o ∷ fs) m.CloseSquare q
end_empty (in_key p es o ∷ fs) q = machine.end_by_mark (in_key p es o ∷ fs) m.CloseBrace q
end_empty (in_arguments p t x us ∷ fs) q = machine.end_by_mark (in_arguments p t x us ∷ fs) m.CloseRound q
end_empty _ q = None

-- the question mark of a part
abbrev pub marked : List Frame → Option State
marked fs = machine.mark_by_mark fs m.Question

-- the state behind a tree that is complete
abbrev pub Completes : Result Part Stop → Result Mode Stop → Type 0
Completes (Ok p) r = r ≡ Ok (mode.Has p)
Completes (Err e) r = r ≡ Err e

-- ---- what the code finds

-- the token at a place
abbrev pub at : Token → Place → Placed
at t q = record { token = t; place = q }

-- what the token is behind an operand
abbrev pub IsLink : List Frame → Token → Result Link Stop → Type 0
IsLink fs t (Ok l) = (x : Tree) (q : Place)
    → (machine.after_member fs x (at t q) ≡ linked l fs x q) × ((linked l fs x q ≡ None) → ⊥)
IsLink fs t (Err (stop.Unexpected e)) = ((x : Tree) (q : Place) → machine.after_member fs x (at t q) ≡ None)
    × (e ≡ expect.After (expects.ending fs))
IsLink fs t (Err e) = ⊥

-- the name of a field
abbrev pub IsField : Token → Expected → Result (List ℕ) Stop → Type 0
IsField t e (Ok x) = (t ≡ word x) × (is_selector x ≡ true)
IsField t e (Err stop.Memory) = Unit {0}
IsField t e (Err stop.TooDeep) = ⊥
IsField t e (Err (stop.Unexpected f)) = ((p : Place) (s : List ℕ → State) → machine.field_by t p s ≡ None) × (f ≡ e)
