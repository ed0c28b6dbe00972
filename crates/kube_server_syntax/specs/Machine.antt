-- Trusted by laws alone.
-- A machine that reads one token at a time. What it has read so far is in its frames, the innermost
-- first: brackets that are open, each with what it holds already, and between them operators and
-- conditions that wait for what follows.
use Rattle.std.specs.Prelude.{ℕ, nat_le, Bool, true, false, if◌then◌else◌, List, [], ◌∷◌, ◌++◌, Option, Some, None, option_map}
use Rattle.cel_value.specs.Data.{Data}
use Rattle.cel_syntax.specs.Token.{Token, word, number, quoted, punctuator}
use Rattle.cel_syntax.specs.Literal.{takes_minus, literal_value}
use Rattle.cel_syntax.specs.Punctuator.{Punctuator}
use Rattle.cel_syntax.specs.Punctuator.TheVariants as m
use Rattle.cel_syntax.specs.UnaryOperator.{UnaryOperator}
use Rattle.cel_syntax.specs.UnaryOperator.TheVariants as u
use Rattle.cel_syntax.specs.BinaryOperator.{BinaryOperator}
use Rattle.cel_syntax.specs.Words.{is_identifier, is_selector}
use Rattle.cel_syntax.specs.Operator.{operator}
use Rattle.kube_server_syntax.specs.Placed.{Placed, across}
use Rattle.kube_server_syntax.specs.Tree as tree
use Rattle.kube_server_syntax.specs.Tree.{Tree, Trees, place_of, trees_of, items_of, entries_of}
use Rattle.kube_server_syntax.specs.declared.node.Place.{Place}

pub data Frame : Type 0 where
  -- `(`
  in_round : Place → Frame
  -- `[`, the items so far, and whether the next one has a question mark
  in_list : Place → List (Bool × Tree) → Bool → Frame
  -- `{`, the entries so far, and whether the next one has a question mark
  in_key : Place → List (Bool × Tree × Tree) → Bool → Frame
  -- the same behind a colon, with the key
  in_value : Place → List (Bool × Tree × Tree) → Bool → Tree → Frame
  -- where the call begins, its target, its name, and the arguments so far
  in_arguments : Place → Trees → List ℕ → List Tree → Frame
  -- what is indexed, and whether there is a question mark
  in_index : Tree → Bool → Frame
  -- a sign
  after_sign : UnaryOperator → Place → Frame
  -- a left operand, its operator, and the operator's level
  after_operator : Tree → BinaryOperator → ℕ → Frame
  -- a condition
  after_question : Tree → Frame
  -- a condition, and its branch if it is true
  after_colon : Tree → Tree → Frame

-- what comes next
pub data Mode : Type 0 where
  -- an operand
  needs : Mode
  -- the first part of what the innermost bracket holds, or its end
  opened : Mode
  -- another part, after a comma; in a list or a map, its end, too
  more : Mode
  -- the end of a list or a map, after a comma that is all that it holds
  ended : Mode
  -- an operand, after a minus
  minus : Place → Mode
  -- what follows an identifier
  named : Place → List ℕ → Mode
  -- what follows a member
  has : Tree → Mode
  -- what follows a dot, and a dot with a question mark
  dotted : Tree → Mode
  dot_marked : Tree → Mode
  -- what follows the name of a field
  fielded : Tree → Place → List ℕ → Mode
  -- what follows the bracket of an index
  indexed : Tree → Mode

abbrev pub State : Type 0
State = Mode × List Frame

-- ---- what is complete

abbrev pub signed : UnaryOperator → Place → Tree → Tree
signed s p t = tree.unary (across p (place_of t)) s t

abbrev pub operated : Tree → BinaryOperator → Tree → Tree
operated a op b = tree.binary (across (place_of a) (place_of b)) op a b

abbrev pub chosen : Tree → Tree → Tree → Tree
chosen c a b = tree.conditional (across (place_of c) (place_of b)) c a b

-- an operand with its signs, and with the operators of this level and below that wait for it
abbrev pub reduced : ℕ → List Frame → Tree → Tree × List Frame
reduced l [] t = (t, [])
reduced l (after_sign s p ∷ fs) t = reduced l fs (signed s p t)
reduced l (after_operator a op k ∷ fs) t =
    if nat_le k l then reduced l fs (operated a op t) else (t, after_operator a op k ∷ fs)
reduced l (f ∷ fs) t = (t, f ∷ fs)

-- an operand with all that waits for it within its bracket
abbrev pub closed : List Frame → Tree → Tree × List Frame
closed [] t = (t, [])
closed (after_sign s p ∷ fs) t = closed fs (signed s p t)
closed (after_operator a op k ∷ fs) t = closed fs (operated a op t)
closed (after_colon c a ∷ fs) t = closed fs (chosen c a t)
closed (f ∷ fs) t = (t, f ∷ fs)

-- ---- steps

abbrev pub by_sign : UnaryOperator → UnaryOperator → Option Frame → Option Frame
by_sign u.Not u.Not o = o
by_sign u.Negate u.Negate o = o
by_sign _ _ o = None

-- the signs of an operand are of one kind
abbrev pub sign_after : List Frame → UnaryOperator → Place → Option Frame
sign_after (after_sign s q ∷ fs) t p = by_sign s t (Some (after_sign t p))
sign_after fs t p = Some (after_sign t p)

abbrev pub begin_by_mark : Punctuator → Place → List Frame → Option State
begin_by_mark m.OpenRound p fs = Some (needs, in_round p ∷ fs)
begin_by_mark m.OpenSquare p fs = Some (opened, in_list p [] false ∷ fs)
begin_by_mark m.OpenBrace p fs = Some (opened, in_key p [] false ∷ fs)
begin_by_mark m.Not p fs = option_map (λ f. (needs, f ∷ fs)) (sign_after fs u.Not p)
begin_by_mark m.Minus p fs = Some (minus p, fs)
begin_by_mark _ p fs = None

abbrev pub begin_by_token : Token → Place → List Frame → Option State
begin_by_token (word x) p fs = if is_identifier x then Some (named p x, fs) else None
begin_by_token (number s) p fs = None
begin_by_token (quoted s) p fs = None
begin_by_token (punctuator k) p fs = begin_by_mark k p fs

abbrev pub literal_or : Option Data → Place → List Frame → Option State → Option State
literal_or (Some v) p fs other = Some (has (tree.literal p v), fs)
literal_or None p fs other = other

-- the first token of an operand
abbrev pub begin : List Frame → Placed → Option State
begin fs k = literal_or (literal_value false k.token) k.place fs (begin_by_token k.token k.place fs)

abbrev pub begin_signed : Option Frame → List Frame → Placed → Option State
begin_signed None fs k = None
begin_signed (Some f) fs k = begin (f ∷ fs) k

-- what follows a minus: the number of a literal, or an operand
abbrev pub after_minus : Place → List Frame → Placed → Option State
after_minus p fs k =
    if takes_minus k.token then literal_or (literal_value true k.token) (across p k.place) fs None
    else begin_signed (sign_after fs u.Negate p) fs k

abbrev pub mark_of : Token → Option Punctuator
mark_of (punctuator k) = Some k
mark_of _ = None

-- the closing bracket of what holds no further part
abbrev pub end_by_mark : List Frame → Punctuator → Place → Option State
end_by_mark (in_list p is o ∷ fs) m.CloseSquare q = Some (has (tree.list_of (across p q) (items_of is)), fs)
end_by_mark (in_key p es o ∷ fs) m.CloseBrace q = Some (has (tree.map_of (across p q) (entries_of es)), fs)
end_by_mark (in_arguments p t x us ∷ fs) m.CloseRound q = Some (has (tree.call (across p q) t x (trees_of us)), fs)
end_by_mark _ k q = None

-- a question mark before an item or an entry
abbrev pub mark_by_mark : List Frame → Punctuator → Option State
mark_by_mark (in_list p is o ∷ fs) m.Question = Some (needs, in_list p is true ∷ fs)
mark_by_mark (in_key p es o ∷ fs) m.Question = Some (needs, in_key p es true ∷ fs)
mark_by_mark _ k = None

-- a comma that is all that a list or a map holds
abbrev pub comma_by_mark : List Frame → Punctuator → Option State
comma_by_mark (in_list p is o ∷ fs) m.Comma = Some (ended, in_list p is o ∷ fs)
comma_by_mark (in_key p es o ∷ fs) m.Comma = Some (ended, in_key p es o ∷ fs)
comma_by_mark _ k = None

abbrev pub first_of : Option State → Option State → Option State
first_of None o = o
first_of (Some s) o = Some s

abbrev pub if_mark : Option Punctuator → (Punctuator → Option State) → Option State
if_mark None f = None
if_mark (Some k) f = f k

-- whether the innermost bracket may end behind a comma
abbrev pub ends_behind_comma : List Frame → Bool
ends_behind_comma (in_list p is o ∷ fs) = true
ends_behind_comma (in_key p es o ∷ fs) = true
ends_behind_comma _ = false

abbrev pub step_opened : List Frame → Placed → Option State
step_opened fs k = first_of (if_mark (mark_of k.token) (λ n. first_of (end_by_mark fs n k.place)
    (first_of (mark_by_mark fs n) (comma_by_mark fs n)))) (begin fs k)

abbrev pub step_more : List Frame → Placed → Option State
step_more fs k = first_of (if_mark (mark_of k.token) (λ n.
    if ends_behind_comma fs then first_of (end_by_mark fs n k.place) (mark_by_mark fs n) else None)) (begin fs k)

abbrev pub step_ended : List Frame → Placed → Option State
step_ended fs k = if_mark (mark_of k.token) (λ n. end_by_mark fs n k.place)

-- what follows a complete part of a bracket
abbrev pub part_by_mark : Tree × List Frame → Punctuator → Place → Option State
part_by_mark (t, in_round p ∷ fs) m.CloseRound q = Some (has (tree.round (across p q) t), fs)
part_by_mark (t, in_arguments p a x us ∷ fs) m.CloseRound q =
    Some (has (tree.call (across p q) a x (trees_of (us ++ t ∷ []))), fs)
part_by_mark (t, in_arguments p a x us ∷ fs) m.Comma q = Some (needs, in_arguments p a x (us ++ t ∷ []) ∷ fs)
part_by_mark (t, in_index a o ∷ fs) m.CloseSquare q = Some (has (tree.index (across (place_of a) q) a o t), fs)
part_by_mark (t, in_list p is o ∷ fs) m.CloseSquare q =
    Some (has (tree.list_of (across p q) (items_of (is ++ (o, t) ∷ []))), fs)
part_by_mark (t, in_list p is o ∷ fs) m.Comma q = Some (more, in_list p (is ++ (o, t) ∷ []) false ∷ fs)
part_by_mark (t, in_key p es o ∷ fs) m.Colon q = Some (needs, in_value p es o t ∷ fs)
part_by_mark (t, in_value p es o a ∷ fs) m.CloseBrace q =
    Some (has (tree.map_of (across p q) (entries_of (es ++ (o, a, t) ∷ []))), fs)
part_by_mark (t, in_value p es o a ∷ fs) m.Comma q = Some (more, in_key p (es ++ (o, a, t) ∷ []) false ∷ fs)
part_by_mark _ k q = None

-- a condition, unless one waits for its branch already
abbrev pub question_by : Tree × List Frame → Option State
question_by (t, after_question c ∷ fs) = None
question_by (t, fs) = Some (needs, after_question t ∷ fs)

-- a colon: that of a condition, or behind a key
abbrev pub colon_by : Tree × List Frame → Place → Option State
colon_by (t, after_question c ∷ fs) q = Some (needs, after_colon c t ∷ fs)
colon_by (t, fs) q = part_by_mark (closed fs t) m.Colon q

abbrev pub end_of_part : List Frame → Tree → Punctuator → Place → Option State
end_of_part fs t m.Question q = question_by (reduced 5 fs t)
end_of_part fs t m.Colon q = colon_by (reduced 5 fs t) q
end_of_part fs t k q = part_by_mark (closed fs t) k q

abbrev pub operator_by : ℕ → BinaryOperator → Tree × List Frame → State
operator_by l op r = (needs, after_operator r.0 op l ∷ r.1)

abbrev pub operand_by : Option (ℕ × BinaryOperator) → List Frame → Tree → Placed → Option State
operand_by (Some o) fs t k = Some (operator_by o.0 o.1 (reduced o.0 fs t))
operand_by None fs t k = if_mark (mark_of k.token) (λ n. end_of_part fs t n k.place)

-- what follows a member: a link, an operator, or what ends the part
abbrev pub link_by : Option Punctuator → List Frame → Tree → Placed → Option State
link_by (Some m.Dot) fs t k = Some (dotted t, fs)
link_by (Some m.OpenSquare) fs t k = Some (indexed t, fs)
link_by _ fs t k = operand_by (operator k.token) fs t k

abbrev pub after_member : List Frame → Tree → Placed → Option State
after_member fs t k = link_by (mark_of k.token) fs t k

abbrev pub selected : Tree → Bool → Place → List ℕ → Tree
selected t o p x = tree.select (across (place_of t) p) t o x

abbrev pub field_by : Token → Place → (List ℕ → State) → Option State
field_by (word x) p f = if is_selector x then Some (f x) else None
field_by _ p f = None

abbrev pub dot_by : Option Punctuator → List Frame → Tree → Placed → Option State
dot_by (Some m.Question) fs t k = Some (dot_marked t, fs)
dot_by _ fs t k = field_by k.token k.place (λ x. (fielded t k.place x, fs))

abbrev pub round_by : Option Punctuator → State → Option State → Option State
round_by (Some m.OpenRound) s other = Some s
round_by _ s other = other

abbrev pub mark_by : Option Punctuator → State → Option State → Option State
mark_by (Some m.Question) s other = Some s
mark_by _ s other = other

-- the state after one more token, or None if no text goes on with it
abbrev pub step : Mode → List Frame → Placed → Option State
step needs fs k = begin fs k
step opened fs k = step_opened fs k
step more fs k = step_more fs k
step ended fs k = step_ended fs k
step (minus p) fs k = after_minus p fs k
step (named p x) fs k = round_by (mark_of k.token) (opened, in_arguments p tree.no_trees x [] ∷ fs)
    (after_member fs (tree.ident p x) k)
step (has t) fs k = after_member fs t k
step (dotted t) fs k = dot_by (mark_of k.token) fs t k
step (dot_marked t) fs k = field_by k.token k.place (λ x. (has (selected t true k.place x), fs))
step (fielded t p x) fs k = round_by (mark_of k.token)
    (opened, in_arguments (place_of t) (tree.tree_and t tree.no_trees) x [] ∷ fs)
    (after_member fs (selected t false p x) k)
step (indexed t) fs k = mark_by (mark_of k.token) (needs, in_index t true ∷ fs) (begin (in_index t false ∷ fs) k)

-- ---- whole texts

abbrev pub if_whole : Tree × List Frame → Option Tree
if_whole (t, []) = Some t
if_whole (t, f ∷ fs) = None

-- the tree at the end of the tokens, if the text is whole there
abbrev pub end : Mode → List Frame → Option Tree
end (named p x) fs = if_whole (closed fs (tree.ident p x))
end (has t) fs = if_whole (closed fs t)
end (fielded t p x) fs = if_whole (closed fs (selected t false p x))
end _ fs = None

abbrev pub start : State
start = (needs, [])

-- the state after some tokens
abbrev pub goes : Option State → (State → Option State) → Option State
goes None f = None
goes (Some s) f = f s

abbrev pub steps : List Placed → State → Option State
steps [] s = Some s
steps (k ∷ ks) s = goes (step s.0 s.1 k) (steps ks)

abbrev pub tree_at_end : Option State → Option Tree
tree_at_end None = None
tree_at_end (Some s) = end s.0 s.1

-- the tree of all tokens together
abbrev pub read : List Placed → Option Tree
read ks = tree_at_end (steps ks start)
