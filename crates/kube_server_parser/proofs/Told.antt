-- What the machine takes is described.
use Rattle.std.proofs.Common.{◌≡◌, ◌∙◌, ℕ, refl, sym, ap, subst, Bool, true, false, if◌then◌else◌, ◌&&◌, ◌||◌, Option, Some, None, option_map, List, [], ◌∷◌}
use Rattle.std.specs.Prelude.{codes, is_some, nat_le}
use Rattle.std.specs.Str.{bytes_eq}
use Rattle.cel_value.specs.Data.{Data}
use Rattle.cel_syntax.specs.Literal.{takes_minus, literal_value}
use Rattle.cel_syntax.specs.Token.{Token, word, number, quoted, punctuator}
use Rattle.cel_syntax.specs.Punctuator.{Punctuator}
use Rattle.cel_syntax.specs.Punctuator.TheVariants as m
use Rattle.cel_syntax.specs.UnaryOperator.TheVariants as u
use Rattle.cel_syntax.specs.BinaryOperator.TheVariants as b
use Rattle.cel_syntax.specs.Words.{is_identifier, is_selector}
use Rattle.kube_server_syntax.specs.Machine as machine
use Rattle.kube_server_syntax.specs.Machine.{Frame, State, Mode, in_round, in_list, in_key, in_value, in_arguments, in_index, after_sign, after_operator, after_question, after_colon}
use Rattle.kube_server_syntax.specs.Placed.{Placed, across}
use Rattle.kube_server_syntax.specs.Tree as tree
use Rattle.kube_server_syntax.specs.Tree.{Tree}
use Rattle.kube_server_syntax.specs.declared.node.Place.{Place}
use Rattle.kube_server_parser.specs.Described.{begins_operand, begins_otherwise, opens, describes, goes_on_with, ends_part, is_operator_mark, is_field, is_question, is_comma, closes_list, closes_map, closes_call}
use Rattle.kube_server_parser.specs.Expects.{settled, asks, is_asking, closing_of, ending, first_part, next_part, its_end, after_minus, expected}
use Rattle.kube_server_parser.specs.Tables.{at, ends, takes, goes_on, link_of, linked}
use Rattle.kube_server_parser.specs.declared.expected.Closing.{Closing}
use Rattle.kube_server_parser.specs.declared.expected.Closing.TheVariants as closing
use Rattle.kube_server_parser.specs.declared.links.Link.TheVariants as link
use Rattle.kube_server_parser.proofs.Ends.{Is, linked_is, mark_linked, word_linked}

-- where there is a state, this is true
abbrev pub Told : Option State → Bool → Type 0
Told None d = Unit {0}
Told (Some s) d = d ≡ true

told_left : (o : Option State) (c d : Bool) → Told o c → Told o (c || d)
told_left None c d h = tt
told_left (Some s) c d h = ap (λ e. e || d) h

or_right : (c d : Bool) → d ≡ true → (c || d) ≡ true
or_right true d h = refl
or_right false d h = h

told_if : (c : Bool) (s : State) → Told (if c then Some s else None) c
told_if true s = refl
told_if false s = tt

-- ---- operands

mark_told : (k : Punctuator) (q : Place) (fs : List Frame) → Told (machine.begin_by_mark k q fs) (opens k)
mark_told m.OpenRound q fs = refl
mark_told m.OpenSquare q fs = refl
mark_told m.OpenBrace q fs = refl
mark_told m.Not q fs = by (machine.sign_after fs u.Not q)
  where
    by : (f : Option Frame) → Told (option_map (λ f. (machine.needs, f ∷ fs)) f) true
    by None = tt
    by (Some f) = refl
mark_told m.Minus q fs = refl
mark_told _ q fs = tt

token_told : (t : Token) (q : Place) (fs : List Frame) → Told (machine.begin_by_token t q fs) (begins_otherwise t)
token_told (word x) q fs = told_if (is_identifier x) (machine.named q x, fs)
token_told (number s) q fs = tt
token_told (quoted s) q fs = tt
token_told (punctuator k) q fs = mark_told k q fs

begin_told : (fs : List Frame) (t : Token) (q : Place) → Told (machine.begin fs (at t q)) (begins_operand t)
begin_told fs t q = by (literal_value false t)
  where
    by : (o : Option Data) → Told (machine.literal_or o q fs (machine.begin_by_token t q fs)) (is_some o || begins_otherwise t)
    by (Some v) = refl
    by None = token_told t q fs

-- ---- brackets

opened_told : (fs : List Frame) (t : Token) (q : Place) → Told (machine.step_opened fs (at t q)) (describes (first_part fs) t)
opened_told (in_list p is o ∷ fs) (punctuator m.OpenRound) q = told_left (machine.begin (in_list p is o ∷ fs) (at (punctuator m.OpenRound) q)) (begins_operand (punctuator m.OpenRound)) (is_question (punctuator m.OpenRound) || (is_comma (punctuator m.OpenRound) || closes_list (punctuator m.OpenRound))) (begin_told (in_list p is o ∷ fs) (punctuator m.OpenRound) q)
opened_told (in_list p is o ∷ fs) (punctuator m.CloseRound) q = told_left (machine.begin (in_list p is o ∷ fs) (at (punctuator m.CloseRound) q)) (begins_operand (punctuator m.CloseRound)) (is_question (punctuator m.CloseRound) || (is_comma (punctuator m.CloseRound) || closes_list (punctuator m.CloseRound))) (begin_told (in_list p is o ∷ fs) (punctuator m.CloseRound) q)
opened_told (in_list p is o ∷ fs) (punctuator m.OpenSquare) q = told_left (machine.begin (in_list p is o ∷ fs) (at (punctuator m.OpenSquare) q)) (begins_operand (punctuator m.OpenSquare)) (is_question (punctuator m.OpenSquare) || (is_comma (punctuator m.OpenSquare) || closes_list (punctuator m.OpenSquare))) (begin_told (in_list p is o ∷ fs) (punctuator m.OpenSquare) q)
opened_told (in_list p is o ∷ fs) (punctuator m.CloseSquare) q = refl
opened_told (in_list p is o ∷ fs) (punctuator m.OpenBrace) q = told_left (machine.begin (in_list p is o ∷ fs) (at (punctuator m.OpenBrace) q)) (begins_operand (punctuator m.OpenBrace)) (is_question (punctuator m.OpenBrace) || (is_comma (punctuator m.OpenBrace) || closes_list (punctuator m.OpenBrace))) (begin_told (in_list p is o ∷ fs) (punctuator m.OpenBrace) q)
opened_told (in_list p is o ∷ fs) (punctuator m.CloseBrace) q = told_left (machine.begin (in_list p is o ∷ fs) (at (punctuator m.CloseBrace) q)) (begins_operand (punctuator m.CloseBrace)) (is_question (punctuator m.CloseBrace) || (is_comma (punctuator m.CloseBrace) || closes_list (punctuator m.CloseBrace))) (begin_told (in_list p is o ∷ fs) (punctuator m.CloseBrace) q)
opened_told (in_list p is o ∷ fs) (punctuator m.Comma) q = refl
opened_told (in_list p is o ∷ fs) (punctuator m.Dot) q = told_left (machine.begin (in_list p is o ∷ fs) (at (punctuator m.Dot) q)) (begins_operand (punctuator m.Dot)) (is_question (punctuator m.Dot) || (is_comma (punctuator m.Dot) || closes_list (punctuator m.Dot))) (begin_told (in_list p is o ∷ fs) (punctuator m.Dot) q)
opened_told (in_list p is o ∷ fs) (punctuator m.Colon) q = told_left (machine.begin (in_list p is o ∷ fs) (at (punctuator m.Colon) q)) (begins_operand (punctuator m.Colon)) (is_question (punctuator m.Colon) || (is_comma (punctuator m.Colon) || closes_list (punctuator m.Colon))) (begin_told (in_list p is o ∷ fs) (punctuator m.Colon) q)
opened_told (in_list p is o ∷ fs) (punctuator m.Question) q = refl
opened_told (in_list p is o ∷ fs) (punctuator m.Not) q = told_left (machine.begin (in_list p is o ∷ fs) (at (punctuator m.Not) q)) (begins_operand (punctuator m.Not)) (is_question (punctuator m.Not) || (is_comma (punctuator m.Not) || closes_list (punctuator m.Not))) (begin_told (in_list p is o ∷ fs) (punctuator m.Not) q)
opened_told (in_list p is o ∷ fs) (punctuator m.Minus) q = told_left (machine.begin (in_list p is o ∷ fs) (at (punctuator m.Minus) q)) (begins_operand (punctuator m.Minus)) (is_question (punctuator m.Minus) || (is_comma (punctuator m.Minus) || closes_list (punctuator m.Minus))) (begin_told (in_list p is o ∷ fs) (punctuator m.Minus) q)
opened_told (in_list p is o ∷ fs) (punctuator m.Plus) q = told_left (machine.begin (in_list p is o ∷ fs) (at (punctuator m.Plus) q)) (begins_operand (punctuator m.Plus)) (is_question (punctuator m.Plus) || (is_comma (punctuator m.Plus) || closes_list (punctuator m.Plus))) (begin_told (in_list p is o ∷ fs) (punctuator m.Plus) q)
opened_told (in_list p is o ∷ fs) (punctuator m.Star) q = told_left (machine.begin (in_list p is o ∷ fs) (at (punctuator m.Star) q)) (begins_operand (punctuator m.Star)) (is_question (punctuator m.Star) || (is_comma (punctuator m.Star) || closes_list (punctuator m.Star))) (begin_told (in_list p is o ∷ fs) (punctuator m.Star) q)
opened_told (in_list p is o ∷ fs) (punctuator m.Slash) q = told_left (machine.begin (in_list p is o ∷ fs) (at (punctuator m.Slash) q)) (begins_operand (punctuator m.Slash)) (is_question (punctuator m.Slash) || (is_comma (punctuator m.Slash) || closes_list (punctuator m.Slash))) (begin_told (in_list p is o ∷ fs) (punctuator m.Slash) q)
opened_told (in_list p is o ∷ fs) (punctuator m.Percent) q = told_left (machine.begin (in_list p is o ∷ fs) (at (punctuator m.Percent) q)) (begins_operand (punctuator m.Percent)) (is_question (punctuator m.Percent) || (is_comma (punctuator m.Percent) || closes_list (punctuator m.Percent))) (begin_told (in_list p is o ∷ fs) (punctuator m.Percent) q)
opened_told (in_list p is o ∷ fs) (punctuator m.Less) q = told_left (machine.begin (in_list p is o ∷ fs) (at (punctuator m.Less) q)) (begins_operand (punctuator m.Less)) (is_question (punctuator m.Less) || (is_comma (punctuator m.Less) || closes_list (punctuator m.Less))) (begin_told (in_list p is o ∷ fs) (punctuator m.Less) q)
opened_told (in_list p is o ∷ fs) (punctuator m.LessOrEqual) q = told_left (machine.begin (in_list p is o ∷ fs) (at (punctuator m.LessOrEqual) q)) (begins_operand (punctuator m.LessOrEqual)) (is_question (punctuator m.LessOrEqual) || (is_comma (punctuator m.LessOrEqual) || closes_list (punctuator m.LessOrEqual))) (begin_told (in_list p is o ∷ fs) (punctuator m.LessOrEqual) q)
opened_told (in_list p is o ∷ fs) (punctuator m.Greater) q = told_left (machine.begin (in_list p is o ∷ fs) (at (punctuator m.Greater) q)) (begins_operand (punctuator m.Greater)) (is_question (punctuator m.Greater) || (is_comma (punctuator m.Greater) || closes_list (punctuator m.Greater))) (begin_told (in_list p is o ∷ fs) (punctuator m.Greater) q)
opened_told (in_list p is o ∷ fs) (punctuator m.GreaterOrEqual) q = told_left (machine.begin (in_list p is o ∷ fs) (at (punctuator m.GreaterOrEqual) q)) (begins_operand (punctuator m.GreaterOrEqual)) (is_question (punctuator m.GreaterOrEqual) || (is_comma (punctuator m.GreaterOrEqual) || closes_list (punctuator m.GreaterOrEqual))) (begin_told (in_list p is o ∷ fs) (punctuator m.GreaterOrEqual) q)
opened_told (in_list p is o ∷ fs) (punctuator m.Equal) q = told_left (machine.begin (in_list p is o ∷ fs) (at (punctuator m.Equal) q)) (begins_operand (punctuator m.Equal)) (is_question (punctuator m.Equal) || (is_comma (punctuator m.Equal) || closes_list (punctuator m.Equal))) (begin_told (in_list p is o ∷ fs) (punctuator m.Equal) q)
opened_told (in_list p is o ∷ fs) (punctuator m.NotEqual) q = told_left (machine.begin (in_list p is o ∷ fs) (at (punctuator m.NotEqual) q)) (begins_operand (punctuator m.NotEqual)) (is_question (punctuator m.NotEqual) || (is_comma (punctuator m.NotEqual) || closes_list (punctuator m.NotEqual))) (begin_told (in_list p is o ∷ fs) (punctuator m.NotEqual) q)
opened_told (in_list p is o ∷ fs) (punctuator m.And) q = told_left (machine.begin (in_list p is o ∷ fs) (at (punctuator m.And) q)) (begins_operand (punctuator m.And)) (is_question (punctuator m.And) || (is_comma (punctuator m.And) || closes_list (punctuator m.And))) (begin_told (in_list p is o ∷ fs) (punctuator m.And) q)
opened_told (in_list p is o ∷ fs) (punctuator m.Or) q = told_left (machine.begin (in_list p is o ∷ fs) (at (punctuator m.Or) q)) (begins_operand (punctuator m.Or)) (is_question (punctuator m.Or) || (is_comma (punctuator m.Or) || closes_list (punctuator m.Or))) (begin_told (in_list p is o ∷ fs) (punctuator m.Or) q)
opened_told (in_list p is o ∷ fs) (word y) q = told_left (machine.begin (in_list p is o ∷ fs) (at (word y) q)) (begins_operand (word y)) (is_question (word y) || (is_comma (word y) || closes_list (word y))) (begin_told (in_list p is o ∷ fs) (word y) q)
opened_told (in_list p is o ∷ fs) (number y) q = told_left (machine.begin (in_list p is o ∷ fs) (at (number y) q)) (begins_operand (number y)) (is_question (number y) || (is_comma (number y) || closes_list (number y))) (begin_told (in_list p is o ∷ fs) (number y) q)
opened_told (in_list p is o ∷ fs) (quoted y) q = told_left (machine.begin (in_list p is o ∷ fs) (at (quoted y) q)) (begins_operand (quoted y)) (is_question (quoted y) || (is_comma (quoted y) || closes_list (quoted y))) (begin_told (in_list p is o ∷ fs) (quoted y) q)
opened_told (in_key p es o ∷ fs) (punctuator m.OpenRound) q = told_left (machine.begin (in_key p es o ∷ fs) (at (punctuator m.OpenRound) q)) (begins_operand (punctuator m.OpenRound)) (is_question (punctuator m.OpenRound) || (is_comma (punctuator m.OpenRound) || closes_map (punctuator m.OpenRound))) (begin_told (in_key p es o ∷ fs) (punctuator m.OpenRound) q)
opened_told (in_key p es o ∷ fs) (punctuator m.CloseRound) q = told_left (machine.begin (in_key p es o ∷ fs) (at (punctuator m.CloseRound) q)) (begins_operand (punctuator m.CloseRound)) (is_question (punctuator m.CloseRound) || (is_comma (punctuator m.CloseRound) || closes_map (punctuator m.CloseRound))) (begin_told (in_key p es o ∷ fs) (punctuator m.CloseRound) q)
opened_told (in_key p es o ∷ fs) (punctuator m.OpenSquare) q = told_left (machine.begin (in_key p es o ∷ fs) (at (punctuator m.OpenSquare) q)) (begins_operand (punctuator m.OpenSquare)) (is_question (punctuator m.OpenSquare) || (is_comma (punctuator m.OpenSquare) || closes_map (punctuator m.OpenSquare))) (begin_told (in_key p es o ∷ fs) (punctuator m.OpenSquare) q)
opened_told (in_key p es o ∷ fs) (punctuator m.CloseSquare) q = told_left (machine.begin (in_key p es o ∷ fs) (at (punctuator m.CloseSquare) q)) (begins_operand (punctuator m.CloseSquare)) (is_question (punctuator m.CloseSquare) || (is_comma (punctuator m.CloseSquare) || closes_map (punctuator m.CloseSquare))) (begin_told (in_key p es o ∷ fs) (punctuator m.CloseSquare) q)
opened_told (in_key p es o ∷ fs) (punctuator m.OpenBrace) q = told_left (machine.begin (in_key p es o ∷ fs) (at (punctuator m.OpenBrace) q)) (begins_operand (punctuator m.OpenBrace)) (is_question (punctuator m.OpenBrace) || (is_comma (punctuator m.OpenBrace) || closes_map (punctuator m.OpenBrace))) (begin_told (in_key p es o ∷ fs) (punctuator m.OpenBrace) q)
opened_told (in_key p es o ∷ fs) (punctuator m.CloseBrace) q = refl
opened_told (in_key p es o ∷ fs) (punctuator m.Comma) q = refl
opened_told (in_key p es o ∷ fs) (punctuator m.Dot) q = told_left (machine.begin (in_key p es o ∷ fs) (at (punctuator m.Dot) q)) (begins_operand (punctuator m.Dot)) (is_question (punctuator m.Dot) || (is_comma (punctuator m.Dot) || closes_map (punctuator m.Dot))) (begin_told (in_key p es o ∷ fs) (punctuator m.Dot) q)
opened_told (in_key p es o ∷ fs) (punctuator m.Colon) q = told_left (machine.begin (in_key p es o ∷ fs) (at (punctuator m.Colon) q)) (begins_operand (punctuator m.Colon)) (is_question (punctuator m.Colon) || (is_comma (punctuator m.Colon) || closes_map (punctuator m.Colon))) (begin_told (in_key p es o ∷ fs) (punctuator m.Colon) q)
opened_told (in_key p es o ∷ fs) (punctuator m.Question) q = refl
opened_told (in_key p es o ∷ fs) (punctuator m.Not) q = told_left (machine.begin (in_key p es o ∷ fs) (at (punctuator m.Not) q)) (begins_operand (punctuator m.Not)) (is_question (punctuator m.Not) || (is_comma (punctuator m.Not) || closes_map (punctuator m.Not))) (begin_told (in_key p es o ∷ fs) (punctuator m.Not) q)
opened_told (in_key p es o ∷ fs) (punctuator m.Minus) q = told_left (machine.begin (in_key p es o ∷ fs) (at (punctuator m.Minus) q)) (begins_operand (punctuator m.Minus)) (is_question (punctuator m.Minus) || (is_comma (punctuator m.Minus) || closes_map (punctuator m.Minus))) (begin_told (in_key p es o ∷ fs) (punctuator m.Minus) q)
opened_told (in_key p es o ∷ fs) (punctuator m.Plus) q = told_left (machine.begin (in_key p es o ∷ fs) (at (punctuator m.Plus) q)) (begins_operand (punctuator m.Plus)) (is_question (punctuator m.Plus) || (is_comma (punctuator m.Plus) || closes_map (punctuator m.Plus))) (begin_told (in_key p es o ∷ fs) (punctuator m.Plus) q)
opened_told (in_key p es o ∷ fs) (punctuator m.Star) q = told_left (machine.begin (in_key p es o ∷ fs) (at (punctuator m.Star) q)) (begins_operand (punctuator m.Star)) (is_question (punctuator m.Star) || (is_comma (punctuator m.Star) || closes_map (punctuator m.Star))) (begin_told (in_key p es o ∷ fs) (punctuator m.Star) q)
opened_told (in_key p es o ∷ fs) (punctuator m.Slash) q = told_left (machine.begin (in_key p es o ∷ fs) (at (punctuator m.Slash) q)) (begins_operand (punctuator m.Slash)) (is_question (punctuator m.Slash) || (is_comma (punctuator m.Slash) || closes_map (punctuator m.Slash))) (begin_told (in_key p es o ∷ fs) (punctuator m.Slash) q)
opened_told (in_key p es o ∷ fs) (punctuator m.Percent) q = told_left (machine.begin (in_key p es o ∷ fs) (at (punctuator m.Percent) q)) (begins_operand (punctuator m.Percent)) (is_question (punctuator m.Percent) || (is_comma (punctuator m.Percent) || closes_map (punctuator m.Percent))) (begin_told (in_key p es o ∷ fs) (punctuator m.Percent) q)
opened_told (in_key p es o ∷ fs) (punctuator m.Less) q = told_left (machine.begin (in_key p es o ∷ fs) (at (punctuator m.Less) q)) (begins_operand (punctuator m.Less)) (is_question (punctuator m.Less) || (is_comma (punctuator m.Less) || closes_map (punctuator m.Less))) (begin_told (in_key p es o ∷ fs) (punctuator m.Less) q)
opened_told (in_key p es o ∷ fs) (punctuator m.LessOrEqual) q = told_left (machine.begin (in_key p es o ∷ fs) (at (punctuator m.LessOrEqual) q)) (begins_operand (punctuator m.LessOrEqual)) (is_question (punctuator m.LessOrEqual) || (is_comma (punctuator m.LessOrEqual) || closes_map (punctuator m.LessOrEqual))) (begin_told (in_key p es o ∷ fs) (punctuator m.LessOrEqual) q)
opened_told (in_key p es o ∷ fs) (punctuator m.Greater) q = told_left (machine.begin (in_key p es o ∷ fs) (at (punctuator m.Greater) q)) (begins_operand (punctuator m.Greater)) (is_question (punctuator m.Greater) || (is_comma (punctuator m.Greater) || closes_map (punctuator m.Greater))) (begin_told (in_key p es o ∷ fs) (punctuator m.Greater) q)
opened_told (in_key p es o ∷ fs) (punctuator m.GreaterOrEqual) q = told_left (machine.begin (in_key p es o ∷ fs) (at (punctuator m.GreaterOrEqual) q)) (begins_operand (punctuator m.GreaterOrEqual)) (is_question (punctuator m.GreaterOrEqual) || (is_comma (punctuator m.GreaterOrEqual) || closes_map (punctuator m.GreaterOrEqual))) (begin_told (in_key p es o ∷ fs) (punctuator m.GreaterOrEqual) q)
opened_told (in_key p es o ∷ fs) (punctuator m.Equal) q = told_left (machine.begin (in_key p es o ∷ fs) (at (punctuator m.Equal) q)) (begins_operand (punctuator m.Equal)) (is_question (punctuator m.Equal) || (is_comma (punctuator m.Equal) || closes_map (punctuator m.Equal))) (begin_told (in_key p es o ∷ fs) (punctuator m.Equal) q)
opened_told (in_key p es o ∷ fs) (punctuator m.NotEqual) q = told_left (machine.begin (in_key p es o ∷ fs) (at (punctuator m.NotEqual) q)) (begins_operand (punctuator m.NotEqual)) (is_question (punctuator m.NotEqual) || (is_comma (punctuator m.NotEqual) || closes_map (punctuator m.NotEqual))) (begin_told (in_key p es o ∷ fs) (punctuator m.NotEqual) q)
opened_told (in_key p es o ∷ fs) (punctuator m.And) q = told_left (machine.begin (in_key p es o ∷ fs) (at (punctuator m.And) q)) (begins_operand (punctuator m.And)) (is_question (punctuator m.And) || (is_comma (punctuator m.And) || closes_map (punctuator m.And))) (begin_told (in_key p es o ∷ fs) (punctuator m.And) q)
opened_told (in_key p es o ∷ fs) (punctuator m.Or) q = told_left (machine.begin (in_key p es o ∷ fs) (at (punctuator m.Or) q)) (begins_operand (punctuator m.Or)) (is_question (punctuator m.Or) || (is_comma (punctuator m.Or) || closes_map (punctuator m.Or))) (begin_told (in_key p es o ∷ fs) (punctuator m.Or) q)
opened_told (in_key p es o ∷ fs) (word y) q = told_left (machine.begin (in_key p es o ∷ fs) (at (word y) q)) (begins_operand (word y)) (is_question (word y) || (is_comma (word y) || closes_map (word y))) (begin_told (in_key p es o ∷ fs) (word y) q)
opened_told (in_key p es o ∷ fs) (number y) q = told_left (machine.begin (in_key p es o ∷ fs) (at (number y) q)) (begins_operand (number y)) (is_question (number y) || (is_comma (number y) || closes_map (number y))) (begin_told (in_key p es o ∷ fs) (number y) q)
opened_told (in_key p es o ∷ fs) (quoted y) q = told_left (machine.begin (in_key p es o ∷ fs) (at (quoted y) q)) (begins_operand (quoted y)) (is_question (quoted y) || (is_comma (quoted y) || closes_map (quoted y))) (begin_told (in_key p es o ∷ fs) (quoted y) q)
opened_told (in_arguments p a x us ∷ fs) (punctuator m.OpenRound) q = told_left (machine.begin (in_arguments p a x us ∷ fs) (at (punctuator m.OpenRound) q)) (begins_operand (punctuator m.OpenRound)) (closes_call (punctuator m.OpenRound)) (begin_told (in_arguments p a x us ∷ fs) (punctuator m.OpenRound) q)
opened_told (in_arguments p a x us ∷ fs) (punctuator m.CloseRound) q = refl
opened_told (in_arguments p a x us ∷ fs) (punctuator m.OpenSquare) q = told_left (machine.begin (in_arguments p a x us ∷ fs) (at (punctuator m.OpenSquare) q)) (begins_operand (punctuator m.OpenSquare)) (closes_call (punctuator m.OpenSquare)) (begin_told (in_arguments p a x us ∷ fs) (punctuator m.OpenSquare) q)
opened_told (in_arguments p a x us ∷ fs) (punctuator m.CloseSquare) q = told_left (machine.begin (in_arguments p a x us ∷ fs) (at (punctuator m.CloseSquare) q)) (begins_operand (punctuator m.CloseSquare)) (closes_call (punctuator m.CloseSquare)) (begin_told (in_arguments p a x us ∷ fs) (punctuator m.CloseSquare) q)
opened_told (in_arguments p a x us ∷ fs) (punctuator m.OpenBrace) q = told_left (machine.begin (in_arguments p a x us ∷ fs) (at (punctuator m.OpenBrace) q)) (begins_operand (punctuator m.OpenBrace)) (closes_call (punctuator m.OpenBrace)) (begin_told (in_arguments p a x us ∷ fs) (punctuator m.OpenBrace) q)
opened_told (in_arguments p a x us ∷ fs) (punctuator m.CloseBrace) q = told_left (machine.begin (in_arguments p a x us ∷ fs) (at (punctuator m.CloseBrace) q)) (begins_operand (punctuator m.CloseBrace)) (closes_call (punctuator m.CloseBrace)) (begin_told (in_arguments p a x us ∷ fs) (punctuator m.CloseBrace) q)
opened_told (in_arguments p a x us ∷ fs) (punctuator m.Comma) q = told_left (machine.begin (in_arguments p a x us ∷ fs) (at (punctuator m.Comma) q)) (begins_operand (punctuator m.Comma)) (closes_call (punctuator m.Comma)) (begin_told (in_arguments p a x us ∷ fs) (punctuator m.Comma) q)
opened_told (in_arguments p a x us ∷ fs) (punctuator m.Dot) q = told_left (machine.begin (in_arguments p a x us ∷ fs) (at (punctuator m.Dot) q)) (begins_operand (punctuator m.Dot)) (closes_call (punctuator m.Dot)) (begin_told (in_arguments p a x us ∷ fs) (punctuator m.Dot) q)
opened_told (in_arguments p a x us ∷ fs) (punctuator m.Colon) q = told_left (machine.begin (in_arguments p a x us ∷ fs) (at (punctuator m.Colon) q)) (begins_operand (punctuator m.Colon)) (closes_call (punctuator m.Colon)) (begin_told (in_arguments p a x us ∷ fs) (punctuator m.Colon) q)
opened_told (in_arguments p a x us ∷ fs) (punctuator m.Question) q = told_left (machine.begin (in_arguments p a x us ∷ fs) (at (punctuator m.Question) q)) (begins_operand (punctuator m.Question)) (closes_call (punctuator m.Question)) (begin_told (in_arguments p a x us ∷ fs) (punctuator m.Question) q)
opened_told (in_arguments p a x us ∷ fs) (punctuator m.Not) q = told_left (machine.begin (in_arguments p a x us ∷ fs) (at (punctuator m.Not) q)) (begins_operand (punctuator m.Not)) (closes_call (punctuator m.Not)) (begin_told (in_arguments p a x us ∷ fs) (punctuator m.Not) q)
opened_told (in_arguments p a x us ∷ fs) (punctuator m.Minus) q = told_left (machine.begin (in_arguments p a x us ∷ fs) (at (punctuator m.Minus) q)) (begins_operand (punctuator m.Minus)) (closes_call (punctuator m.Minus)) (begin_told (in_arguments p a x us ∷ fs) (punctuator m.Minus) q)
opened_told (in_arguments p a x us ∷ fs) (punctuator m.Plus) q = told_left (machine.begin (in_arguments p a x us ∷ fs) (at (punctuator m.Plus) q)) (begins_operand (punctuator m.Plus)) (closes_call (punctuator m.Plus)) (begin_told (in_arguments p a x us ∷ fs) (punctuator m.Plus) q)
opened_told (in_arguments p a x us ∷ fs) (punctuator m.Star) q = told_left (machine.begin (in_arguments p a x us ∷ fs) (at (punctuator m.Star) q)) (begins_operand (punctuator m.Star)) (closes_call (punctuator m.Star)) (begin_told (in_arguments p a x us ∷ fs) (punctuator m.Star) q)
opened_told (in_arguments p a x us ∷ fs) (punctuator m.Slash) q = told_left (machine.begin (in_arguments p a x us ∷ fs) (at (punctuator m.Slash) q)) (begins_operand (punctuator m.Slash)) (closes_call (punctuator m.Slash)) (begin_told (in_arguments p a x us ∷ fs) (punctuator m.Slash) q)
opened_told (in_arguments p a x us ∷ fs) (punctuator m.Percent) q = told_left (machine.begin (in_arguments p a x us ∷ fs) (at (punctuator m.Percent) q)) (begins_operand (punctuator m.Percent)) (closes_call (punctuator m.Percent)) (begin_told (in_arguments p a x us ∷ fs) (punctuator m.Percent) q)
opened_told (in_arguments p a x us ∷ fs) (punctuator m.Less) q = told_left (machine.begin (in_arguments p a x us ∷ fs) (at (punctuator m.Less) q)) (begins_operand (punctuator m.Less)) (closes_call (punctuator m.Less)) (begin_told (in_arguments p a x us ∷ fs) (punctuator m.Less) q)
opened_told (in_arguments p a x us ∷ fs) (punctuator m.LessOrEqual) q = told_left (machine.begin (in_arguments p a x us ∷ fs) (at (punctuator m.LessOrEqual) q)) (begins_operand (punctuator m.LessOrEqual)) (closes_call (punctuator m.LessOrEqual)) (begin_told (in_arguments p a x us ∷ fs) (punctuator m.LessOrEqual) q)
opened_told (in_arguments p a x us ∷ fs) (punctuator m.Greater) q = told_left (machine.begin (in_arguments p a x us ∷ fs) (at (punctuator m.Greater) q)) (begins_operand (punctuator m.Greater)) (closes_call (punctuator m.Greater)) (begin_told (in_arguments p a x us ∷ fs) (punctuator m.Greater) q)
opened_told (in_arguments p a x us ∷ fs) (punctuator m.GreaterOrEqual) q = told_left (machine.begin (in_arguments p a x us ∷ fs) (at (punctuator m.GreaterOrEqual) q)) (begins_operand (punctuator m.GreaterOrEqual)) (closes_call (punctuator m.GreaterOrEqual)) (begin_told (in_arguments p a x us ∷ fs) (punctuator m.GreaterOrEqual) q)
opened_told (in_arguments p a x us ∷ fs) (punctuator m.Equal) q = told_left (machine.begin (in_arguments p a x us ∷ fs) (at (punctuator m.Equal) q)) (begins_operand (punctuator m.Equal)) (closes_call (punctuator m.Equal)) (begin_told (in_arguments p a x us ∷ fs) (punctuator m.Equal) q)
opened_told (in_arguments p a x us ∷ fs) (punctuator m.NotEqual) q = told_left (machine.begin (in_arguments p a x us ∷ fs) (at (punctuator m.NotEqual) q)) (begins_operand (punctuator m.NotEqual)) (closes_call (punctuator m.NotEqual)) (begin_told (in_arguments p a x us ∷ fs) (punctuator m.NotEqual) q)
opened_told (in_arguments p a x us ∷ fs) (punctuator m.And) q = told_left (machine.begin (in_arguments p a x us ∷ fs) (at (punctuator m.And) q)) (begins_operand (punctuator m.And)) (closes_call (punctuator m.And)) (begin_told (in_arguments p a x us ∷ fs) (punctuator m.And) q)
opened_told (in_arguments p a x us ∷ fs) (punctuator m.Or) q = told_left (machine.begin (in_arguments p a x us ∷ fs) (at (punctuator m.Or) q)) (begins_operand (punctuator m.Or)) (closes_call (punctuator m.Or)) (begin_told (in_arguments p a x us ∷ fs) (punctuator m.Or) q)
opened_told (in_arguments p a x us ∷ fs) (word y) q = told_left (machine.begin (in_arguments p a x us ∷ fs) (at (word y) q)) (begins_operand (word y)) (closes_call (word y)) (begin_told (in_arguments p a x us ∷ fs) (word y) q)
opened_told (in_arguments p a x us ∷ fs) (number y) q = told_left (machine.begin (in_arguments p a x us ∷ fs) (at (number y) q)) (begins_operand (number y)) (closes_call (number y)) (begin_told (in_arguments p a x us ∷ fs) (number y) q)
opened_told (in_arguments p a x us ∷ fs) (quoted y) q = told_left (machine.begin (in_arguments p a x us ∷ fs) (at (quoted y) q)) (begins_operand (quoted y)) (closes_call (quoted y)) (begin_told (in_arguments p a x us ∷ fs) (quoted y) q)
opened_told [] (punctuator k) q = told_left (machine.begin [] (at (punctuator k) q)) (begins_operand (punctuator k)) (is_some (literal_value true (punctuator k))) (begin_told [] (punctuator k) q)
opened_told [] (word y) q = told_left (machine.begin [] (at (word y) q)) (begins_operand (word y)) (is_some (literal_value true (word y))) (begin_told [] (word y) q)
opened_told [] (number y) q = told_left (machine.begin [] (at (number y) q)) (begins_operand (number y)) (is_some (literal_value true (number y))) (begin_told [] (number y) q)
opened_told [] (quoted y) q = told_left (machine.begin [] (at (quoted y) q)) (begins_operand (quoted y)) (is_some (literal_value true (quoted y))) (begin_told [] (quoted y) q)
opened_told (in_round p ∷ fs) (punctuator k) q = told_left (machine.begin (in_round p ∷ fs) (at (punctuator k) q)) (begins_operand (punctuator k)) (is_some (literal_value true (punctuator k))) (begin_told (in_round p ∷ fs) (punctuator k) q)
opened_told (in_round p ∷ fs) (word y) q = told_left (machine.begin (in_round p ∷ fs) (at (word y) q)) (begins_operand (word y)) (is_some (literal_value true (word y))) (begin_told (in_round p ∷ fs) (word y) q)
opened_told (in_round p ∷ fs) (number y) q = told_left (machine.begin (in_round p ∷ fs) (at (number y) q)) (begins_operand (number y)) (is_some (literal_value true (number y))) (begin_told (in_round p ∷ fs) (number y) q)
opened_told (in_round p ∷ fs) (quoted y) q = told_left (machine.begin (in_round p ∷ fs) (at (quoted y) q)) (begins_operand (quoted y)) (is_some (literal_value true (quoted y))) (begin_told (in_round p ∷ fs) (quoted y) q)
opened_told (in_value p es o a ∷ fs) (punctuator k) q = told_left (machine.begin (in_value p es o a ∷ fs) (at (punctuator k) q)) (begins_operand (punctuator k)) (is_some (literal_value true (punctuator k))) (begin_told (in_value p es o a ∷ fs) (punctuator k) q)
opened_told (in_value p es o a ∷ fs) (word y) q = told_left (machine.begin (in_value p es o a ∷ fs) (at (word y) q)) (begins_operand (word y)) (is_some (literal_value true (word y))) (begin_told (in_value p es o a ∷ fs) (word y) q)
opened_told (in_value p es o a ∷ fs) (number y) q = told_left (machine.begin (in_value p es o a ∷ fs) (at (number y) q)) (begins_operand (number y)) (is_some (literal_value true (number y))) (begin_told (in_value p es o a ∷ fs) (number y) q)
opened_told (in_value p es o a ∷ fs) (quoted y) q = told_left (machine.begin (in_value p es o a ∷ fs) (at (quoted y) q)) (begins_operand (quoted y)) (is_some (literal_value true (quoted y))) (begin_told (in_value p es o a ∷ fs) (quoted y) q)
opened_told (in_index a o ∷ fs) (punctuator k) q = told_left (machine.begin (in_index a o ∷ fs) (at (punctuator k) q)) (begins_operand (punctuator k)) (is_some (literal_value true (punctuator k))) (begin_told (in_index a o ∷ fs) (punctuator k) q)
opened_told (in_index a o ∷ fs) (word y) q = told_left (machine.begin (in_index a o ∷ fs) (at (word y) q)) (begins_operand (word y)) (is_some (literal_value true (word y))) (begin_told (in_index a o ∷ fs) (word y) q)
opened_told (in_index a o ∷ fs) (number y) q = told_left (machine.begin (in_index a o ∷ fs) (at (number y) q)) (begins_operand (number y)) (is_some (literal_value true (number y))) (begin_told (in_index a o ∷ fs) (number y) q)
opened_told (in_index a o ∷ fs) (quoted y) q = told_left (machine.begin (in_index a o ∷ fs) (at (quoted y) q)) (begins_operand (quoted y)) (is_some (literal_value true (quoted y))) (begin_told (in_index a o ∷ fs) (quoted y) q)
opened_told (after_sign s p ∷ fs) (punctuator k) q = told_left (machine.begin (after_sign s p ∷ fs) (at (punctuator k) q)) (begins_operand (punctuator k)) (is_some (literal_value true (punctuator k))) (begin_told (after_sign s p ∷ fs) (punctuator k) q)
opened_told (after_sign s p ∷ fs) (word y) q = told_left (machine.begin (after_sign s p ∷ fs) (at (word y) q)) (begins_operand (word y)) (is_some (literal_value true (word y))) (begin_told (after_sign s p ∷ fs) (word y) q)
opened_told (after_sign s p ∷ fs) (number y) q = told_left (machine.begin (after_sign s p ∷ fs) (at (number y) q)) (begins_operand (number y)) (is_some (literal_value true (number y))) (begin_told (after_sign s p ∷ fs) (number y) q)
opened_told (after_sign s p ∷ fs) (quoted y) q = told_left (machine.begin (after_sign s p ∷ fs) (at (quoted y) q)) (begins_operand (quoted y)) (is_some (literal_value true (quoted y))) (begin_told (after_sign s p ∷ fs) (quoted y) q)
opened_told (after_operator a op l ∷ fs) (punctuator k) q = told_left (machine.begin (after_operator a op l ∷ fs) (at (punctuator k) q)) (begins_operand (punctuator k)) (is_some (literal_value true (punctuator k))) (begin_told (after_operator a op l ∷ fs) (punctuator k) q)
opened_told (after_operator a op l ∷ fs) (word y) q = told_left (machine.begin (after_operator a op l ∷ fs) (at (word y) q)) (begins_operand (word y)) (is_some (literal_value true (word y))) (begin_told (after_operator a op l ∷ fs) (word y) q)
opened_told (after_operator a op l ∷ fs) (number y) q = told_left (machine.begin (after_operator a op l ∷ fs) (at (number y) q)) (begins_operand (number y)) (is_some (literal_value true (number y))) (begin_told (after_operator a op l ∷ fs) (number y) q)
opened_told (after_operator a op l ∷ fs) (quoted y) q = told_left (machine.begin (after_operator a op l ∷ fs) (at (quoted y) q)) (begins_operand (quoted y)) (is_some (literal_value true (quoted y))) (begin_told (after_operator a op l ∷ fs) (quoted y) q)
opened_told (after_question c ∷ fs) (punctuator k) q = told_left (machine.begin (after_question c ∷ fs) (at (punctuator k) q)) (begins_operand (punctuator k)) (is_some (literal_value true (punctuator k))) (begin_told (after_question c ∷ fs) (punctuator k) q)
opened_told (after_question c ∷ fs) (word y) q = told_left (machine.begin (after_question c ∷ fs) (at (word y) q)) (begins_operand (word y)) (is_some (literal_value true (word y))) (begin_told (after_question c ∷ fs) (word y) q)
opened_told (after_question c ∷ fs) (number y) q = told_left (machine.begin (after_question c ∷ fs) (at (number y) q)) (begins_operand (number y)) (is_some (literal_value true (number y))) (begin_told (after_question c ∷ fs) (number y) q)
opened_told (after_question c ∷ fs) (quoted y) q = told_left (machine.begin (after_question c ∷ fs) (at (quoted y) q)) (begins_operand (quoted y)) (is_some (literal_value true (quoted y))) (begin_told (after_question c ∷ fs) (quoted y) q)
opened_told (after_colon c a ∷ fs) (punctuator k) q = told_left (machine.begin (after_colon c a ∷ fs) (at (punctuator k) q)) (begins_operand (punctuator k)) (is_some (literal_value true (punctuator k))) (begin_told (after_colon c a ∷ fs) (punctuator k) q)
opened_told (after_colon c a ∷ fs) (word y) q = told_left (machine.begin (after_colon c a ∷ fs) (at (word y) q)) (begins_operand (word y)) (is_some (literal_value true (word y))) (begin_told (after_colon c a ∷ fs) (word y) q)
opened_told (after_colon c a ∷ fs) (number y) q = told_left (machine.begin (after_colon c a ∷ fs) (at (number y) q)) (begins_operand (number y)) (is_some (literal_value true (number y))) (begin_told (after_colon c a ∷ fs) (number y) q)
opened_told (after_colon c a ∷ fs) (quoted y) q = told_left (machine.begin (after_colon c a ∷ fs) (at (quoted y) q)) (begins_operand (quoted y)) (is_some (literal_value true (quoted y))) (begin_told (after_colon c a ∷ fs) (quoted y) q)

more_told : (fs : List Frame) (t : Token) (q : Place) → Told (machine.step_more fs (at t q)) (describes (next_part fs) t)
more_told (in_list p is o ∷ fs) (punctuator m.OpenRound) q = told_left (machine.begin (in_list p is o ∷ fs) (at (punctuator m.OpenRound) q)) (begins_operand (punctuator m.OpenRound)) (is_question (punctuator m.OpenRound) || closes_list (punctuator m.OpenRound)) (begin_told (in_list p is o ∷ fs) (punctuator m.OpenRound) q)
more_told (in_list p is o ∷ fs) (punctuator m.CloseRound) q = told_left (machine.begin (in_list p is o ∷ fs) (at (punctuator m.CloseRound) q)) (begins_operand (punctuator m.CloseRound)) (is_question (punctuator m.CloseRound) || closes_list (punctuator m.CloseRound)) (begin_told (in_list p is o ∷ fs) (punctuator m.CloseRound) q)
more_told (in_list p is o ∷ fs) (punctuator m.OpenSquare) q = told_left (machine.begin (in_list p is o ∷ fs) (at (punctuator m.OpenSquare) q)) (begins_operand (punctuator m.OpenSquare)) (is_question (punctuator m.OpenSquare) || closes_list (punctuator m.OpenSquare)) (begin_told (in_list p is o ∷ fs) (punctuator m.OpenSquare) q)
more_told (in_list p is o ∷ fs) (punctuator m.CloseSquare) q = refl
more_told (in_list p is o ∷ fs) (punctuator m.OpenBrace) q = told_left (machine.begin (in_list p is o ∷ fs) (at (punctuator m.OpenBrace) q)) (begins_operand (punctuator m.OpenBrace)) (is_question (punctuator m.OpenBrace) || closes_list (punctuator m.OpenBrace)) (begin_told (in_list p is o ∷ fs) (punctuator m.OpenBrace) q)
more_told (in_list p is o ∷ fs) (punctuator m.CloseBrace) q = told_left (machine.begin (in_list p is o ∷ fs) (at (punctuator m.CloseBrace) q)) (begins_operand (punctuator m.CloseBrace)) (is_question (punctuator m.CloseBrace) || closes_list (punctuator m.CloseBrace)) (begin_told (in_list p is o ∷ fs) (punctuator m.CloseBrace) q)
more_told (in_list p is o ∷ fs) (punctuator m.Comma) q = told_left (machine.begin (in_list p is o ∷ fs) (at (punctuator m.Comma) q)) (begins_operand (punctuator m.Comma)) (is_question (punctuator m.Comma) || closes_list (punctuator m.Comma)) (begin_told (in_list p is o ∷ fs) (punctuator m.Comma) q)
more_told (in_list p is o ∷ fs) (punctuator m.Dot) q = told_left (machine.begin (in_list p is o ∷ fs) (at (punctuator m.Dot) q)) (begins_operand (punctuator m.Dot)) (is_question (punctuator m.Dot) || closes_list (punctuator m.Dot)) (begin_told (in_list p is o ∷ fs) (punctuator m.Dot) q)
more_told (in_list p is o ∷ fs) (punctuator m.Colon) q = told_left (machine.begin (in_list p is o ∷ fs) (at (punctuator m.Colon) q)) (begins_operand (punctuator m.Colon)) (is_question (punctuator m.Colon) || closes_list (punctuator m.Colon)) (begin_told (in_list p is o ∷ fs) (punctuator m.Colon) q)
more_told (in_list p is o ∷ fs) (punctuator m.Question) q = refl
more_told (in_list p is o ∷ fs) (punctuator m.Not) q = told_left (machine.begin (in_list p is o ∷ fs) (at (punctuator m.Not) q)) (begins_operand (punctuator m.Not)) (is_question (punctuator m.Not) || closes_list (punctuator m.Not)) (begin_told (in_list p is o ∷ fs) (punctuator m.Not) q)
more_told (in_list p is o ∷ fs) (punctuator m.Minus) q = told_left (machine.begin (in_list p is o ∷ fs) (at (punctuator m.Minus) q)) (begins_operand (punctuator m.Minus)) (is_question (punctuator m.Minus) || closes_list (punctuator m.Minus)) (begin_told (in_list p is o ∷ fs) (punctuator m.Minus) q)
more_told (in_list p is o ∷ fs) (punctuator m.Plus) q = told_left (machine.begin (in_list p is o ∷ fs) (at (punctuator m.Plus) q)) (begins_operand (punctuator m.Plus)) (is_question (punctuator m.Plus) || closes_list (punctuator m.Plus)) (begin_told (in_list p is o ∷ fs) (punctuator m.Plus) q)
more_told (in_list p is o ∷ fs) (punctuator m.Star) q = told_left (machine.begin (in_list p is o ∷ fs) (at (punctuator m.Star) q)) (begins_operand (punctuator m.Star)) (is_question (punctuator m.Star) || closes_list (punctuator m.Star)) (begin_told (in_list p is o ∷ fs) (punctuator m.Star) q)
more_told (in_list p is o ∷ fs) (punctuator m.Slash) q = told_left (machine.begin (in_list p is o ∷ fs) (at (punctuator m.Slash) q)) (begins_operand (punctuator m.Slash)) (is_question (punctuator m.Slash) || closes_list (punctuator m.Slash)) (begin_told (in_list p is o ∷ fs) (punctuator m.Slash) q)
more_told (in_list p is o ∷ fs) (punctuator m.Percent) q = told_left (machine.begin (in_list p is o ∷ fs) (at (punctuator m.Percent) q)) (begins_operand (punctuator m.Percent)) (is_question (punctuator m.Percent) || closes_list (punctuator m.Percent)) (begin_told (in_list p is o ∷ fs) (punctuator m.Percent) q)
more_told (in_list p is o ∷ fs) (punctuator m.Less) q = told_left (machine.begin (in_list p is o ∷ fs) (at (punctuator m.Less) q)) (begins_operand (punctuator m.Less)) (is_question (punctuator m.Less) || closes_list (punctuator m.Less)) (begin_told (in_list p is o ∷ fs) (punctuator m.Less) q)
more_told (in_list p is o ∷ fs) (punctuator m.LessOrEqual) q = told_left (machine.begin (in_list p is o ∷ fs) (at (punctuator m.LessOrEqual) q)) (begins_operand (punctuator m.LessOrEqual)) (is_question (punctuator m.LessOrEqual) || closes_list (punctuator m.LessOrEqual)) (begin_told (in_list p is o ∷ fs) (punctuator m.LessOrEqual) q)
more_told (in_list p is o ∷ fs) (punctuator m.Greater) q = told_left (machine.begin (in_list p is o ∷ fs) (at (punctuator m.Greater) q)) (begins_operand (punctuator m.Greater)) (is_question (punctuator m.Greater) || closes_list (punctuator m.Greater)) (begin_told (in_list p is o ∷ fs) (punctuator m.Greater) q)
more_told (in_list p is o ∷ fs) (punctuator m.GreaterOrEqual) q = told_left (machine.begin (in_list p is o ∷ fs) (at (punctuator m.GreaterOrEqual) q)) (begins_operand (punctuator m.GreaterOrEqual)) (is_question (punctuator m.GreaterOrEqual) || closes_list (punctuator m.GreaterOrEqual)) (begin_told (in_list p is o ∷ fs) (punctuator m.GreaterOrEqual) q)
more_told (in_list p is o ∷ fs) (punctuator m.Equal) q = told_left (machine.begin (in_list p is o ∷ fs) (at (punctuator m.Equal) q)) (begins_operand (punctuator m.Equal)) (is_question (punctuator m.Equal) || closes_list (punctuator m.Equal)) (begin_told (in_list p is o ∷ fs) (punctuator m.Equal) q)
more_told (in_list p is o ∷ fs) (punctuator m.NotEqual) q = told_left (machine.begin (in_list p is o ∷ fs) (at (punctuator m.NotEqual) q)) (begins_operand (punctuator m.NotEqual)) (is_question (punctuator m.NotEqual) || closes_list (punctuator m.NotEqual)) (begin_told (in_list p is o ∷ fs) (punctuator m.NotEqual) q)
more_told (in_list p is o ∷ fs) (punctuator m.And) q = told_left (machine.begin (in_list p is o ∷ fs) (at (punctuator m.And) q)) (begins_operand (punctuator m.And)) (is_question (punctuator m.And) || closes_list (punctuator m.And)) (begin_told (in_list p is o ∷ fs) (punctuator m.And) q)
more_told (in_list p is o ∷ fs) (punctuator m.Or) q = told_left (machine.begin (in_list p is o ∷ fs) (at (punctuator m.Or) q)) (begins_operand (punctuator m.Or)) (is_question (punctuator m.Or) || closes_list (punctuator m.Or)) (begin_told (in_list p is o ∷ fs) (punctuator m.Or) q)
more_told (in_list p is o ∷ fs) (word y) q = told_left (machine.begin (in_list p is o ∷ fs) (at (word y) q)) (begins_operand (word y)) (is_question (word y) || closes_list (word y)) (begin_told (in_list p is o ∷ fs) (word y) q)
more_told (in_list p is o ∷ fs) (number y) q = told_left (machine.begin (in_list p is o ∷ fs) (at (number y) q)) (begins_operand (number y)) (is_question (number y) || closes_list (number y)) (begin_told (in_list p is o ∷ fs) (number y) q)
more_told (in_list p is o ∷ fs) (quoted y) q = told_left (machine.begin (in_list p is o ∷ fs) (at (quoted y) q)) (begins_operand (quoted y)) (is_question (quoted y) || closes_list (quoted y)) (begin_told (in_list p is o ∷ fs) (quoted y) q)
more_told (in_key p es o ∷ fs) (punctuator m.OpenRound) q = told_left (machine.begin (in_key p es o ∷ fs) (at (punctuator m.OpenRound) q)) (begins_operand (punctuator m.OpenRound)) (is_question (punctuator m.OpenRound) || closes_map (punctuator m.OpenRound)) (begin_told (in_key p es o ∷ fs) (punctuator m.OpenRound) q)
more_told (in_key p es o ∷ fs) (punctuator m.CloseRound) q = told_left (machine.begin (in_key p es o ∷ fs) (at (punctuator m.CloseRound) q)) (begins_operand (punctuator m.CloseRound)) (is_question (punctuator m.CloseRound) || closes_map (punctuator m.CloseRound)) (begin_told (in_key p es o ∷ fs) (punctuator m.CloseRound) q)
more_told (in_key p es o ∷ fs) (punctuator m.OpenSquare) q = told_left (machine.begin (in_key p es o ∷ fs) (at (punctuator m.OpenSquare) q)) (begins_operand (punctuator m.OpenSquare)) (is_question (punctuator m.OpenSquare) || closes_map (punctuator m.OpenSquare)) (begin_told (in_key p es o ∷ fs) (punctuator m.OpenSquare) q)
more_told (in_key p es o ∷ fs) (punctuator m.CloseSquare) q = told_left (machine.begin (in_key p es o ∷ fs) (at (punctuator m.CloseSquare) q)) (begins_operand (punctuator m.CloseSquare)) (is_question (punctuator m.CloseSquare) || closes_map (punctuator m.CloseSquare)) (begin_told (in_key p es o ∷ fs) (punctuator m.CloseSquare) q)
more_told (in_key p es o ∷ fs) (punctuator m.OpenBrace) q = told_left (machine.begin (in_key p es o ∷ fs) (at (punctuator m.OpenBrace) q)) (begins_operand (punctuator m.OpenBrace)) (is_question (punctuator m.OpenBrace) || closes_map (punctuator m.OpenBrace)) (begin_told (in_key p es o ∷ fs) (punctuator m.OpenBrace) q)
more_told (in_key p es o ∷ fs) (punctuator m.CloseBrace) q = refl
more_told (in_key p es o ∷ fs) (punctuator m.Comma) q = told_left (machine.begin (in_key p es o ∷ fs) (at (punctuator m.Comma) q)) (begins_operand (punctuator m.Comma)) (is_question (punctuator m.Comma) || closes_map (punctuator m.Comma)) (begin_told (in_key p es o ∷ fs) (punctuator m.Comma) q)
more_told (in_key p es o ∷ fs) (punctuator m.Dot) q = told_left (machine.begin (in_key p es o ∷ fs) (at (punctuator m.Dot) q)) (begins_operand (punctuator m.Dot)) (is_question (punctuator m.Dot) || closes_map (punctuator m.Dot)) (begin_told (in_key p es o ∷ fs) (punctuator m.Dot) q)
more_told (in_key p es o ∷ fs) (punctuator m.Colon) q = told_left (machine.begin (in_key p es o ∷ fs) (at (punctuator m.Colon) q)) (begins_operand (punctuator m.Colon)) (is_question (punctuator m.Colon) || closes_map (punctuator m.Colon)) (begin_told (in_key p es o ∷ fs) (punctuator m.Colon) q)
more_told (in_key p es o ∷ fs) (punctuator m.Question) q = refl
more_told (in_key p es o ∷ fs) (punctuator m.Not) q = told_left (machine.begin (in_key p es o ∷ fs) (at (punctuator m.Not) q)) (begins_operand (punctuator m.Not)) (is_question (punctuator m.Not) || closes_map (punctuator m.Not)) (begin_told (in_key p es o ∷ fs) (punctuator m.Not) q)
more_told (in_key p es o ∷ fs) (punctuator m.Minus) q = told_left (machine.begin (in_key p es o ∷ fs) (at (punctuator m.Minus) q)) (begins_operand (punctuator m.Minus)) (is_question (punctuator m.Minus) || closes_map (punctuator m.Minus)) (begin_told (in_key p es o ∷ fs) (punctuator m.Minus) q)
more_told (in_key p es o ∷ fs) (punctuator m.Plus) q = told_left (machine.begin (in_key p es o ∷ fs) (at (punctuator m.Plus) q)) (begins_operand (punctuator m.Plus)) (is_question (punctuator m.Plus) || closes_map (punctuator m.Plus)) (begin_told (in_key p es o ∷ fs) (punctuator m.Plus) q)
more_told (in_key p es o ∷ fs) (punctuator m.Star) q = told_left (machine.begin (in_key p es o ∷ fs) (at (punctuator m.Star) q)) (begins_operand (punctuator m.Star)) (is_question (punctuator m.Star) || closes_map (punctuator m.Star)) (begin_told (in_key p es o ∷ fs) (punctuator m.Star) q)
more_told (in_key p es o ∷ fs) (punctuator m.Slash) q = told_left (machine.begin (in_key p es o ∷ fs) (at (punctuator m.Slash) q)) (begins_operand (punctuator m.Slash)) (is_question (punctuator m.Slash) || closes_map (punctuator m.Slash)) (begin_told (in_key p es o ∷ fs) (punctuator m.Slash) q)
more_told (in_key p es o ∷ fs) (punctuator m.Percent) q = told_left (machine.begin (in_key p es o ∷ fs) (at (punctuator m.Percent) q)) (begins_operand (punctuator m.Percent)) (is_question (punctuator m.Percent) || closes_map (punctuator m.Percent)) (begin_told (in_key p es o ∷ fs) (punctuator m.Percent) q)
more_told (in_key p es o ∷ fs) (punctuator m.Less) q = told_left (machine.begin (in_key p es o ∷ fs) (at (punctuator m.Less) q)) (begins_operand (punctuator m.Less)) (is_question (punctuator m.Less) || closes_map (punctuator m.Less)) (begin_told (in_key p es o ∷ fs) (punctuator m.Less) q)
more_told (in_key p es o ∷ fs) (punctuator m.LessOrEqual) q = told_left (machine.begin (in_key p es o ∷ fs) (at (punctuator m.LessOrEqual) q)) (begins_operand (punctuator m.LessOrEqual)) (is_question (punctuator m.LessOrEqual) || closes_map (punctuator m.LessOrEqual)) (begin_told (in_key p es o ∷ fs) (punctuator m.LessOrEqual) q)
more_told (in_key p es o ∷ fs) (punctuator m.Greater) q = told_left (machine.begin (in_key p es o ∷ fs) (at (punctuator m.Greater) q)) (begins_operand (punctuator m.Greater)) (is_question (punctuator m.Greater) || closes_map (punctuator m.Greater)) (begin_told (in_key p es o ∷ fs) (punctuator m.Greater) q)
more_told (in_key p es o ∷ fs) (punctuator m.GreaterOrEqual) q = told_left (machine.begin (in_key p es o ∷ fs) (at (punctuator m.GreaterOrEqual) q)) (begins_operand (punctuator m.GreaterOrEqual)) (is_question (punctuator m.GreaterOrEqual) || closes_map (punctuator m.GreaterOrEqual)) (begin_told (in_key p es o ∷ fs) (punctuator m.GreaterOrEqual) q)
more_told (in_key p es o ∷ fs) (punctuator m.Equal) q = told_left (machine.begin (in_key p es o ∷ fs) (at (punctuator m.Equal) q)) (begins_operand (punctuator m.Equal)) (is_question (punctuator m.Equal) || closes_map (punctuator m.Equal)) (begin_told (in_key p es o ∷ fs) (punctuator m.Equal) q)
more_told (in_key p es o ∷ fs) (punctuator m.NotEqual) q = told_left (machine.begin (in_key p es o ∷ fs) (at (punctuator m.NotEqual) q)) (begins_operand (punctuator m.NotEqual)) (is_question (punctuator m.NotEqual) || closes_map (punctuator m.NotEqual)) (begin_told (in_key p es o ∷ fs) (punctuator m.NotEqual) q)
more_told (in_key p es o ∷ fs) (punctuator m.And) q = told_left (machine.begin (in_key p es o ∷ fs) (at (punctuator m.And) q)) (begins_operand (punctuator m.And)) (is_question (punctuator m.And) || closes_map (punctuator m.And)) (begin_told (in_key p es o ∷ fs) (punctuator m.And) q)
more_told (in_key p es o ∷ fs) (punctuator m.Or) q = told_left (machine.begin (in_key p es o ∷ fs) (at (punctuator m.Or) q)) (begins_operand (punctuator m.Or)) (is_question (punctuator m.Or) || closes_map (punctuator m.Or)) (begin_told (in_key p es o ∷ fs) (punctuator m.Or) q)
more_told (in_key p es o ∷ fs) (word y) q = told_left (machine.begin (in_key p es o ∷ fs) (at (word y) q)) (begins_operand (word y)) (is_question (word y) || closes_map (word y)) (begin_told (in_key p es o ∷ fs) (word y) q)
more_told (in_key p es o ∷ fs) (number y) q = told_left (machine.begin (in_key p es o ∷ fs) (at (number y) q)) (begins_operand (number y)) (is_question (number y) || closes_map (number y)) (begin_told (in_key p es o ∷ fs) (number y) q)
more_told (in_key p es o ∷ fs) (quoted y) q = told_left (machine.begin (in_key p es o ∷ fs) (at (quoted y) q)) (begins_operand (quoted y)) (is_question (quoted y) || closes_map (quoted y)) (begin_told (in_key p es o ∷ fs) (quoted y) q)
more_told (in_arguments p a x us ∷ fs) (punctuator m.OpenRound) q = told_left (machine.begin (in_arguments p a x us ∷ fs) (at (punctuator m.OpenRound) q)) (begins_operand (punctuator m.OpenRound)) (is_some (literal_value true (punctuator m.OpenRound))) (begin_told (in_arguments p a x us ∷ fs) (punctuator m.OpenRound) q)
more_told (in_arguments p a x us ∷ fs) (punctuator m.CloseRound) q = told_left (machine.begin (in_arguments p a x us ∷ fs) (at (punctuator m.CloseRound) q)) (begins_operand (punctuator m.CloseRound)) (is_some (literal_value true (punctuator m.CloseRound))) (begin_told (in_arguments p a x us ∷ fs) (punctuator m.CloseRound) q)
more_told (in_arguments p a x us ∷ fs) (punctuator m.OpenSquare) q = told_left (machine.begin (in_arguments p a x us ∷ fs) (at (punctuator m.OpenSquare) q)) (begins_operand (punctuator m.OpenSquare)) (is_some (literal_value true (punctuator m.OpenSquare))) (begin_told (in_arguments p a x us ∷ fs) (punctuator m.OpenSquare) q)
more_told (in_arguments p a x us ∷ fs) (punctuator m.CloseSquare) q = told_left (machine.begin (in_arguments p a x us ∷ fs) (at (punctuator m.CloseSquare) q)) (begins_operand (punctuator m.CloseSquare)) (is_some (literal_value true (punctuator m.CloseSquare))) (begin_told (in_arguments p a x us ∷ fs) (punctuator m.CloseSquare) q)
more_told (in_arguments p a x us ∷ fs) (punctuator m.OpenBrace) q = told_left (machine.begin (in_arguments p a x us ∷ fs) (at (punctuator m.OpenBrace) q)) (begins_operand (punctuator m.OpenBrace)) (is_some (literal_value true (punctuator m.OpenBrace))) (begin_told (in_arguments p a x us ∷ fs) (punctuator m.OpenBrace) q)
more_told (in_arguments p a x us ∷ fs) (punctuator m.CloseBrace) q = told_left (machine.begin (in_arguments p a x us ∷ fs) (at (punctuator m.CloseBrace) q)) (begins_operand (punctuator m.CloseBrace)) (is_some (literal_value true (punctuator m.CloseBrace))) (begin_told (in_arguments p a x us ∷ fs) (punctuator m.CloseBrace) q)
more_told (in_arguments p a x us ∷ fs) (punctuator m.Comma) q = told_left (machine.begin (in_arguments p a x us ∷ fs) (at (punctuator m.Comma) q)) (begins_operand (punctuator m.Comma)) (is_some (literal_value true (punctuator m.Comma))) (begin_told (in_arguments p a x us ∷ fs) (punctuator m.Comma) q)
more_told (in_arguments p a x us ∷ fs) (punctuator m.Dot) q = told_left (machine.begin (in_arguments p a x us ∷ fs) (at (punctuator m.Dot) q)) (begins_operand (punctuator m.Dot)) (is_some (literal_value true (punctuator m.Dot))) (begin_told (in_arguments p a x us ∷ fs) (punctuator m.Dot) q)
more_told (in_arguments p a x us ∷ fs) (punctuator m.Colon) q = told_left (machine.begin (in_arguments p a x us ∷ fs) (at (punctuator m.Colon) q)) (begins_operand (punctuator m.Colon)) (is_some (literal_value true (punctuator m.Colon))) (begin_told (in_arguments p a x us ∷ fs) (punctuator m.Colon) q)
more_told (in_arguments p a x us ∷ fs) (punctuator m.Question) q = told_left (machine.begin (in_arguments p a x us ∷ fs) (at (punctuator m.Question) q)) (begins_operand (punctuator m.Question)) (is_some (literal_value true (punctuator m.Question))) (begin_told (in_arguments p a x us ∷ fs) (punctuator m.Question) q)
more_told (in_arguments p a x us ∷ fs) (punctuator m.Not) q = told_left (machine.begin (in_arguments p a x us ∷ fs) (at (punctuator m.Not) q)) (begins_operand (punctuator m.Not)) (is_some (literal_value true (punctuator m.Not))) (begin_told (in_arguments p a x us ∷ fs) (punctuator m.Not) q)
more_told (in_arguments p a x us ∷ fs) (punctuator m.Minus) q = told_left (machine.begin (in_arguments p a x us ∷ fs) (at (punctuator m.Minus) q)) (begins_operand (punctuator m.Minus)) (is_some (literal_value true (punctuator m.Minus))) (begin_told (in_arguments p a x us ∷ fs) (punctuator m.Minus) q)
more_told (in_arguments p a x us ∷ fs) (punctuator m.Plus) q = told_left (machine.begin (in_arguments p a x us ∷ fs) (at (punctuator m.Plus) q)) (begins_operand (punctuator m.Plus)) (is_some (literal_value true (punctuator m.Plus))) (begin_told (in_arguments p a x us ∷ fs) (punctuator m.Plus) q)
more_told (in_arguments p a x us ∷ fs) (punctuator m.Star) q = told_left (machine.begin (in_arguments p a x us ∷ fs) (at (punctuator m.Star) q)) (begins_operand (punctuator m.Star)) (is_some (literal_value true (punctuator m.Star))) (begin_told (in_arguments p a x us ∷ fs) (punctuator m.Star) q)
more_told (in_arguments p a x us ∷ fs) (punctuator m.Slash) q = told_left (machine.begin (in_arguments p a x us ∷ fs) (at (punctuator m.Slash) q)) (begins_operand (punctuator m.Slash)) (is_some (literal_value true (punctuator m.Slash))) (begin_told (in_arguments p a x us ∷ fs) (punctuator m.Slash) q)
more_told (in_arguments p a x us ∷ fs) (punctuator m.Percent) q = told_left (machine.begin (in_arguments p a x us ∷ fs) (at (punctuator m.Percent) q)) (begins_operand (punctuator m.Percent)) (is_some (literal_value true (punctuator m.Percent))) (begin_told (in_arguments p a x us ∷ fs) (punctuator m.Percent) q)
more_told (in_arguments p a x us ∷ fs) (punctuator m.Less) q = told_left (machine.begin (in_arguments p a x us ∷ fs) (at (punctuator m.Less) q)) (begins_operand (punctuator m.Less)) (is_some (literal_value true (punctuator m.Less))) (begin_told (in_arguments p a x us ∷ fs) (punctuator m.Less) q)
more_told (in_arguments p a x us ∷ fs) (punctuator m.LessOrEqual) q = told_left (machine.begin (in_arguments p a x us ∷ fs) (at (punctuator m.LessOrEqual) q)) (begins_operand (punctuator m.LessOrEqual)) (is_some (literal_value true (punctuator m.LessOrEqual))) (begin_told (in_arguments p a x us ∷ fs) (punctuator m.LessOrEqual) q)
more_told (in_arguments p a x us ∷ fs) (punctuator m.Greater) q = told_left (machine.begin (in_arguments p a x us ∷ fs) (at (punctuator m.Greater) q)) (begins_operand (punctuator m.Greater)) (is_some (literal_value true (punctuator m.Greater))) (begin_told (in_arguments p a x us ∷ fs) (punctuator m.Greater) q)
more_told (in_arguments p a x us ∷ fs) (punctuator m.GreaterOrEqual) q = told_left (machine.begin (in_arguments p a x us ∷ fs) (at (punctuator m.GreaterOrEqual) q)) (begins_operand (punctuator m.GreaterOrEqual)) (is_some (literal_value true (punctuator m.GreaterOrEqual))) (begin_told (in_arguments p a x us ∷ fs) (punctuator m.GreaterOrEqual) q)
more_told (in_arguments p a x us ∷ fs) (punctuator m.Equal) q = told_left (machine.begin (in_arguments p a x us ∷ fs) (at (punctuator m.Equal) q)) (begins_operand (punctuator m.Equal)) (is_some (literal_value true (punctuator m.Equal))) (begin_told (in_arguments p a x us ∷ fs) (punctuator m.Equal) q)
more_told (in_arguments p a x us ∷ fs) (punctuator m.NotEqual) q = told_left (machine.begin (in_arguments p a x us ∷ fs) (at (punctuator m.NotEqual) q)) (begins_operand (punctuator m.NotEqual)) (is_some (literal_value true (punctuator m.NotEqual))) (begin_told (in_arguments p a x us ∷ fs) (punctuator m.NotEqual) q)
more_told (in_arguments p a x us ∷ fs) (punctuator m.And) q = told_left (machine.begin (in_arguments p a x us ∷ fs) (at (punctuator m.And) q)) (begins_operand (punctuator m.And)) (is_some (literal_value true (punctuator m.And))) (begin_told (in_arguments p a x us ∷ fs) (punctuator m.And) q)
more_told (in_arguments p a x us ∷ fs) (punctuator m.Or) q = told_left (machine.begin (in_arguments p a x us ∷ fs) (at (punctuator m.Or) q)) (begins_operand (punctuator m.Or)) (is_some (literal_value true (punctuator m.Or))) (begin_told (in_arguments p a x us ∷ fs) (punctuator m.Or) q)
more_told (in_arguments p a x us ∷ fs) (word y) q = told_left (machine.begin (in_arguments p a x us ∷ fs) (at (word y) q)) (begins_operand (word y)) (is_some (literal_value true (word y))) (begin_told (in_arguments p a x us ∷ fs) (word y) q)
more_told (in_arguments p a x us ∷ fs) (number y) q = told_left (machine.begin (in_arguments p a x us ∷ fs) (at (number y) q)) (begins_operand (number y)) (is_some (literal_value true (number y))) (begin_told (in_arguments p a x us ∷ fs) (number y) q)
more_told (in_arguments p a x us ∷ fs) (quoted y) q = told_left (machine.begin (in_arguments p a x us ∷ fs) (at (quoted y) q)) (begins_operand (quoted y)) (is_some (literal_value true (quoted y))) (begin_told (in_arguments p a x us ∷ fs) (quoted y) q)
more_told [] (punctuator k) q = told_left (machine.begin [] (at (punctuator k) q)) (begins_operand (punctuator k)) (is_some (literal_value true (punctuator k))) (begin_told [] (punctuator k) q)
more_told [] (word y) q = told_left (machine.begin [] (at (word y) q)) (begins_operand (word y)) (is_some (literal_value true (word y))) (begin_told [] (word y) q)
more_told [] (number y) q = told_left (machine.begin [] (at (number y) q)) (begins_operand (number y)) (is_some (literal_value true (number y))) (begin_told [] (number y) q)
more_told [] (quoted y) q = told_left (machine.begin [] (at (quoted y) q)) (begins_operand (quoted y)) (is_some (literal_value true (quoted y))) (begin_told [] (quoted y) q)
more_told (in_round p ∷ fs) (punctuator k) q = told_left (machine.begin (in_round p ∷ fs) (at (punctuator k) q)) (begins_operand (punctuator k)) (is_some (literal_value true (punctuator k))) (begin_told (in_round p ∷ fs) (punctuator k) q)
more_told (in_round p ∷ fs) (word y) q = told_left (machine.begin (in_round p ∷ fs) (at (word y) q)) (begins_operand (word y)) (is_some (literal_value true (word y))) (begin_told (in_round p ∷ fs) (word y) q)
more_told (in_round p ∷ fs) (number y) q = told_left (machine.begin (in_round p ∷ fs) (at (number y) q)) (begins_operand (number y)) (is_some (literal_value true (number y))) (begin_told (in_round p ∷ fs) (number y) q)
more_told (in_round p ∷ fs) (quoted y) q = told_left (machine.begin (in_round p ∷ fs) (at (quoted y) q)) (begins_operand (quoted y)) (is_some (literal_value true (quoted y))) (begin_told (in_round p ∷ fs) (quoted y) q)
more_told (in_value p es o a ∷ fs) (punctuator k) q = told_left (machine.begin (in_value p es o a ∷ fs) (at (punctuator k) q)) (begins_operand (punctuator k)) (is_some (literal_value true (punctuator k))) (begin_told (in_value p es o a ∷ fs) (punctuator k) q)
more_told (in_value p es o a ∷ fs) (word y) q = told_left (machine.begin (in_value p es o a ∷ fs) (at (word y) q)) (begins_operand (word y)) (is_some (literal_value true (word y))) (begin_told (in_value p es o a ∷ fs) (word y) q)
more_told (in_value p es o a ∷ fs) (number y) q = told_left (machine.begin (in_value p es o a ∷ fs) (at (number y) q)) (begins_operand (number y)) (is_some (literal_value true (number y))) (begin_told (in_value p es o a ∷ fs) (number y) q)
more_told (in_value p es o a ∷ fs) (quoted y) q = told_left (machine.begin (in_value p es o a ∷ fs) (at (quoted y) q)) (begins_operand (quoted y)) (is_some (literal_value true (quoted y))) (begin_told (in_value p es o a ∷ fs) (quoted y) q)
more_told (in_index a o ∷ fs) (punctuator k) q = told_left (machine.begin (in_index a o ∷ fs) (at (punctuator k) q)) (begins_operand (punctuator k)) (is_some (literal_value true (punctuator k))) (begin_told (in_index a o ∷ fs) (punctuator k) q)
more_told (in_index a o ∷ fs) (word y) q = told_left (machine.begin (in_index a o ∷ fs) (at (word y) q)) (begins_operand (word y)) (is_some (literal_value true (word y))) (begin_told (in_index a o ∷ fs) (word y) q)
more_told (in_index a o ∷ fs) (number y) q = told_left (machine.begin (in_index a o ∷ fs) (at (number y) q)) (begins_operand (number y)) (is_some (literal_value true (number y))) (begin_told (in_index a o ∷ fs) (number y) q)
more_told (in_index a o ∷ fs) (quoted y) q = told_left (machine.begin (in_index a o ∷ fs) (at (quoted y) q)) (begins_operand (quoted y)) (is_some (literal_value true (quoted y))) (begin_told (in_index a o ∷ fs) (quoted y) q)
more_told (after_sign s p ∷ fs) (punctuator k) q = told_left (machine.begin (after_sign s p ∷ fs) (at (punctuator k) q)) (begins_operand (punctuator k)) (is_some (literal_value true (punctuator k))) (begin_told (after_sign s p ∷ fs) (punctuator k) q)
more_told (after_sign s p ∷ fs) (word y) q = told_left (machine.begin (after_sign s p ∷ fs) (at (word y) q)) (begins_operand (word y)) (is_some (literal_value true (word y))) (begin_told (after_sign s p ∷ fs) (word y) q)
more_told (after_sign s p ∷ fs) (number y) q = told_left (machine.begin (after_sign s p ∷ fs) (at (number y) q)) (begins_operand (number y)) (is_some (literal_value true (number y))) (begin_told (after_sign s p ∷ fs) (number y) q)
more_told (after_sign s p ∷ fs) (quoted y) q = told_left (machine.begin (after_sign s p ∷ fs) (at (quoted y) q)) (begins_operand (quoted y)) (is_some (literal_value true (quoted y))) (begin_told (after_sign s p ∷ fs) (quoted y) q)
more_told (after_operator a op l ∷ fs) (punctuator k) q = told_left (machine.begin (after_operator a op l ∷ fs) (at (punctuator k) q)) (begins_operand (punctuator k)) (is_some (literal_value true (punctuator k))) (begin_told (after_operator a op l ∷ fs) (punctuator k) q)
more_told (after_operator a op l ∷ fs) (word y) q = told_left (machine.begin (after_operator a op l ∷ fs) (at (word y) q)) (begins_operand (word y)) (is_some (literal_value true (word y))) (begin_told (after_operator a op l ∷ fs) (word y) q)
more_told (after_operator a op l ∷ fs) (number y) q = told_left (machine.begin (after_operator a op l ∷ fs) (at (number y) q)) (begins_operand (number y)) (is_some (literal_value true (number y))) (begin_told (after_operator a op l ∷ fs) (number y) q)
more_told (after_operator a op l ∷ fs) (quoted y) q = told_left (machine.begin (after_operator a op l ∷ fs) (at (quoted y) q)) (begins_operand (quoted y)) (is_some (literal_value true (quoted y))) (begin_told (after_operator a op l ∷ fs) (quoted y) q)
more_told (after_question c ∷ fs) (punctuator k) q = told_left (machine.begin (after_question c ∷ fs) (at (punctuator k) q)) (begins_operand (punctuator k)) (is_some (literal_value true (punctuator k))) (begin_told (after_question c ∷ fs) (punctuator k) q)
more_told (after_question c ∷ fs) (word y) q = told_left (machine.begin (after_question c ∷ fs) (at (word y) q)) (begins_operand (word y)) (is_some (literal_value true (word y))) (begin_told (after_question c ∷ fs) (word y) q)
more_told (after_question c ∷ fs) (number y) q = told_left (machine.begin (after_question c ∷ fs) (at (number y) q)) (begins_operand (number y)) (is_some (literal_value true (number y))) (begin_told (after_question c ∷ fs) (number y) q)
more_told (after_question c ∷ fs) (quoted y) q = told_left (machine.begin (after_question c ∷ fs) (at (quoted y) q)) (begins_operand (quoted y)) (is_some (literal_value true (quoted y))) (begin_told (after_question c ∷ fs) (quoted y) q)
more_told (after_colon c a ∷ fs) (punctuator k) q = told_left (machine.begin (after_colon c a ∷ fs) (at (punctuator k) q)) (begins_operand (punctuator k)) (is_some (literal_value true (punctuator k))) (begin_told (after_colon c a ∷ fs) (punctuator k) q)
more_told (after_colon c a ∷ fs) (word y) q = told_left (machine.begin (after_colon c a ∷ fs) (at (word y) q)) (begins_operand (word y)) (is_some (literal_value true (word y))) (begin_told (after_colon c a ∷ fs) (word y) q)
more_told (after_colon c a ∷ fs) (number y) q = told_left (machine.begin (after_colon c a ∷ fs) (at (number y) q)) (begins_operand (number y)) (is_some (literal_value true (number y))) (begin_told (after_colon c a ∷ fs) (number y) q)
more_told (after_colon c a ∷ fs) (quoted y) q = told_left (machine.begin (after_colon c a ∷ fs) (at (quoted y) q)) (begins_operand (quoted y)) (is_some (literal_value true (quoted y))) (begin_told (after_colon c a ∷ fs) (quoted y) q)

ended_told : (fs : List Frame) (t : Token) (q : Place) → Told (machine.step_ended fs (at t q)) (describes (its_end fs) t)
ended_told (in_list p is o ∷ fs) (punctuator m.OpenRound) q = tt
ended_told (in_list p is o ∷ fs) (punctuator m.CloseRound) q = tt
ended_told (in_list p is o ∷ fs) (punctuator m.OpenSquare) q = tt
ended_told (in_list p is o ∷ fs) (punctuator m.CloseSquare) q = refl
ended_told (in_list p is o ∷ fs) (punctuator m.OpenBrace) q = tt
ended_told (in_list p is o ∷ fs) (punctuator m.CloseBrace) q = tt
ended_told (in_list p is o ∷ fs) (punctuator m.Comma) q = tt
ended_told (in_list p is o ∷ fs) (punctuator m.Dot) q = tt
ended_told (in_list p is o ∷ fs) (punctuator m.Colon) q = tt
ended_told (in_list p is o ∷ fs) (punctuator m.Question) q = tt
ended_told (in_list p is o ∷ fs) (punctuator m.Not) q = tt
ended_told (in_list p is o ∷ fs) (punctuator m.Minus) q = tt
ended_told (in_list p is o ∷ fs) (punctuator m.Plus) q = tt
ended_told (in_list p is o ∷ fs) (punctuator m.Star) q = tt
ended_told (in_list p is o ∷ fs) (punctuator m.Slash) q = tt
ended_told (in_list p is o ∷ fs) (punctuator m.Percent) q = tt
ended_told (in_list p is o ∷ fs) (punctuator m.Less) q = tt
ended_told (in_list p is o ∷ fs) (punctuator m.LessOrEqual) q = tt
ended_told (in_list p is o ∷ fs) (punctuator m.Greater) q = tt
ended_told (in_list p is o ∷ fs) (punctuator m.GreaterOrEqual) q = tt
ended_told (in_list p is o ∷ fs) (punctuator m.Equal) q = tt
ended_told (in_list p is o ∷ fs) (punctuator m.NotEqual) q = tt
ended_told (in_list p is o ∷ fs) (punctuator m.And) q = tt
ended_told (in_list p is o ∷ fs) (punctuator m.Or) q = tt
ended_told (in_list p is o ∷ fs) (word y) q = tt
ended_told (in_list p is o ∷ fs) (number y) q = tt
ended_told (in_list p is o ∷ fs) (quoted y) q = tt
ended_told (in_key p es o ∷ fs) (punctuator m.OpenRound) q = tt
ended_told (in_key p es o ∷ fs) (punctuator m.CloseRound) q = tt
ended_told (in_key p es o ∷ fs) (punctuator m.OpenSquare) q = tt
ended_told (in_key p es o ∷ fs) (punctuator m.CloseSquare) q = tt
ended_told (in_key p es o ∷ fs) (punctuator m.OpenBrace) q = tt
ended_told (in_key p es o ∷ fs) (punctuator m.CloseBrace) q = refl
ended_told (in_key p es o ∷ fs) (punctuator m.Comma) q = tt
ended_told (in_key p es o ∷ fs) (punctuator m.Dot) q = tt
ended_told (in_key p es o ∷ fs) (punctuator m.Colon) q = tt
ended_told (in_key p es o ∷ fs) (punctuator m.Question) q = tt
ended_told (in_key p es o ∷ fs) (punctuator m.Not) q = tt
ended_told (in_key p es o ∷ fs) (punctuator m.Minus) q = tt
ended_told (in_key p es o ∷ fs) (punctuator m.Plus) q = tt
ended_told (in_key p es o ∷ fs) (punctuator m.Star) q = tt
ended_told (in_key p es o ∷ fs) (punctuator m.Slash) q = tt
ended_told (in_key p es o ∷ fs) (punctuator m.Percent) q = tt
ended_told (in_key p es o ∷ fs) (punctuator m.Less) q = tt
ended_told (in_key p es o ∷ fs) (punctuator m.LessOrEqual) q = tt
ended_told (in_key p es o ∷ fs) (punctuator m.Greater) q = tt
ended_told (in_key p es o ∷ fs) (punctuator m.GreaterOrEqual) q = tt
ended_told (in_key p es o ∷ fs) (punctuator m.Equal) q = tt
ended_told (in_key p es o ∷ fs) (punctuator m.NotEqual) q = tt
ended_told (in_key p es o ∷ fs) (punctuator m.And) q = tt
ended_told (in_key p es o ∷ fs) (punctuator m.Or) q = tt
ended_told (in_key p es o ∷ fs) (word y) q = tt
ended_told (in_key p es o ∷ fs) (number y) q = tt
ended_told (in_key p es o ∷ fs) (quoted y) q = tt
ended_told (in_arguments p a x us ∷ fs) (punctuator m.OpenRound) q = tt
ended_told (in_arguments p a x us ∷ fs) (punctuator m.CloseRound) q = refl
ended_told (in_arguments p a x us ∷ fs) (punctuator m.OpenSquare) q = tt
ended_told (in_arguments p a x us ∷ fs) (punctuator m.CloseSquare) q = tt
ended_told (in_arguments p a x us ∷ fs) (punctuator m.OpenBrace) q = tt
ended_told (in_arguments p a x us ∷ fs) (punctuator m.CloseBrace) q = tt
ended_told (in_arguments p a x us ∷ fs) (punctuator m.Comma) q = tt
ended_told (in_arguments p a x us ∷ fs) (punctuator m.Dot) q = tt
ended_told (in_arguments p a x us ∷ fs) (punctuator m.Colon) q = tt
ended_told (in_arguments p a x us ∷ fs) (punctuator m.Question) q = tt
ended_told (in_arguments p a x us ∷ fs) (punctuator m.Not) q = tt
ended_told (in_arguments p a x us ∷ fs) (punctuator m.Minus) q = tt
ended_told (in_arguments p a x us ∷ fs) (punctuator m.Plus) q = tt
ended_told (in_arguments p a x us ∷ fs) (punctuator m.Star) q = tt
ended_told (in_arguments p a x us ∷ fs) (punctuator m.Slash) q = tt
ended_told (in_arguments p a x us ∷ fs) (punctuator m.Percent) q = tt
ended_told (in_arguments p a x us ∷ fs) (punctuator m.Less) q = tt
ended_told (in_arguments p a x us ∷ fs) (punctuator m.LessOrEqual) q = tt
ended_told (in_arguments p a x us ∷ fs) (punctuator m.Greater) q = tt
ended_told (in_arguments p a x us ∷ fs) (punctuator m.GreaterOrEqual) q = tt
ended_told (in_arguments p a x us ∷ fs) (punctuator m.Equal) q = tt
ended_told (in_arguments p a x us ∷ fs) (punctuator m.NotEqual) q = tt
ended_told (in_arguments p a x us ∷ fs) (punctuator m.And) q = tt
ended_told (in_arguments p a x us ∷ fs) (punctuator m.Or) q = tt
ended_told (in_arguments p a x us ∷ fs) (word y) q = tt
ended_told (in_arguments p a x us ∷ fs) (number y) q = tt
ended_told (in_arguments p a x us ∷ fs) (quoted y) q = tt
ended_told [] (punctuator k) q = tt
ended_told [] (word y) q = tt
ended_told [] (number y) q = tt
ended_told [] (quoted y) q = tt
ended_told (in_round p ∷ fs) (punctuator k) q = tt
ended_told (in_round p ∷ fs) (word y) q = tt
ended_told (in_round p ∷ fs) (number y) q = tt
ended_told (in_round p ∷ fs) (quoted y) q = tt
ended_told (in_value p es o a ∷ fs) (punctuator k) q = tt
ended_told (in_value p es o a ∷ fs) (word y) q = tt
ended_told (in_value p es o a ∷ fs) (number y) q = tt
ended_told (in_value p es o a ∷ fs) (quoted y) q = tt
ended_told (in_index a o ∷ fs) (punctuator k) q = tt
ended_told (in_index a o ∷ fs) (word y) q = tt
ended_told (in_index a o ∷ fs) (number y) q = tt
ended_told (in_index a o ∷ fs) (quoted y) q = tt
ended_told (after_sign s p ∷ fs) (punctuator k) q = tt
ended_told (after_sign s p ∷ fs) (word y) q = tt
ended_told (after_sign s p ∷ fs) (number y) q = tt
ended_told (after_sign s p ∷ fs) (quoted y) q = tt
ended_told (after_operator a op l ∷ fs) (punctuator k) q = tt
ended_told (after_operator a op l ∷ fs) (word y) q = tt
ended_told (after_operator a op l ∷ fs) (number y) q = tt
ended_told (after_operator a op l ∷ fs) (quoted y) q = tt
ended_told (after_question c ∷ fs) (punctuator k) q = tt
ended_told (after_question c ∷ fs) (word y) q = tt
ended_told (after_question c ∷ fs) (number y) q = tt
ended_told (after_question c ∷ fs) (quoted y) q = tt
ended_told (after_colon c a ∷ fs) (punctuator k) q = tt
ended_told (after_colon c a ∷ fs) (word y) q = tt
ended_told (after_colon c a ∷ fs) (number y) q = tt
ended_told (after_colon c a ∷ fs) (quoted y) q = tt

-- ---- behind a minus

value_told : (o : Option Data) (q : Place) (fs : List Frame) (c : Bool) → Told (machine.literal_or o q fs None) (c || is_some o)
value_told None q fs c = tt
value_told (Some v) q fs c = or_right c true refl

operand_told : (b : Bool) (o : Option Data) (q : Place) (fs : List Frame) (p : Option State) (c : Bool) → Told p c
    → Told (if b then machine.literal_or o q fs None else p) (c || is_some o)
operand_told true o q fs p c h = value_told o q fs c
operand_told false o q fs p c h = told_left p c (is_some o) h

not_told : (b : Bool) (o : Option Data) (q : Place) (fs : List Frame) → Told (if b then machine.literal_or o q fs None else None) (b && is_some o)
not_told true None q fs = tt
not_told true (Some v) q fs = refl
not_told false o q fs = tt

signed_told : (f : Option Frame) (fs : List Frame) (t : Token) (q : Place) → Told (machine.begin_signed f fs (at t q)) (begins_operand t)
signed_told None fs t q = tt
signed_told (Some f) fs t q = begin_told (f ∷ fs) t q

minus_told : (fs : List Frame) (t : Token) (p q : Place) → Told (machine.after_minus p fs (at t q)) (describes (after_minus fs) t)
minus_told (after_sign u.Not r ∷ fs) t p q = not_told (takes_minus t) (literal_value true t) (across p q) (after_sign u.Not r ∷ fs)
minus_told (after_sign u.Negate r ∷ fs) t p q = operand_told (takes_minus t) (literal_value true t) (across p q) (after_sign u.Negate r ∷ fs) (machine.begin_signed (machine.sign_after (after_sign u.Negate r ∷ fs) u.Negate p) (after_sign u.Negate r ∷ fs) (at t q)) (begins_operand t)
    (signed_told (machine.sign_after (after_sign u.Negate r ∷ fs) u.Negate p) (after_sign u.Negate r ∷ fs) t q)
minus_told [] t p q = operand_told (takes_minus t) (literal_value true t) (across p q) [] (machine.begin_signed (machine.sign_after [] u.Negate p) [] (at t q)) (begins_operand t)
    (signed_told (machine.sign_after [] u.Negate p) [] t q)
minus_told (in_round r ∷ fs) t p q = operand_told (takes_minus t) (literal_value true t) (across p q) (in_round r ∷ fs) (machine.begin_signed (machine.sign_after (in_round r ∷ fs) u.Negate p) (in_round r ∷ fs) (at t q)) (begins_operand t)
    (signed_told (machine.sign_after (in_round r ∷ fs) u.Negate p) (in_round r ∷ fs) t q)
minus_told (in_list r is o ∷ fs) t p q = operand_told (takes_minus t) (literal_value true t) (across p q) (in_list r is o ∷ fs) (machine.begin_signed (machine.sign_after (in_list r is o ∷ fs) u.Negate p) (in_list r is o ∷ fs) (at t q)) (begins_operand t)
    (signed_told (machine.sign_after (in_list r is o ∷ fs) u.Negate p) (in_list r is o ∷ fs) t q)
minus_told (in_key r es o ∷ fs) t p q = operand_told (takes_minus t) (literal_value true t) (across p q) (in_key r es o ∷ fs) (machine.begin_signed (machine.sign_after (in_key r es o ∷ fs) u.Negate p) (in_key r es o ∷ fs) (at t q)) (begins_operand t)
    (signed_told (machine.sign_after (in_key r es o ∷ fs) u.Negate p) (in_key r es o ∷ fs) t q)
minus_told (in_value r es o a ∷ fs) t p q = operand_told (takes_minus t) (literal_value true t) (across p q) (in_value r es o a ∷ fs) (machine.begin_signed (machine.sign_after (in_value r es o a ∷ fs) u.Negate p) (in_value r es o a ∷ fs) (at t q)) (begins_operand t)
    (signed_told (machine.sign_after (in_value r es o a ∷ fs) u.Negate p) (in_value r es o a ∷ fs) t q)
minus_told (in_arguments r a x us ∷ fs) t p q = operand_told (takes_minus t) (literal_value true t) (across p q) (in_arguments r a x us ∷ fs) (machine.begin_signed (machine.sign_after (in_arguments r a x us ∷ fs) u.Negate p) (in_arguments r a x us ∷ fs) (at t q)) (begins_operand t)
    (signed_told (machine.sign_after (in_arguments r a x us ∷ fs) u.Negate p) (in_arguments r a x us ∷ fs) t q)
minus_told (in_index a o ∷ fs) t p q = operand_told (takes_minus t) (literal_value true t) (across p q) (in_index a o ∷ fs) (machine.begin_signed (machine.sign_after (in_index a o ∷ fs) u.Negate p) (in_index a o ∷ fs) (at t q)) (begins_operand t)
    (signed_told (machine.sign_after (in_index a o ∷ fs) u.Negate p) (in_index a o ∷ fs) t q)
minus_told (after_operator a op l ∷ fs) t p q = operand_told (takes_minus t) (literal_value true t) (across p q) (after_operator a op l ∷ fs) (machine.begin_signed (machine.sign_after (after_operator a op l ∷ fs) u.Negate p) (after_operator a op l ∷ fs) (at t q)) (begins_operand t)
    (signed_told (machine.sign_after (after_operator a op l ∷ fs) u.Negate p) (after_operator a op l ∷ fs) t q)
minus_told (after_question c ∷ fs) t p q = operand_told (takes_minus t) (literal_value true t) (across p q) (after_question c ∷ fs) (machine.begin_signed (machine.sign_after (after_question c ∷ fs) u.Negate p) (after_question c ∷ fs) (at t q)) (begins_operand t)
    (signed_told (machine.sign_after (after_question c ∷ fs) u.Negate p) (after_question c ∷ fs) t q)
minus_told (after_colon c a ∷ fs) t p q = operand_told (takes_minus t) (literal_value true t) (across p q) (after_colon c a ∷ fs) (machine.begin_signed (machine.sign_after (after_colon c a ∷ fs) u.Negate p) (after_colon c a ∷ fs) (at t q)) (begins_operand t)
    (signed_told (machine.sign_after (after_colon c a ∷ fs) u.Negate p) (after_colon c a ∷ fs) t q)

-- ---- what follows an operand

first_not : (fs : List Frame) → asks (settled (Some 5) fs) ≡ true → closing_of (settled None fs) ≡ closing.Branch
first_not [] h = absurd (cc)
first_not (after_sign s p ∷ fs) h = first_not fs h
first_not (after_operator a op k ∷ fs) h = by (nat_le k 5) (λ g. first_not fs g) h
  where
    by : (c : Bool) → (asks (settled (Some 5) fs) ≡ true → closing_of (settled None fs) ≡ closing.Branch)
        → asks (if c then settled (Some 5) fs else after_operator a op k ∷ fs) ≡ true → closing_of (settled None fs) ≡ closing.Branch
    by true f g = f g
    by false f g = absurd (cc)
first_not (after_question c ∷ fs) h = refl
first_not (after_colon c a ∷ fs) h = absurd (cc)
first_not (in_round p ∷ fs) h = absurd (cc)
first_not (in_list p is o ∷ fs) h = absurd (cc)
first_not (in_key p es o ∷ fs) h = absurd (cc)
first_not (in_value p es o a ∷ fs) h = absurd (cc)
first_not (in_arguments p a x us ∷ fs) h = absurd (cc)
first_not (in_index a o ∷ fs) h = absurd (cc)

-- the same whether a condition asks or not
pub ending_is : (fs : List Frame) → ending fs ≡ closing_of (settled None fs)
ending_is fs = by (is_asking fs) refl
  where
    by : (c : Bool) → is_asking fs ≡ c → (if c then closing.Branch else closing_of (settled None fs)) ≡ closing_of (settled None fs)
    by true e = sym (first_not fs e)
    by false e = refl

either_true : (c d : Bool) → (c || d) ≡ true → (c ≡ false → d ≡ true)
either_true true d h g = absurd (cc)
either_true false d h g = h

ends_told : (c : Closing) (k : Punctuator) → ends c k ≡ true → ends_part c k ≡ true
ends_told closing.Text k h = h
ends_told closing.Round k h = h
ends_told closing.Argument k h = h
ends_told closing.Index k h = h
ends_told closing.Item k h = h
ends_told closing.Key k h = h
ends_told closing.Value k h = h
ends_told closing.Branch k h = absurd (cc)

colon_told : (fs : List Frame) → takes fs m.Colon ≡ true → ends_part (ending fs) m.Colon ≡ true
colon_told fs h = by (is_asking fs) refl
  where
    by : (c : Bool) → is_asking fs ≡ c → ends_part (ending fs) m.Colon ≡ true
    by true e = ap (λ x. ends_part x m.Colon) (ending_is fs ∙ first_not fs e)
    by false e = ap (λ x. ends_part x m.Colon) (ending_is fs)
        ∙ ends_told (closing_of (settled None fs)) m.Colon (either_true (is_asking fs) (ends (closing_of (settled None fs)) m.Colon) h e)

closer_told : (fs : List Frame) (k : Punctuator) → ends (closing_of (settled None fs)) k ≡ true → (is_operator_mark k || ends_part (ending fs) k) ≡ true
closer_told fs k h = or_right (is_operator_mark k) (ends_part (ending fs) k)
    (ap (λ x. ends_part x k) (ending_is fs) ∙ ends_told (closing_of (settled None fs)) k h)

some_true : (c : Bool) (o : Option State) → Is c o → Told o c
some_true true None h = absurd (h refl)
some_true true (Some s) h = refl
some_true false None h = tt
some_true false (Some s) h = absurd (cc)

told_more : (o : Option State) (c d : Bool) → (c ≡ true → d ≡ true) → Told o c → Told o d
told_more None c d f h = tt
told_more (Some s) c d f h = f h

goes_told : (fs : List Frame) (k : Punctuator) → goes_on fs (link_of k) ≡ true → goes_on_with (ending fs) (punctuator k) ≡ true
goes_told fs m.OpenRound h = refl
goes_told fs m.CloseRound h = closer_told fs m.CloseRound h
goes_told fs m.OpenSquare h = refl
goes_told fs m.CloseSquare h = closer_told fs m.CloseSquare h
goes_told fs m.OpenBrace h = closer_told fs m.OpenBrace h
goes_told fs m.CloseBrace h = closer_told fs m.CloseBrace h
goes_told fs m.Comma h = closer_told fs m.Comma h
goes_told fs m.Dot h = refl
goes_told fs m.Colon h = colon_told fs h
goes_told fs m.Question h = refl
goes_told fs m.Not h = closer_told fs m.Not h
goes_told fs m.Minus h = refl
goes_told fs m.Plus h = refl
goes_told fs m.Star h = refl
goes_told fs m.Slash h = refl
goes_told fs m.Percent h = refl
goes_told fs m.Less h = refl
goes_told fs m.LessOrEqual h = refl
goes_told fs m.Greater h = refl
goes_told fs m.GreaterOrEqual h = refl
goes_told fs m.Equal h = refl
goes_told fs m.NotEqual h = refl
goes_told fs m.And h = refl
goes_told fs m.Or h = refl

mark_after_told : (fs : List Frame) (t : Tree) (k : Punctuator) (q : Place)
    → Told (machine.after_member fs t (at (punctuator k) q)) (goes_on_with (ending fs) (punctuator k))
mark_after_told fs t k q =
    subst (λ o. Told o (goes_on_with (ending fs) (punctuator k))) (sym (mark_linked k fs t q))
    (told_more (linked (link_of k) fs t q) (goes_on fs (link_of k)) (goes_on_with (ending fs) (punctuator k)) (goes_told fs k)
    (some_true (goes_on fs (link_of k)) (linked (link_of k) fs t q) (linked_is (link_of k) fs t q)))

word_if : (c : Bool) (o : Option State) → Told (if c then o else None) c
word_if true None = tt
word_if true (Some s) = refl
word_if false o = tt

after_told : (fs : List Frame) (u : Tree) (t : Token) (q : Place) → Told (machine.after_member fs u (at t q)) (goes_on_with (ending fs) t)
after_told fs u (punctuator k) q = mark_after_told fs u k q
after_told fs u (word x) q =
    subst (λ o. Told o (bytes_eq x (codes "in"))) (sym (word_linked x fs u q)) (word_if (bytes_eq x (codes "in")) (linked (link.Operator 3 b.In) fs u q))
after_told fs u (number s) q = tt
after_told fs u (quoted s) q = tt

round_told : (fs : List Frame) (t : Token) (s : State) (o : Option State) → Told o (goes_on_with (ending fs) t)
    → Told (machine.round_by (machine.mark_of t) s o) (goes_on_with (ending fs) t)
round_told fs (word x) s o h = h
round_told fs (number x) s o h = h
round_told fs (quoted x) s o h = h
round_told fs (punctuator m.OpenRound) s o h = refl
round_told fs (punctuator m.CloseRound) s o h = h
round_told fs (punctuator m.OpenSquare) s o h = h
round_told fs (punctuator m.CloseSquare) s o h = h
round_told fs (punctuator m.OpenBrace) s o h = h
round_told fs (punctuator m.CloseBrace) s o h = h
round_told fs (punctuator m.Comma) s o h = h
round_told fs (punctuator m.Dot) s o h = h
round_told fs (punctuator m.Colon) s o h = h
round_told fs (punctuator m.Question) s o h = h
round_told fs (punctuator m.Not) s o h = h
round_told fs (punctuator m.Minus) s o h = h
round_told fs (punctuator m.Plus) s o h = h
round_told fs (punctuator m.Star) s o h = h
round_told fs (punctuator m.Slash) s o h = h
round_told fs (punctuator m.Percent) s o h = h
round_told fs (punctuator m.Less) s o h = h
round_told fs (punctuator m.LessOrEqual) s o h = h
round_told fs (punctuator m.Greater) s o h = h
round_told fs (punctuator m.GreaterOrEqual) s o h = h
round_told fs (punctuator m.Equal) s o h = h
round_told fs (punctuator m.NotEqual) s o h = h
round_told fs (punctuator m.And) s o h = h
round_told fs (punctuator m.Or) s o h = h

-- ---- fields and indices

field_told : (t : Token) (p : Place) (f : List ℕ → State) → Told (machine.field_by t p f) (is_field t)
field_told (word x) p f = told_if (is_selector x) (f x)
field_told (number s) p f = tt
field_told (quoted s) p f = tt
field_told (punctuator k) p f = tt

dot_told : (fs : List Frame) (u : Tree) (t : Token) (q : Place) → Told (machine.dot_by (machine.mark_of t) fs u (at t q)) (is_field t || is_question t)
dot_told fs u (word x) q = told_left (machine.field_by (word x) q (λ y. (machine.fielded u q y, fs))) (is_selector x) false (field_told (word x) q (λ y. (machine.fielded u q y, fs)))
dot_told fs u (number s) q = tt
dot_told fs u (quoted s) q = tt
dot_told fs u (punctuator m.OpenRound) q = tt
dot_told fs u (punctuator m.CloseRound) q = tt
dot_told fs u (punctuator m.OpenSquare) q = tt
dot_told fs u (punctuator m.CloseSquare) q = tt
dot_told fs u (punctuator m.OpenBrace) q = tt
dot_told fs u (punctuator m.CloseBrace) q = tt
dot_told fs u (punctuator m.Comma) q = tt
dot_told fs u (punctuator m.Dot) q = tt
dot_told fs u (punctuator m.Colon) q = tt
dot_told fs u (punctuator m.Question) q = refl
dot_told fs u (punctuator m.Not) q = tt
dot_told fs u (punctuator m.Minus) q = tt
dot_told fs u (punctuator m.Plus) q = tt
dot_told fs u (punctuator m.Star) q = tt
dot_told fs u (punctuator m.Slash) q = tt
dot_told fs u (punctuator m.Percent) q = tt
dot_told fs u (punctuator m.Less) q = tt
dot_told fs u (punctuator m.LessOrEqual) q = tt
dot_told fs u (punctuator m.Greater) q = tt
dot_told fs u (punctuator m.GreaterOrEqual) q = tt
dot_told fs u (punctuator m.Equal) q = tt
dot_told fs u (punctuator m.NotEqual) q = tt
dot_told fs u (punctuator m.And) q = tt
dot_told fs u (punctuator m.Or) q = tt

index_told : (fs : List Frame) (u : Tree) (t : Token) (q : Place) → Told (machine.step (machine.indexed u) fs (at t q)) (begins_operand t || is_question t)
index_told fs u (word x) q = told_left (machine.begin (in_index u false ∷ fs) (at (word x) q)) (begins_operand (word x)) (is_question (word x)) (begin_told (in_index u false ∷ fs) (word x) q)
index_told fs u (number x) q = told_left (machine.begin (in_index u false ∷ fs) (at (number x) q)) (begins_operand (number x)) (is_question (number x)) (begin_told (in_index u false ∷ fs) (number x) q)
index_told fs u (quoted x) q = told_left (machine.begin (in_index u false ∷ fs) (at (quoted x) q)) (begins_operand (quoted x)) (is_question (quoted x)) (begin_told (in_index u false ∷ fs) (quoted x) q)
index_told fs u (punctuator m.OpenRound) q = told_left (machine.begin (in_index u false ∷ fs) (at (punctuator m.OpenRound) q)) (begins_operand (punctuator m.OpenRound)) (is_question (punctuator m.OpenRound)) (begin_told (in_index u false ∷ fs) (punctuator m.OpenRound) q)
index_told fs u (punctuator m.CloseRound) q = told_left (machine.begin (in_index u false ∷ fs) (at (punctuator m.CloseRound) q)) (begins_operand (punctuator m.CloseRound)) (is_question (punctuator m.CloseRound)) (begin_told (in_index u false ∷ fs) (punctuator m.CloseRound) q)
index_told fs u (punctuator m.OpenSquare) q = told_left (machine.begin (in_index u false ∷ fs) (at (punctuator m.OpenSquare) q)) (begins_operand (punctuator m.OpenSquare)) (is_question (punctuator m.OpenSquare)) (begin_told (in_index u false ∷ fs) (punctuator m.OpenSquare) q)
index_told fs u (punctuator m.CloseSquare) q = told_left (machine.begin (in_index u false ∷ fs) (at (punctuator m.CloseSquare) q)) (begins_operand (punctuator m.CloseSquare)) (is_question (punctuator m.CloseSquare)) (begin_told (in_index u false ∷ fs) (punctuator m.CloseSquare) q)
index_told fs u (punctuator m.OpenBrace) q = told_left (machine.begin (in_index u false ∷ fs) (at (punctuator m.OpenBrace) q)) (begins_operand (punctuator m.OpenBrace)) (is_question (punctuator m.OpenBrace)) (begin_told (in_index u false ∷ fs) (punctuator m.OpenBrace) q)
index_told fs u (punctuator m.CloseBrace) q = told_left (machine.begin (in_index u false ∷ fs) (at (punctuator m.CloseBrace) q)) (begins_operand (punctuator m.CloseBrace)) (is_question (punctuator m.CloseBrace)) (begin_told (in_index u false ∷ fs) (punctuator m.CloseBrace) q)
index_told fs u (punctuator m.Comma) q = told_left (machine.begin (in_index u false ∷ fs) (at (punctuator m.Comma) q)) (begins_operand (punctuator m.Comma)) (is_question (punctuator m.Comma)) (begin_told (in_index u false ∷ fs) (punctuator m.Comma) q)
index_told fs u (punctuator m.Dot) q = told_left (machine.begin (in_index u false ∷ fs) (at (punctuator m.Dot) q)) (begins_operand (punctuator m.Dot)) (is_question (punctuator m.Dot)) (begin_told (in_index u false ∷ fs) (punctuator m.Dot) q)
index_told fs u (punctuator m.Colon) q = told_left (machine.begin (in_index u false ∷ fs) (at (punctuator m.Colon) q)) (begins_operand (punctuator m.Colon)) (is_question (punctuator m.Colon)) (begin_told (in_index u false ∷ fs) (punctuator m.Colon) q)
index_told fs u (punctuator m.Question) q = refl
index_told fs u (punctuator m.Not) q = told_left (machine.begin (in_index u false ∷ fs) (at (punctuator m.Not) q)) (begins_operand (punctuator m.Not)) (is_question (punctuator m.Not)) (begin_told (in_index u false ∷ fs) (punctuator m.Not) q)
index_told fs u (punctuator m.Minus) q = told_left (machine.begin (in_index u false ∷ fs) (at (punctuator m.Minus) q)) (begins_operand (punctuator m.Minus)) (is_question (punctuator m.Minus)) (begin_told (in_index u false ∷ fs) (punctuator m.Minus) q)
index_told fs u (punctuator m.Plus) q = told_left (machine.begin (in_index u false ∷ fs) (at (punctuator m.Plus) q)) (begins_operand (punctuator m.Plus)) (is_question (punctuator m.Plus)) (begin_told (in_index u false ∷ fs) (punctuator m.Plus) q)
index_told fs u (punctuator m.Star) q = told_left (machine.begin (in_index u false ∷ fs) (at (punctuator m.Star) q)) (begins_operand (punctuator m.Star)) (is_question (punctuator m.Star)) (begin_told (in_index u false ∷ fs) (punctuator m.Star) q)
index_told fs u (punctuator m.Slash) q = told_left (machine.begin (in_index u false ∷ fs) (at (punctuator m.Slash) q)) (begins_operand (punctuator m.Slash)) (is_question (punctuator m.Slash)) (begin_told (in_index u false ∷ fs) (punctuator m.Slash) q)
index_told fs u (punctuator m.Percent) q = told_left (machine.begin (in_index u false ∷ fs) (at (punctuator m.Percent) q)) (begins_operand (punctuator m.Percent)) (is_question (punctuator m.Percent)) (begin_told (in_index u false ∷ fs) (punctuator m.Percent) q)
index_told fs u (punctuator m.Less) q = told_left (machine.begin (in_index u false ∷ fs) (at (punctuator m.Less) q)) (begins_operand (punctuator m.Less)) (is_question (punctuator m.Less)) (begin_told (in_index u false ∷ fs) (punctuator m.Less) q)
index_told fs u (punctuator m.LessOrEqual) q = told_left (machine.begin (in_index u false ∷ fs) (at (punctuator m.LessOrEqual) q)) (begins_operand (punctuator m.LessOrEqual)) (is_question (punctuator m.LessOrEqual)) (begin_told (in_index u false ∷ fs) (punctuator m.LessOrEqual) q)
index_told fs u (punctuator m.Greater) q = told_left (machine.begin (in_index u false ∷ fs) (at (punctuator m.Greater) q)) (begins_operand (punctuator m.Greater)) (is_question (punctuator m.Greater)) (begin_told (in_index u false ∷ fs) (punctuator m.Greater) q)
index_told fs u (punctuator m.GreaterOrEqual) q = told_left (machine.begin (in_index u false ∷ fs) (at (punctuator m.GreaterOrEqual) q)) (begins_operand (punctuator m.GreaterOrEqual)) (is_question (punctuator m.GreaterOrEqual)) (begin_told (in_index u false ∷ fs) (punctuator m.GreaterOrEqual) q)
index_told fs u (punctuator m.Equal) q = told_left (machine.begin (in_index u false ∷ fs) (at (punctuator m.Equal) q)) (begins_operand (punctuator m.Equal)) (is_question (punctuator m.Equal)) (begin_told (in_index u false ∷ fs) (punctuator m.Equal) q)
index_told fs u (punctuator m.NotEqual) q = told_left (machine.begin (in_index u false ∷ fs) (at (punctuator m.NotEqual) q)) (begins_operand (punctuator m.NotEqual)) (is_question (punctuator m.NotEqual)) (begin_told (in_index u false ∷ fs) (punctuator m.NotEqual) q)
index_told fs u (punctuator m.And) q = told_left (machine.begin (in_index u false ∷ fs) (at (punctuator m.And) q)) (begins_operand (punctuator m.And)) (is_question (punctuator m.And)) (begin_told (in_index u false ∷ fs) (punctuator m.And) q)
index_told fs u (punctuator m.Or) q = told_left (machine.begin (in_index u false ∷ fs) (at (punctuator m.Or) q)) (begins_operand (punctuator m.Or)) (is_question (punctuator m.Or)) (begin_told (in_index u false ∷ fs) (punctuator m.Or) q)

step_told : (x : Mode) (fs : List Frame) (t : Token) (q : Place) → Told (machine.step x fs (at t q)) (describes (expected x fs) t)
step_told machine.needs fs t q = told_left (machine.begin fs (at t q)) (begins_operand t) (is_some (literal_value true t)) (begin_told fs t q)
step_told machine.opened fs t q = opened_told fs t q
step_told machine.more fs t q = more_told fs t q
step_told machine.ended fs t q = ended_told fs t q
step_told (machine.minus p) fs t q = minus_told fs t p q
step_told (machine.named p x) fs t q = round_told fs t _ (machine.after_member fs (tree.ident p x) (at t q)) (after_told fs (tree.ident p x) t q)
step_told (machine.has u) fs t q = after_told fs u t q
step_told (machine.dotted u) fs t q = dot_told fs u t q
step_told (machine.dot_marked u) fs t q = field_told t q (λ x. (machine.has (machine.selected u true q x), fs))
step_told (machine.fielded u p x) fs t q =
    round_told fs t _ (machine.after_member fs (machine.selected u false p x) (at t q)) (after_told fs (machine.selected u false p x) t q)
step_told (machine.indexed u) fs t q = index_told fs u t q

-- What the machine takes is described.
pub taken_is_described : (x : Mode) (fs : List Frame) (k : Placed) (s : State) → machine.step x fs k ≡ Some s → describes (expected x fs) k.token ≡ true
taken_is_described x fs k s e = subst (λ o. Told o (describes (expected x fs) k.token)) e (step_told x fs k.token k.place)
