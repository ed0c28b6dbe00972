-- The parser reads whatever the grammar derives.
use Rattle.std.proofs.Common.{◌≡◌, ℕ, suc, zero, ◌+◌, ◌<◌, ◌≤◌, refl, sym, ◌∙◌, ap, arith, Bool, true, false, Some, None, List, [], ◌∷◌, length, ◌&&◌, add-one, add-zero}
use Rattle.std.specs.Prelude.{nat_le, nat_eq, max}
use Rattle.std.proofs.lemmas.Bool.{le-leb}
use Rattle.std.proofs.lemmas.Bool.Decides.{nat_tests}
use Rattle.cel_value.specs.Data.{Data}
use Rattle.cel_syntax_lexer.specs.declared.punctuator.Punctuator.{Punctuator}
use Rattle.cel_syntax_lexer.specs.declared.punctuator.Punctuator.TheVariants as m
use Rattle.cel_syntax_lexer.specs.Token.{Token, word, number, quoted, punctuator}
use Rattle.cel_syntax_ast.specs.Term as tree
use Rattle.cel_syntax_ast.specs.Term.{Term, terms_of, pairs_of}
use Rattle.cel_syntax_ast.specs.declared.expr.UnaryOperator.{UnaryOperator}
use Rattle.cel_syntax_ast.specs.declared.expr.UnaryOperator.TheVariants as u
use Rattle.cel_syntax_ast.specs.declared.expr.BinaryOperator.{BinaryOperator}
use Rattle.cel_syntax_lexer.specs.Literal.{literal_value}
use Rattle.cel_syntax.specs.Operator.{sign, operator, operator_of, is_operator_before}
use Rattle.cel_syntax_ast.specs.Calls.{parts_level}
use Rattle.cel_syntax.specs.Grammar.{OptionalComma, without, with_comma, Expression, plain, conditional, Chain, operand, tighter, binary, Prefixed, unary_expression, Signed, unsigned, signed_member, Member, primary, select, method, index, Primary, ident, call, round, list, map, literal, negative, Items, no_items, items, SomeItems, last_item, more_items, Entries, no_entries, entries, SomeEntries, last_entry, more_entries, Pair, pair, Derives}
use Rattle.cel_syntax.specs.Ahead as ahead
use Rattle.cel_syntax.specs.Parser as p
use Rattle.cel_syntax.specs.Ahead.{same_punctuator, sees, sees_end, goes_on, operator_at, sees_sign}
use Rattle.cel_syntax.specs.Parser.{Parser, Found, slack}
use Rattle.cel_syntax.proofs.Steps.{sees_itself, above_at, token_operator_at, no_operator, no_tighter, identifier_value}
use Rattle.cel_syntax.proofs.Rows as rows
use Rattle.cel_syntax.proofs.Rows.{Rows, last_row, more_rows}
use Rattle.cel_syntax.proofs.Levels.{slack_all, several, call_fits, method_slack, expression_level}

comma_takes : {ts rest : List Token} → OptionalComma ts rest → length rest ≤ length ts
comma_takes without = omega arith
comma_takes with_comma = omega arith

-- Each derivation takes at least one token.
mutual
  pub expression_takes : {ts rest : List Token} {t : Term} {l : ℕ} → Expression ts rest t l → length rest < length ts
  expression_takes (plain d) = chain_takes d
  expression_takes (conditional d a b) = omega (arith, chain_takes d, chain_takes a, expression_takes b)

  pub chain_takes : {k : ℕ} {ts rest : List Token} {t : Term} {l : ℕ} → Chain k ts rest t l → length rest < length ts
  chain_takes (operand d) = prefixed_takes d
  chain_takes (tighter d) = chain_takes d
  chain_takes (binary a o b) = omega (arith, chain_takes a, chain_takes b)

  pub prefixed_takes : {ts rest : List Token} {t : Term} {l : ℕ} → Prefixed ts rest t l → length rest < length ts
  prefixed_takes (unary_expression d) = signed_takes d

  pub signed_takes : {s : UnaryOperator} {ts rest : List Token} {t : Term} {l : ℕ} → Signed s ts rest t l → length rest < length ts
  signed_takes (unsigned d) = member_takes d
  signed_takes (signed_member h d) = omega (arith, signed_takes d)

  pub member_takes : {ts rest : List Token} {t : Term} {l : ℕ} → Member ts rest t l → length rest < length ts
  member_takes (primary d) = primary_takes d
  member_takes (select d h) = omega (arith, member_takes d)
  member_takes (method d h a is) = omega (arith, member_takes d, items_takes a)
  member_takes (index d i) = omega (arith, member_takes d, expression_takes i)

  pub primary_takes : {ts rest : List Token} {t : Term} {l : ℕ} → Primary ts rest t l → length rest < length ts
  primary_takes (ident h) = omega arith
  primary_takes (call h d is) = omega (arith, items_takes d)
  primary_takes (round d) = omega (arith, expression_takes d)
  primary_takes (list d c) = omega (arith, items_takes d, comma_takes c)
  primary_takes (map d c) = omega (arith, entries_takes d, comma_takes c)
  primary_takes (literal h) = omega arith
  primary_takes (negative h is) = omega arith

  pub items_takes : {ts rest : List Token} {us : List Term} {l : ℕ} → Items ts rest us l → length rest ≤ length ts
  items_takes no_items = omega arith
  items_takes (items d) = omega (arith, some_items_take d)

  pub some_items_take : {ts rest : List Token} {us : List Term} {l : ℕ} → SomeItems ts rest us l → length rest + length us ≤ length ts
  some_items_take (last_item d) = omega (arith, expression_takes d)
  some_items_take (more_items d ds) = omega (arith, expression_takes d, some_items_take ds)

  pub entries_takes : {ts rest : List Token} {ps : List (Term × Term)} {l : ℕ} → Entries ts rest ps l → length rest ≤ length ts
  entries_takes no_entries = omega arith
  entries_takes (entries d) = omega (arith, some_entries_take d)

  pub some_entries_take : {ts rest : List Token} {ps : List (Term × Term)} {l : ℕ} → SomeEntries ts rest ps l → length rest + length ps ≤ length ts
  some_entries_take (last_entry d) = omega (arith, pair_takes d)
  some_entries_take (more_entries d ds) = omega (arith, pair_takes d, some_entries_take ds)

  pub pair_takes : {ts rest : List Token} {a b : Term} {l : ℕ} → Pair ts rest a b l → length rest < length ts
  pair_takes (pair a b) = omega (arith, expression_takes a, expression_takes b)

-- No literal is a punctuator.
literal_first : (b : Bool) (k : Token) (ts : List Token) (v : Data) → literal_value b k ≡ Some v → sees_end (k ∷ ts) ≡ false
literal_first b (word w) ts v e = refl
literal_first b (number ds) ts v e = refl
literal_first b (quoted q) ts v e = refl
literal_first b (punctuator n) ts v e = absurd (cc)

sign_first : (s : UnaryOperator) (ts : List Token) → sees_end (punctuator (sign s) ∷ ts) ≡ false
sign_first u.Not ts = refl
sign_first u.Negate ts = refl

-- No expression begins with a comma or a closing bracket.
mutual
  pub expression_first : {ts rest : List Token} {t : Term} {l : ℕ} → Expression ts rest t l → sees_end ts ≡ false
  expression_first (plain d) = chain_first d
  expression_first (conditional d a b) = chain_first d

  pub chain_first : {k : ℕ} {ts rest : List Token} {t : Term} {l : ℕ} → Chain k ts rest t l → sees_end ts ≡ false
  chain_first (operand d) = prefixed_first d
  chain_first (tighter d) = chain_first d
  chain_first (binary a o b) = chain_first a

  pub prefixed_first : {ts rest : List Token} {t : Term} {l : ℕ} → Prefixed ts rest t l → sees_end ts ≡ false
  prefixed_first (unary_expression d) = signed_first d

  pub signed_first : {s : UnaryOperator} {ts rest : List Token} {t : Term} {l : ℕ} → Signed s ts rest t l → sees_end ts ≡ false
  signed_first (unsigned d) = member_first d
  signed_first (signed_member {s = s} {ts = ts} h d) = sign_first s ts

  pub member_first : {ts rest : List Token} {t : Term} {l : ℕ} → Member ts rest t l → sees_end ts ≡ false
  member_first (primary d) = primary_first d
  member_first (select d h) = member_first d
  member_first (method d h a is) = member_first d
  member_first (index d i) = member_first d

  pub primary_first : {ts rest : List Token} {t : Term} {l : ℕ} → Primary ts rest t l → sees_end ts ≡ false
  primary_first (ident h) = refl
  primary_first (call h d is) = refl
  primary_first (round d) = refl
  primary_first (list d c) = refl
  primary_first (map d c) = refl
  primary_first (literal {rest = rest} {k = k} {v = v} e) = literal_first false k rest v e
  primary_first (negative h is) = refl

some_items_first : {ts rest : List Token} {us : List Term} {l : ℕ} → SomeItems ts rest us l → sees_end ts ≡ false
some_items_first (last_item d) = expression_first d
some_items_first (more_items d ds) = expression_first d

pair_first : {ts rest : List Token} {a b : Term} {l : ℕ} → Pair ts rest a b l → sees_end ts ≡ false
pair_first (pair a b) = expression_first a

some_entries_first : {ts rest : List Token} {ps : List (Term × Term)} {l : ℕ} → SomeEntries ts rest ps l → sees_end ts ≡ false
some_entries_first (last_entry d) = pair_first d
some_entries_first (more_entries d ds) = pair_first d

-- A member doesn't begin with a sign, except the minus of a number.
literal_sign : (s : UnaryOperator) (k : Token) (ts : List Token) (v : Data) → literal_value false k ≡ Some v → sees_sign s (k ∷ ts) ≡ false
unfolding sees_sign
literal_sign s (word w) ts v e = refl
literal_sign s (number ds) ts v e = refl
literal_sign s (quoted q) ts v e = refl
literal_sign s (punctuator n) ts v e = absurd (cc)

primary_sign : (s : UnaryOperator) {ts rest : List Token} {t : Term} {l : ℕ} → Primary ts rest t l → sees_sign s ts ≡ false
unfolding sees_sign same_punctuator
primary_sign s (ident h) = refl
primary_sign s (call h d is) = refl
primary_sign u.Not (round d) = refl
primary_sign u.Negate (round d) = refl
primary_sign u.Not (list d c) = refl
primary_sign u.Negate (list d c) = refl
primary_sign u.Not (map d c) = refl
primary_sign u.Negate (map d c) = refl
primary_sign s (literal {rest = rest} {k = k} {v = v} e) = literal_sign s k rest v e
primary_sign u.Not (negative h is) = refl
primary_sign u.Negate (negative h is) = rw h

member_sign : (s : UnaryOperator) {ts rest : List Token} {t : Term} {l : ℕ} → Member ts rest t l → sees_sign s ts ≡ false
member_sign s (primary d) = primary_sign s d
member_sign s (select d h) = member_sign s d
member_sign s (method d h a is) = member_sign s d
member_sign s (index d i) = member_sign s d

first_true : (b : Bool) → (b && true) ≡ false → b ≡ false
first_true true h = h
first_true false h = refl

member_not : {ts rest : List Token} {t : Term} {l : ℕ} → Member ts rest t l → sees m.Not ts ≡ false
unfolding sees_sign
member_not {ts} d = first_true (sees m.Not ts) (member_sign u.Not d)

-- every sign comes before its operand
sees_one : (s : UnaryOperator) (ts : List Token) → is_operator_before s ts ≡ true → sees_sign s (punctuator (sign s) ∷ ts) ≡ true
unfolding sees_sign
sees_one s ts h = rw (sees_itself (sign s) ts, h)

one_sign : (s : UnaryOperator) (ts : List Token) → is_operator_before s ts ≡ true → ahead.signs s (punctuator (sign s) ∷ ts) ≡ ((ahead.signs s ts).0 + 1, (ahead.signs s ts).1)
unfolding ahead.signs
one_sign s ts h = rw (sees_one s ts h)

no_signs : (s : UnaryOperator) (ts : List Token) → sees_sign s ts ≡ false → ahead.signs s ts ≡ (0, ts)
unfolding ahead.signs
no_signs s [] h = refl
no_signs s (t ∷ ts) h = rw h

wrapped_at : (limit : ℕ) (s : UnaryOperator) (n : ℕ) (t : Term) (l : ℕ) (ts : List Token) → l + n ≤ limit + slack (p.wrap s n t)
    → p.with_signs limit s n (t, l) ts ≡ Some ((p.wrap s n t, l + n), ts)
unfolding p.with_signs p.wrap
wrapped_at limit s zero t l ts h = rw add-zero
wrapped_at limit s (suc n) t l ts h =
    let no : nat_eq (suc n) 0 ≡ false = grind (arith, nat_tests) in
    let fits : nat_le (l + suc n) limit ≡ true = le-leb _ _ (omega arith) in
    rw (no, fits)

-- Nothing of the first k levels continues here.
pub record Ends (k : ℕ) (ts : List Token) : Type 0 where
  pub dot : sees m.Dot ts ≡ false
  pub bracket : sees m.OpenRound ts ≡ false
  pub square : sees m.OpenSquare ts ≡ false
  pub operators : (j : ℕ) → j ≤ k → operator_at j ts ≡ None

-- No expression continues here.
pub record Closes (ts : List Token) : Type 0 where
  pub ends : Ends 5 ts
  pub question : sees m.Question ts ≡ false

pub closes_end : Closes []
unfolding operator_at
closes_end = record { ends = record { dot = refl; bracket = refl; square = refl; operators = λ j h. refl }; question = refl }

closes_punctuator : (k : Punctuator) (ts : List Token) → operator_of k ≡ None → same_punctuator k m.Dot ≡ false → same_punctuator k m.OpenRound ≡ false
    → same_punctuator k m.OpenSquare ≡ false → same_punctuator k m.Question ≡ false → Closes (punctuator k ∷ ts)
unfolding operator_at
closes_punctuator k ts none a b c d = record { ends = record { dot = a; bracket = b; square = c; operators = λ j h. rw none }; question = d }

closes_round : (ts : List Token) → Closes (punctuator m.CloseRound ∷ ts)
unfolding same_punctuator
closes_round ts = closes_punctuator m.CloseRound ts refl refl refl refl refl

closes_square : (ts : List Token) → Closes (punctuator m.CloseSquare ∷ ts)
unfolding same_punctuator
closes_square ts = closes_punctuator m.CloseSquare ts refl refl refl refl refl

closes_brace : (ts : List Token) → Closes (punctuator m.CloseBrace ∷ ts)
unfolding same_punctuator
closes_brace ts = closes_punctuator m.CloseBrace ts refl refl refl refl refl

closes_comma : (ts : List Token) → Closes (punctuator m.Comma ∷ ts)
unfolding same_punctuator
closes_comma ts = closes_punctuator m.Comma ts refl refl refl refl refl

closes_colon : (ts : List Token) → Closes (punctuator m.Colon ∷ ts)
unfolding same_punctuator
closes_colon ts = closes_punctuator m.Colon ts refl refl refl refl refl

ends_question : (ts : List Token) → Ends 5 (punctuator m.Question ∷ ts)
unfolding same_punctuator operator_at
ends_question ts = record { dot = refl; bracket = refl; square = refl; operators = λ j h. refl }

ends_operator : (k : ℕ) (o : Token) (ts : List Token) (op : BinaryOperator) → operator o ≡ Some (suc k, op) → Ends k (o ∷ ts)
ends_operator k (punctuator n) ts op e = record {
  dot = no_operator n m.Dot _ e refl;
  bracket = no_operator n m.OpenRound _ e refl;
  square = no_operator n m.OpenSquare _ e refl;
  operators = λ j h. no_tighter j k (punctuator n) ts op e h;
}
ends_operator k (word w) ts op e = record { dot = refl; bracket = refl; square = refl; operators = λ j h. no_tighter j k (word w) ts op e h }
ends_operator k (number ds) ts op e = absurd (cc)
ends_operator k (quoted q) ts op e = absurd (cc)

fewer : (k : ℕ) (ts : List Token) → Ends (suc k) ts → Ends k ts
fewer k ts ends = record { dot = ends.dot; bracket = ends.bracket; square = ends.square; operators = λ j h. ends.operators j (omega arith) }

-- Nothing continues before a closing bracket, or before a comma and a closing bracket.
record Over (ts : List Token) : Type 0 where
  closes : Closes ts
  no_more : goes_on ts ≡ false
  end : sees_end ts ≡ true

over_round : (ts : List Token) → Over (punctuator m.CloseRound ∷ ts)
unfolding same_punctuator
over_round ts = record { closes = closes_round ts; no_more = refl; end = refl }

over_square : (ts rest : List Token) → OptionalComma ts (punctuator m.CloseSquare ∷ rest) → Over ts
unfolding same_punctuator
over_square ts rest without = record { closes = closes_square rest; no_more = refl; end = refl }
over_square ts rest with_comma = record { closes = closes_comma (punctuator m.CloseSquare ∷ rest); no_more = refl; end = refl }

over_brace : (ts rest : List Token) → OptionalComma ts (punctuator m.CloseBrace ∷ rest) → Over ts
unfolding same_punctuator
over_brace ts rest without = record { closes = closes_brace rest; no_more = refl; end = refl }
over_brace ts rest with_comma = record { closes = closes_comma (punctuator m.CloseBrace ∷ rest); no_more = refl; end = refl }

closed_at : (limit : ℕ) (k : Punctuator) (t : Term) (l : ℕ) (rest : List Token) → l + 1 ≤ limit + slack t
    → p.up_to_mark limit k t l (punctuator k ∷ rest) ≡ Some ((t, l + 1), rest)
unfolding p.up_to_mark
closed_at limit k t l rest h = rw (sees_itself k rest, above_at {t = t} limit l rest h)

closed_list_at : (limit : ℕ) (k : Punctuator) (t : Term) (l : ℕ) (ts rest : List Token) → same_punctuator k m.Comma ≡ false → OptionalComma ts (punctuator k ∷ rest)
    → l + 1 ≤ limit + slack t → p.up_to_comma_and_mark limit k t l ts ≡ Some ((t, l + 1), rest)
unfolding p.up_to_comma_and_mark
closed_list_at limit k t l ts rest other without h = rw (other, closed_at limit k t l rest h)
closed_list_at limit k t l ts rest other with_comma h = rw (sees_itself m.Comma (punctuator k ∷ rest), closed_at limit k t l rest h)

module _ (limit : ℕ) (sub : Parser Found)
    (below : (ts rest : List Token) (t : Term) (l : ℕ) → Expression ts rest t l → l + 1 ≤ limit + slack t → Closes rest → sub ts ≡ Some ((t, l), rest)) where
  rows_of_items : {ts rest : List Token} {us : List Term} {l : ℕ} → SomeItems ts rest us l → l + 1 ≤ limit + slack_all us → Closes rest → Rows sub ts rest us l
  rows_of_items (last_item d) h closes = last_row (below _ _ _ _ d h closes)
  rows_of_items (more_items {next = next} {t = t} d ds) h closes =
      let none = several t ds in
      more_rows (below _ _ _ _ d (omega (arith, none)) (closes_comma next)) (some_items_first ds) (rows_of_items ds (omega (arith, none)) closes)

  complete_items : {ts rest : List Token} {us : List Term} {l : ℕ} → Items ts rest us l → l + 1 ≤ limit + slack_all us → Over rest
      → p.items limit sub ts ≡ Some ((us, l), rest)
  unfolding p.items
  complete_items (no_items {ts = ts}) h over = rows.no_items sub ts over.end
  complete_items (items d) h over =
      rows.complete_items (rows_of_items d h over.closes) (some_items_first d) over.no_more (omega (arith, some_items_take d))

  complete_pair : {ts rest : List Token} {a b : Term} {l : ℕ} → Pair ts rest a b l → l + 1 ≤ limit → Closes rest
      → p.pair limit sub ts ≡ Some (((a, b), l), rest)
  unfolding p.pair same_punctuator
  complete_pair (pair {values = mid} da db) h closes = rw (below _ _ _ _ da (omega arith) (closes_colon mid), below _ _ _ _ db (omega arith) closes)

  rows_of_entries : {ts rest : List Token} {ps : List (Term × Term)} {l : ℕ} → SomeEntries ts rest ps l → l + 1 ≤ limit → Closes rest
      → Rows (p.pair limit sub) ts rest ps l
  rows_of_entries (last_entry d) h closes = last_row (complete_pair d h closes)
  rows_of_entries (more_entries {next = next} d ds) h closes =
      more_rows (complete_pair d (omega arith) (closes_comma next)) (some_entries_first ds) (rows_of_entries ds (omega arith) closes)

  complete_entries : {ts rest : List Token} {ps : List (Term × Term)} {l : ℕ} → Entries ts rest ps l → l + 1 ≤ limit → Over rest
      → p.entries limit sub ts ≡ Some ((ps, l), rest)
  unfolding p.entries
  complete_entries (no_entries {ts = ts}) h over = rows.no_items (p.pair limit sub) ts over.end
  complete_entries (entries d) h over =
      rows.complete_items (rows_of_entries d h over.closes) (some_entries_first d) over.no_more (omega (arith, some_entries_take d))

  complete_arguments : {ts rest : List Token} {us : List Term} {l : ℕ} → Items ts (punctuator m.CloseRound ∷ rest) us l → l + 1 ≤ limit + slack_all us
      → p.arguments limit sub ts ≡ Some ((us, l), rest)
  unfolding p.arguments
  complete_arguments {rest = rest} d h = rw (complete_items d h (over_round rest), sees_itself m.CloseRound rest)

  complete_primary : {ts rest : List Token} {t : Term} {l : ℕ} → Primary ts rest t l → l ≤ limit + slack t → sees m.OpenRound rest ≡ false
      → p.primary limit sub ts ≡ Some ((t, l), rest)
  unfolding p.primary p.name_or_call p.call_arguments p.round p.list p.map p.negative same_punctuator
  complete_primary (ident {w = w} r) h ends = rw (identifier_value w r, r, ends)
  complete_primary (call {rest = rest} {w = w} {us = us} {t = t} {l = l} r d is) h ends =
      rw (identifier_value w r, r, complete_arguments d (call_fits limit w us t l is h), is, above_at {t = t} limit (parts_level t l) rest h)
  complete_primary (round {rest = rest} {t = t} {l = l} d) h ends =
      rw (below _ _ _ _ d h (closes_round rest), closed_at limit m.CloseRound t l rest h)
  complete_primary (list {mid = mid} {rest = rest} {us = us} {l = l} d c) h ends =
      rw (complete_items d (omega arith) (over_square mid rest c), closed_list_at limit m.CloseSquare (tree.list_of (terms_of us)) l mid rest refl c h)
  complete_primary (map {mid = mid} {rest = rest} {ps = ps} {l = l} d c) h ends =
      rw (complete_entries d (omega arith) (over_brace mid rest c), closed_list_at limit m.CloseBrace (tree.map_with (pairs_of ps)) l mid rest refl c h)
  complete_primary (literal e) h ends = rw e
  complete_primary (negative takes is) h ends = rw (takes, is)

  -- From a link in the middle, the parser continues with the remaining links.
  abbrev Reaches : List Token → List Token → Term → ℕ → Type 0
  Reaches ts rest t l = (n : ℕ) × (limit + 1 ≤ n + l) × (p.member limit sub ts ≡ p.links limit sub n t l rest)

  link : (ts mid rest : List Token) (t u : Term) (l lu : ℕ) → Reaches ts mid t l → l < lu → lu ≤ limit + 1
      → ((n : ℕ) → p.links limit sub (suc n) t l mid ≡ p.links limit sub n u lu rest) → Reaches ts rest u lu
  link ts mid rest t u l lu (zero, h, e) grows fits step = absurd (omega arith)
  link ts mid rest t u l lu (suc n, h, e) grows fits step = (n, omega arith, e ∙ step n)

  complete_links : {ts rest : List Token} {t : Term} {l : ℕ} → Member ts rest t l → l ≤ limit + slack t → sees m.OpenRound rest ≡ false
      → Reaches ts rest t l
  unfolding p.member p.links p.field p.selection_or_method p.method p.index same_punctuator
  complete_links (primary d) h ends = (limit + 1, omega arith, rw (complete_primary d h ends))
  complete_links (select {rest = rest} {t = t} {l = l} {w = w} d r) h ends =
      link _ _ _ _ _ _ _ (complete_links d (omega arith) refl) (omega arith) h (λ n. rw (r, ends, above_at {t = tree.select t w} limit l rest h))
  complete_links (method {rest = rest} {t = t} {u = u} {l = l} {la = la} {w = w} {us = us} d r a is) h ends =
      let none = method_slack t w us u is in
      link _ _ _ _ _ _ _ (complete_links d (omega (arith, none)) refl) (omega arith) (omega (arith, none))
      (λ n. rw (r, complete_arguments a (omega (arith, none)), is, above_at {t = u} limit (max l la) rest h))
  complete_links (index {rest = rest} {t = t} {i = i} {l = l} {li = li} d inner) h ends =
      link _ _ _ _ _ _ _ (complete_links d (omega arith) refl) (omega arith) (omega arith)
      (λ n. rw (below _ _ _ _ inner (omega arith) (closes_square rest), closed_at limit m.CloseSquare (tree.index t i) (max l li) rest h))

  no_links : (n : ℕ) (t : Term) (l : ℕ) (ts : List Token) → Ends 0 ts → p.links limit sub n t l ts ≡ Some ((t, l), ts)
  unfolding p.links
  no_links zero t l ts ends = rw (ends.dot, ends.square)
  no_links (suc n) t l ts ends = rw (ends.dot, ends.square)

  complete_member : {ts rest : List Token} {t : Term} {l : ℕ} → Member ts rest t l → l ≤ limit + slack t → Ends 0 rest
      → p.member limit sub ts ≡ Some ((t, l), rest)
  complete_member {ts} {rest} {t} {l} d h ends = let r = complete_links d h ends.bracket in r.2 ∙ no_links r.0 t l rest ends

  -- the number of signs, and the member after them
  record Wrapped (s : UnaryOperator) (ts rest : List Token) (t : Term) (l : ℕ) : Type 0 where
    inside : Term
    low : ℕ
    reads : p.member limit sub (ahead.signs s ts).1 ≡ Some ((inside, low), rest)
    tree : p.wrap s (ahead.signs s ts).0 inside ≡ t
    level : low + (ahead.signs s ts).0 ≡ l

  complete_signs : {s : UnaryOperator} {ts rest : List Token} {t : Term} {l : ℕ} → Signed s ts rest t l → l ≤ limit + slack t → Ends 0 rest → Wrapped s ts rest t l
  unfolding p.wrap
  complete_signs (unsigned {s = s} {ts = ts} {t = t} {l = l} d) h ends =
      let none = no_signs s ts (member_sign s d) in
      record { inside = t; low = l; reads = rw none (complete_member d h ends); tree = rw none; level = rw none (omega arith) }
  complete_signs (signed_member {s = s} {ts = ts} before d) h ends =
      let r = complete_signs d (omega arith) ends in
      let one = one_sign s ts before in
      record { inside = r.inside; low = r.low; reads = rw one r.reads; tree = rw (one, add-one) (ap (tree.unary s) r.tree); level = rw one (omega (arith, r.level)) }

  complete_signed : {s : UnaryOperator} {ts rest : List Token} {t : Term} {l : ℕ} → Signed s ts rest t l → l ≤ limit + slack t → Ends 0 rest
      → p.signed_member limit sub s ts ≡ Some ((t, l), rest)
  unfolding p.signed_member
  complete_signed {s} {ts} {rest} {t} {l} d h ends =
      let r = complete_signs d h ends in
      let fits : r.low + (ahead.signs s ts).0 ≤ limit + slack (p.wrap s (ahead.signs s ts).0 r.inside) = rw (r.tree, r.level) h in
      let whole = wrapped_at limit s (ahead.signs s ts).0 r.inside r.low rest fits in
      rw (r.reads) (whole ∙ rw (r.tree, r.level))

  complete_prefixed : {ts rest : List Token} {t : Term} {l : ℕ} → Prefixed ts rest t l → l ≤ limit + slack t → Ends 0 rest
      → p.unary_expression limit sub ts ≡ Some ((t, l), rest)
  unfolding p.unary_expression same_punctuator
  complete_prefixed (unary_expression (unsigned d)) h ends = rw (member_not d) (complete_signed {s = u.Negate} (unsigned d) h ends)
  complete_prefixed (unary_expression (signed_member {s = u.Not} before d)) h ends = complete_signed (signed_member before d) h ends
  complete_prefixed (unary_expression (signed_member {s = u.Negate} before d)) h ends = complete_signed (signed_member before d) h ends

  -- the same for a chain of operators of one level, given that the lower levels are read
  module _ (k : ℕ)
      (tighter_ones : (ts rest : List Token) (t : Term) (l : ℕ) → Chain k ts rest t l → l ≤ limit + slack t → Ends k rest → p.chain limit sub k ts ≡ Some ((t, l), rest)) where
    abbrev Turns : List Token → List Token → Term → ℕ → Type 0
    Turns ts rest t l = (n : ℕ) × (limit ≤ n + l) × (p.chain limit sub (suc k) ts ≡ p.turns limit sub (p.chain limit sub k) (suc k) n t l rest)

    turn : (ts mid rest : List Token) (t u : Term) (l lu : ℕ) → Turns ts mid t l → l < lu → lu ≤ limit
        → ((n : ℕ) → p.turns limit sub (p.chain limit sub k) (suc k) (suc n) t l mid ≡ p.turns limit sub (p.chain limit sub k) (suc k) n u lu rest) → Turns ts rest u lu
    turn ts mid rest t u l lu (zero, h, e) grows fits step = absurd (omega arith)
    turn ts mid rest t u l lu (suc n, h, e) grows fits step = (n, omega arith, e ∙ step n)

    complete_turns : {ts rest : List Token} {t : Term} {l : ℕ} → Chain (suc k) ts rest t l → l ≤ limit + slack t → Ends k rest → Turns ts rest t l
    unfolding p.chain p.turns
    complete_turns (tighter d) h ends = (limit, omega arith, rw (tighter_ones _ _ _ _ d h ends))
    complete_turns (binary {right = right} {rest = rest} {o = o} {op = op} {a = a} {b = b} {la = la} {lb = lb} da is db) h ends =
        turn _ _ _ _ _ _ _ (complete_turns da (omega arith) (ends_operator k o right op is)) (omega arith) (omega arith)
        (λ n. rw (token_operator_at (suc k) o right op is, tighter_ones _ _ _ _ db (omega arith) ends, above_at {t = tree.binary op a b} limit (max la lb) rest h))

    no_turns : (n : ℕ) (t : Term) (l : ℕ) (ts : List Token) → operator_at (suc k) ts ≡ None
        → p.turns limit sub (p.chain limit sub k) (suc k) n t l ts ≡ Some ((t, l), ts)
    unfolding p.turns
    no_turns zero t l ts none = rw none
    no_turns (suc n) t l ts none = rw none

  complete_chain : (k : ℕ) (ts rest : List Token) (t : Term) (l : ℕ) → Chain k ts rest t l → l ≤ limit + slack t → Ends k rest → p.chain limit sub k ts ≡ Some ((t, l), rest)
  unfolding p.chain
  complete_chain zero ts rest t l (operand d) h ends = complete_prefixed d h ends
  complete_chain (suc k) ts rest t l d h ends =
      let r = complete_turns k (complete_chain k) d h (fewer k rest ends) in
      r.2 ∙ no_turns k (complete_chain k) r.0 t l rest (ends.operators (suc k) (omega arith))

  complete_expression : (ts rest : List Token) (t : Term) (l : ℕ) → Expression ts rest t l → l ≤ limit + slack t → Closes rest → p.expression limit sub ts ≡ Some ((t, l), rest)
  unfolding p.expression p.branches same_punctuator
  complete_expression ts rest t l (plain d) h closes = rw (complete_chain 5 _ _ _ _ d h closes.ends, closes.question)
  complete_expression ts rest t l (conditional {when_true = mid} {when_false = late} {c = c} {t = a} {f = b} {lc = lc} {lt = la} {lf = lb} dc da db) h closes =
      rw (
        complete_chain 5 _ _ _ _ dc (omega arith) (ends_question mid),
        complete_chain 5 _ _ _ _ da (omega arith) (closes_colon late).ends,
        below _ _ _ _ db (omega arith) closes,
        above_at {t = tree.conditional c a b} limit (max lc (max la lb)) rest h,
      )

-- An expression of a level within the limit is read as such.
pub complete : (limit : ℕ) (ts rest : List Token) (t : Term) (l : ℕ) → Expression ts rest t l → l ≤ limit + slack t → Closes rest → p.expr limit ts ≡ Some ((t, l), rest)
unfolding p.expr
complete zero ts rest t l d h closes =
    complete_expression zero p.refuse (λ ts' rest' t' l' d' h' _. absurd (none_below t' l' d' h')) ts rest t l d h closes
  where
    none_below : {ts' rest' : List Token} (t' : Term) (l' : ℕ) → Expression ts' rest' t' l' → l' + 1 ≤ 0 + slack t' → ⊥
    none_below t' l' d' h' = omega (arith, expression_level d')
complete (suc limit) ts rest t l d h closes =
    complete_expression (suc limit) (p.expr limit) (λ ts' rest' t' l' d' h' c. complete limit ts' rest' t' l' d' (omega arith) c) ts rest t l d h closes

pub complete_parse : (ts : List Token) (t : Term) → Derives ts t → p.tree_of_tokens ts ≡ Some t
unfolding p.tree_of_tokens
complete_parse ts t (l, d, h) =
    let fits : nat_le l 250 ≡ true = le-leb l 250 h in
    rw (complete p.max_level ts [] t l d (omega arith) closes_end, fits)

some_same : {A : Type 0} {a b : A} → Some a ≡ Some b → a ≡ b
some_same e = cc

pub one_tree : (ts : List Token) (t u : Term) → Derives ts t → Derives ts u → t ≡ u
one_tree ts t u a b = some_same (sym (complete_parse ts t a) ∙ complete_parse ts u b)
