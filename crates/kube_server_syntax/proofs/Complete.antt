-- The machine reads whatever the grammar derives.
use Rattle.std.proofs.Common.{◌≡◌, ◌∙◌, ℕ, suc, refl, sym, ap, arith, Bool, true, false, not, if◌then◌else◌, Option, Some, None, option_map, List, [], ◌∷◌, ◌++◌}
use Rattle.std.proofs.lemmas.Bool.Decides.{nat_tests}
use Rattle.cel_value.specs.Data.{Data}
use Rattle.cel_syntax.specs.Literal.{takes_minus, literal_value}
use Rattle.cel_syntax.specs.Token.{word, punctuator}
use Rattle.cel_syntax.specs.Punctuator.{Punctuator}
use Rattle.cel_syntax.specs.Punctuator.TheVariants as m
use Rattle.cel_syntax.specs.BinaryOperator.{BinaryOperator}
use Rattle.cel_syntax.specs.UnaryOperator.{UnaryOperator}
use Rattle.cel_syntax.specs.UnaryOperator.TheVariants as u
use Rattle.cel_syntax.specs.Words.{is_identifier, is_selector}
use Rattle.cel_syntax.specs.Operator.{sign, operator}
use Rattle.cel_syntax.proofs.Steps.{identifier_value}
use Rattle.kube_server_syntax.specs.Grammar as g
use Rattle.kube_server_syntax.specs.Grammar.{Expression, Chain, Operators, Prefixed, Signed, Member, Links, Primary, Arguments, MoreArguments, ItemList, MoreItems, EntryList, MoreEntries, OptionalMark, OptionalComma, IsOperatorBefore}
use Rattle.kube_server_syntax.specs.Machine.{Frame, in_round, in_list, in_key, in_value, in_arguments, in_index, after_sign, after_operator, after_question, after_colon, needs, opened, more, ended, minus, named, has, dotted, dot_marked, fielded, indexed, State, step, begin_by_token, begin_signed, literal_or, by_sign, sign_after, reduced, selected, mark_of, operand_by, operator_by, question_by, read, steps, goes, start, tree_at_end}
use Rattle.kube_server_syntax.specs.Placed.{Placed, across, is_mark}
use Rattle.kube_server_syntax.specs.Tree as tree
use Rattle.kube_server_syntax.specs.Tree.{Tree, Trees, place_of, trees_of, items_of, entries_of}
use Rattle.kube_server_syntax.specs.declared.node.Place.{Place}
use Rattle.kube_server_syntax.proofs.Runs.{ends, runs, goes_to, follows, no_round, stops, is_stop, link_free, round_free, looser, token_follows, follows_less, stops_follow, follows_no_round, operator_free, operator_level, named_runs, fielded_runs, link_by_free, fits, stays, fits_less, opens, opens_fits, asks, sign_taken, operator_taken, colon_taken, both_true}
use Rattle.kube_server_syntax.proofs.Starts.{expression_starts, arguments_opened, list_marked, list_marked_more, key_marked, key_marked_more, index_marked}

-- ---- tokens that stop, or follow

mark_stops : (k : Placed) (n : Punctuator) → is_mark n k → is_stop (Some n) ≡ true → is_stop (mark_of k.token) ≡ true
mark_stops k n e h = ap (λ z. is_stop (mark_of z)) e ∙ h

mark_follows : (l : ℕ) (k : Placed) (n : Punctuator) → is_mark n k → token_follows l (punctuator n) ≡ true → token_follows l k.token ≡ true
mark_follows l k n e h = ap (token_follows l) e ∙ h

mark_no_round : (k : Placed) (n : Punctuator) → is_mark n k → round_free (Some n) ≡ true → round_free (mark_of k.token) ≡ true
mark_no_round k n e h = ap (λ z. round_free (mark_of z)) e ∙ h

-- What links lead to is no bracket of a call.
links_no_round : {t u : Tree} {ts rest : List Placed} → Links t ts rest u → follows 0 rest ≡ true → no_round ts ≡ true
links_no_round {ts = ts} g.no_link h = follows_no_round 0 ts h
links_no_round (g.select {d = d} e o w s ls) h = mark_no_round d m.Dot e refl
links_no_round (g.method {d = d} e w s r us c ls) h = mark_no_round d m.Dot e refl
links_no_round (g.index {b = b} e o i c ls) h = mark_no_round b m.OpenSquare e refl

looser_here : (k : ℕ) (o : Option (ℕ × BinaryOperator)) (op : BinaryOperator) → o ≡ Some (suc k, op) → looser k o ≡ true
looser_here k o op e = ap (looser k) e ∙ (grind (arith, nat_tests))

-- An operator of a level follows what ends below the level.
operators_follow : {k : ℕ} {t u : Tree} {ts rest : List Placed} → Operators k t ts rest u → follows (suc k) rest ≡ true → follows k ts ≡ true
operators_follow {k} {ts = ts} g.no_operator h = follows_less k (suc k) ts (omega arith) h
operators_follow {k} (g.one_operator {o = o} {op = op} e d ops) h =
    both_true (link_free (mark_of o.token)) (looser k (operator o.token)) (operator_free o.token (suc k) op e) (looser_here k (operator o.token) op e)

more_items_stop : {ts mid rest : List Placed} {c : Placed} {is : List (Bool × Tree)} → MoreItems ts mid is → OptionalComma mid (c ∷ rest)
    → is_mark m.CloseSquare c → stops ts ≡ true
more_items_stop {c = c} g.no_item g.without e = mark_stops c m.CloseSquare e refl
more_items_stop g.no_item (g.with_comma {c = k} h) e = mark_stops k m.Comma h refl
more_items_stop (g.item {c = k} h o d is) comma e = mark_stops k m.Comma h refl

more_entries_stop : {ts mid rest : List Placed} {c : Placed} {es : List (Bool × Tree × Tree)} → MoreEntries ts mid es → OptionalComma mid (c ∷ rest)
    → is_mark m.CloseBrace c → stops ts ≡ true
more_entries_stop {c = c} g.no_entry g.without e = mark_stops c m.CloseBrace e refl
more_entries_stop g.no_entry (g.with_comma {c = k} h) e = mark_stops k m.Comma h refl
more_entries_stop (g.entry {c = k} h o a kc b es) comma e = mark_stops k m.Comma h refl

more_arguments_stop : {ts rest : List Placed} {c : Placed} {us : List Tree} → MoreArguments ts (c ∷ rest) us → is_mark m.CloseRound c → stops ts ≡ true
more_arguments_stop {c = c} g.no_argument e = mark_stops c m.CloseRound e refl
more_arguments_stop (g.argument {c = k} h d us) e = mark_stops k m.Comma h refl

pub snoc_append : {A : Type 0} (xs : List A) (x : A) (ys : List A) → (xs ++ x ∷ []) ++ ys ≡ xs ++ x ∷ ys
snoc_append [] x ys = refl
snoc_append (z ∷ xs) x ys = ap (λ zs. z ∷ zs) (snoc_append xs x ys)

-- ---- first tokens

identifier_by : (b : Bool) (o : Option Data) (p : Place) (x : List ℕ) (fs : List Frame) → b ≡ true → o ≡ None
    → literal_or o p fs (if b then Some (named p x, fs) else None) ≡ Some (named p x, fs)
identifier_by true None p x fs h e = refl
identifier_by true (Some v) p x fs h e = absurd (cc (e))
identifier_by false o p x fs h e = absurd (cc (h))

ident_begins : (w : Placed) (x : List ℕ) (fs : List Frame) (ts : List Placed) → w.token ≡ word x → is_identifier x ≡ true
    → runs needs fs (w ∷ ts) ≡ runs (named w.place x) fs ts
ident_begins w x fs ts e h = goes_to needs fs w ts (word x) (Some (named w.place x, fs)) e
    (identifier_by (is_identifier x) (literal_value false (word x)) w.place x fs h (identifier_value x h))

literal_begins : (k : Placed) (v : Data) (fs : List Frame) (ts : List Placed) → literal_value false k.token ≡ Some v
    → runs needs fs (k ∷ ts) ≡ runs (has (tree.literal k.place v)) fs ts
literal_begins k v fs ts e = ap (λ o. ends (literal_or o k.place fs (begin_by_token k.token k.place fs)) ts) e

pub minus_by : (b : Bool) (o : Option Data) (v : Data) (p : Place) (fs : List Frame) (q : Option State) → b ≡ true → o ≡ Some v
    → (if b then literal_or o p fs None else q) ≡ Some (has (tree.literal p v), fs)
minus_by true None v p fs q h e = absurd (cc (e))
minus_by true (Some w) v p fs q h e = ap (λ (o : Option Data). literal_or o p fs None) e
minus_by false o v p fs q h e = absurd (cc (h))

negative_begins : (n k : Placed) (v : Data) (fs : List Frame) (ts : List Placed) → is_mark m.Minus n → takes_minus k.token ≡ true
    → literal_value true k.token ≡ Some v → runs needs fs (n ∷ k ∷ ts) ≡ runs (has (tree.literal (across n.place k.place) v)) fs ts
negative_begins n k v fs ts e h is = goes_to needs fs n (k ∷ ts) (punctuator m.Minus) (Some (minus n.place, fs)) e refl
    ∙ ap (λ o. ends o ts) (minus_by (takes_minus k.token) (literal_value true k.token) v (across n.place k.place) fs
    (begin_signed (sign_after fs u.Negate n.place) fs k) h is)

-- ---- signs

abbrev pub same_sign : UnaryOperator → UnaryOperator → Bool
same_sign u.Not u.Not = true
same_sign u.Negate u.Negate = true
same_sign _ _ = false

-- whether a sign may stand there
abbrev pub allows : UnaryOperator → List Frame → Bool
allows s (after_sign r p ∷ fs) = same_sign r s
allows s fs = true

by_same : (r s : UnaryOperator) (o : Option Frame) → same_sign r s ≡ true → by_sign r s o ≡ o
by_same u.Not u.Not o h = refl
by_same u.Not u.Negate o h = absurd (cc)
by_same u.Negate u.Not o h = absurd (cc)
by_same u.Negate u.Negate o h = refl

pub sign_there : (s : UnaryOperator) (fs : List Frame) (p : Place) → allows s fs ≡ true → sign_after fs s p ≡ Some (after_sign s p)
sign_there s [] p h = refl
sign_there s (after_sign r q ∷ fs) p h = by_same r s (Some (after_sign s p)) h
sign_there s (in_round q ∷ fs) p h = refl
sign_there s (in_list q is o ∷ fs) p h = refl
sign_there s (in_key q es o ∷ fs) p h = refl
sign_there s (in_value q es o a ∷ fs) p h = refl
sign_there s (in_arguments q a x us ∷ fs) p h = refl
sign_there s (in_index a o ∷ fs) p h = refl
sign_there s (after_operator a op k ∷ fs) p h = refl
sign_there s (after_question c ∷ fs) p h = refl
sign_there s (after_colon c a ∷ fs) p h = refl

fits_allows : (s : UnaryOperator) (fs : List Frame) → fits 0 fs ≡ true → allows s fs ≡ true
fits_allows s [] h = refl
fits_allows s (after_sign r q ∷ fs) h = absurd (cc)
fits_allows s (in_round q ∷ fs) h = refl
fits_allows s (in_list q is o ∷ fs) h = refl
fits_allows s (in_key q es o ∷ fs) h = refl
fits_allows s (in_value q es o a ∷ fs) h = refl
fits_allows s (in_arguments q a x us ∷ fs) h = refl
fits_allows s (in_index a o ∷ fs) h = refl
fits_allows s (after_operator a op k ∷ fs) h = refl
fits_allows s (after_question c ∷ fs) h = refl
fits_allows s (after_colon c a ∷ fs) h = refl

itself : (s : UnaryOperator) → same_sign s s ≡ true
itself u.Not = refl
itself u.Negate = refl

no_minus_by : (b : Bool) (p q : Option State) → not b ≡ true → (if b then p else q) ≡ q
no_minus_by true p q h = absurd (cc)
no_minus_by false p q h = refl

minus_sign : (p : Place) (fs : List Frame) (ts : List Placed) → allows u.Negate fs ≡ true → IsOperatorBefore u.Negate ts
    → runs (minus p) fs ts ≡ runs needs (after_sign u.Negate p ∷ fs) ts
minus_sign p fs [] h b = refl
minus_sign p fs (k ∷ ts) h b = ap (λ o. ends o ts)
    (no_minus_by (takes_minus k.token) (literal_or (literal_value true k.token) (across p k.place) fs None) (begin_signed (sign_after fs u.Negate p) fs k) b
    ∙ ap (λ o. begin_signed o fs k) (sign_there u.Negate fs p h))

sign_begins : (s : UnaryOperator) (k : Placed) (fs : List Frame) (ts : List Placed) → is_mark (sign s) k → IsOperatorBefore s ts
    → allows s fs ≡ true → runs needs fs (k ∷ ts) ≡ runs needs (after_sign s k.place ∷ fs) ts
sign_begins u.Not k fs ts e b h = goes_to needs fs k ts (punctuator m.Not) (Some (needs, after_sign u.Not k.place ∷ fs)) e
    (ap (option_map (λ (f : Frame). (needs, f ∷ fs))) (sign_there u.Not fs k.place h))
sign_begins u.Negate k fs ts e b h = goes_to needs fs k ts (punctuator m.Minus) (Some (minus k.place, fs)) e refl ∙ minus_sign k.place fs ts h b

-- ---- fields

field_there : (b : Bool) (s : State) → b ≡ true → ◌≡◌ {A = Option State} (if b then Some s else None) (Some s)
field_there true s h = refl
field_there false s h = absurd (cc (h))

-- a selected field behind a dot
field_runs : {o : Bool} {mark : List Placed} {w : Placed} {ts : List Placed} → OptionalMark o mark (w ∷ ts) → (t : Tree) (x : List ℕ) (fs : List Frame)
    → w.token ≡ word x → is_selector x ≡ true → no_round ts ≡ true → runs (dotted t) fs mark ≡ runs (has (selected t o w.place x)) fs ts
field_runs {w = w} {ts = ts} g.unmarked t x fs e s h =
    goes_to (dotted t) fs w ts (word x) (Some (fielded t w.place x, fs)) e (field_there (is_selector x) (fielded t w.place x, fs) s)
    ∙ fielded_runs t w.place x fs ts h
field_runs {w = w} {ts = ts} (g.marked {q = q} is) t x fs e s h =
    goes_to (dotted t) fs q (w ∷ ts) (punctuator m.Question) (Some (dot_marked t, fs)) is refl
    ∙ goes_to (dot_marked t) fs w ts (word x) (Some (has (selected t true w.place x), fs)) e
    (field_there (is_selector x) (has (selected t true w.place x), fs) s)

-- ---- operators

operator_by_some : (o : Option (ℕ × BinaryOperator)) (l : ℕ) (op : BinaryOperator) (fs : List Frame) (t : Tree) (k : Placed) → o ≡ Some (l, op)
    → reduced l fs t ≡ (t, fs) → operand_by o fs t k ≡ Some (needs, after_operator t op l ∷ fs)
operator_by_some o l op fs t k e r = ap (λ (o : Option (ℕ × BinaryOperator)). operand_by o fs t k) e
    ∙ ap (λ (r : Tree × List Frame). Some (operator_by l op r)) r

operator_steps : (k : ℕ) (t : Tree) (o : Placed) (op : BinaryOperator) (ts : List Placed) (fs : List Frame) → operator o.token ≡ Some (suc k, op)
    → fits (suc k) fs ≡ true → runs (has t) fs (o ∷ ts) ≡ runs needs (after_operator t op (suc k) ∷ fs) ts
operator_steps k t o op ts fs e f = ap (λ s. ends s ts)
    (link_by_free (mark_of o.token) fs t o (operator_free o.token (suc k) op e)
    ∙ operator_by_some (operator o.token) (suc k) op fs t o e (stays (suc k) fs t f))

-- ---- the productions

mutual
  expression_runs : {ts rest : List Placed} {t : Tree} → Expression ts rest t → (fs : List Frame) → opens fs ≡ true → stops rest ≡ true
      → runs needs fs ts ≡ runs (has t) fs rest
  expression_runs {rest = rest} (g.plain d) fs o h = chain_runs d fs (opens_fits 5 fs o) (stops_follow 5 rest h)
  expression_runs {rest = rest} (g.conditional {yes = first} {no = second} {q = q} {k = k} {c = c} {a = a} {b = b} dc eq da ek db) fs o h =
      chain_runs dc fs (opens_fits 5 fs o) (mark_follows 5 q m.Question eq refl)
      ∙ goes_to (has c) fs q first (punctuator m.Question) (Some (needs, after_question c ∷ fs)) eq
      (ap question_by (stays 5 fs c (opens_fits 5 fs o)) ∙ asks fs c o)
      ∙ chain_runs da (after_question c ∷ fs) refl (mark_follows 5 k m.Colon ek refl)
      ∙ goes_to (has a) (after_question c ∷ fs) k second (punctuator m.Colon) (Some (needs, after_colon c a ∷ fs)) ek refl
      ∙ expression_runs db (after_colon c a ∷ fs) refl h
      ∙ colon_taken c a fs b rest o h

  chain_runs : {l : ℕ} {ts rest : List Placed} {t : Tree} → Chain l ts rest t → (fs : List Frame) → fits l fs ≡ true → follows l rest ≡ true
      → runs needs fs ts ≡ runs (has t) fs rest
  chain_runs (g.operand d) fs f h = prefixed_runs d fs f h
  chain_runs (g.chain {k = k} d ops) fs f h =
      chain_runs d fs (fits_less k (suc k) fs (omega arith) f) (operators_follow ops h) ∙ operators_run ops fs f h

  operators_run : {k : ℕ} {t u : Tree} {ts rest : List Placed} → Operators k t ts rest u → (fs : List Frame) → fits (suc k) fs ≡ true
      → follows (suc k) rest ≡ true → runs (has t) fs ts ≡ runs (has u) fs rest
  operators_run g.no_operator fs f h = refl
  operators_run {k} (g.one_operator {t = t} {b = b} {o = o} {op = op} {ts = ts} {mid = mid} e d ops) fs f h =
      operator_steps k t o op ts fs e f
      ∙ chain_runs d (after_operator t op (suc k) ∷ fs) (grind (arith, nat_tests)) (operators_follow ops h)
      ∙ operator_taken t op k fs b mid (operator_level o.token (suc k) op e) (operators_follow ops h)
      ∙ operators_run ops fs f h

  prefixed_runs : {ts rest : List Placed} {t : Tree} → Prefixed ts rest t → (fs : List Frame) → fits 0 fs ≡ true → follows 0 rest ≡ true
      → runs needs fs ts ≡ runs (has t) fs rest
  prefixed_runs (g.signed {s = s} d) fs f h = signed_runs d fs (fits_allows s fs f) h

  signed_runs : {s : UnaryOperator} {ts rest : List Placed} {t : Tree} → Signed s ts rest t → (fs : List Frame) → allows s fs ≡ true
      → follows 0 rest ≡ true → runs needs fs ts ≡ runs (has t) fs rest
  signed_runs (g.unsigned d) fs a h = member_runs d fs h
  signed_runs {s} {rest = rest} (g.one_sign {k = k} {ts = ts} {t = t} e b d) fs a h =
      sign_begins s k fs ts e b a ∙ signed_runs d (after_sign s k.place ∷ fs) (itself s) h ∙ sign_taken s k.place fs t rest h

  member_runs : {ts rest : List Placed} {t : Tree} → Member ts rest t → (fs : List Frame) → follows 0 rest ≡ true
      → runs needs fs ts ≡ runs (has t) fs rest
  member_runs (g.member d ls) fs h = primary_runs d fs (links_no_round ls h) ∙ links_run ls fs h

  links_run : {t u : Tree} {ts rest : List Placed} → Links t ts rest u → (fs : List Frame) → follows 0 rest ≡ true
      → runs (has t) fs ts ≡ runs (has u) fs rest
  links_run g.no_link fs h = refl
  links_run (g.select {t = t} {d = d} {w = w} {x = x} {ts = ts} {mark = mark} e o ew s ls) fs h =
      goes_to (has t) fs d mark (punctuator m.Dot) (Some (dotted t, fs)) e refl
      ∙ field_runs o t x fs ew s (links_no_round ls h) ∙ links_run ls fs h
  links_run (g.method {t = t} {d = d} {w = w} {r = r} {c = c} {x = x} {args = args} {ts = ts} e ew s er das ec ls) fs h =
      goes_to (has t) fs d (w ∷ r ∷ args) (punctuator m.Dot) (Some (dotted t, fs)) e refl
      ∙ goes_to (dotted t) fs w (r ∷ args) (word x) (Some (fielded t w.place x, fs)) ew (field_there (is_selector x) (fielded t w.place x, fs) s)
      ∙ goes_to (fielded t w.place x) fs r args (punctuator m.OpenRound)
      (Some (opened, in_arguments (place_of t) (tree.tree_and t tree.no_trees) x [] ∷ fs)) er refl
      ∙ arguments_run das ec (place_of t) (tree.tree_and t tree.no_trees) x fs ∙ links_run ls fs h
  links_run (g.index {t = t} {i = i} {b = b} {c = c} {o = o} {mark = mark} {ts = ts} e om d ec ls) fs h =
      goes_to (has t) fs b mark (punctuator m.OpenSquare) (Some (indexed t, fs)) e refl
      ∙ index_marked om t fs (expression_starts d)
      ∙ expression_runs d (in_index t o ∷ fs) refl (mark_stops c m.CloseSquare ec refl)
      ∙ goes_to (has i) (in_index t o ∷ fs) c ts (punctuator m.CloseSquare) (Some (has (tree.index (across (place_of t) c.place) t o i), fs)) ec refl
      ∙ links_run ls fs h

  primary_runs : {ts rest : List Placed} {t : Tree} → Primary ts rest t → (fs : List Frame) → no_round rest ≡ true
      → runs needs fs ts ≡ runs (has t) fs rest
  primary_runs {rest = rest} (g.ident {w = w} {x = x} e i) fs h = ident_begins w x fs rest e i ∙ named_runs w.place x fs rest h
  primary_runs {rest = rest} (g.call {w = w} {r = r} {c = c} {x = x} {args = args} e i er us ec) fs h =
      ident_begins w x fs (r ∷ args) e i
      ∙ goes_to (named w.place x) fs r args (punctuator m.OpenRound) (Some (opened, in_arguments w.place tree.no_trees x [] ∷ fs)) er refl
      ∙ arguments_run us ec w.place tree.no_trees x fs
  primary_runs {rest = rest} (g.round {r = r} {c = c} {inner = inner} {t = t} er d ec) fs h =
      goes_to needs fs r inner (punctuator m.OpenRound) (Some (needs, in_round r.place ∷ fs)) er refl
      ∙ expression_runs d (in_round r.place ∷ fs) refl (mark_stops c m.CloseRound ec refl)
      ∙ goes_to (has t) (in_round r.place ∷ fs) c rest (punctuator m.CloseRound) (Some (has (tree.round (across r.place c.place) t), fs)) ec refl
  primary_runs {rest = rest} (g.list {b = b} {items = items} eb is comma ec) fs h =
      goes_to needs fs b items (punctuator m.OpenSquare) (Some (opened, in_list b.place [] false ∷ fs)) eb refl
      ∙ item_list_runs is comma ec b.place fs
  primary_runs {rest = rest} (g.map {b = b} {entries = entries} eb es comma ec) fs h =
      goes_to needs fs b entries (punctuator m.OpenBrace) (Some (opened, in_key b.place [] false ∷ fs)) eb refl
      ∙ entry_list_runs es comma ec b.place fs
  primary_runs {rest = rest} (g.literal {k = k} {v = v} e) fs h = literal_begins k v fs rest e
  primary_runs {rest = rest} (g.negative {n = n} {k = k} {v = v} en t e) fs h = negative_begins n k v fs rest en t e

  arguments_run : {args ts : List Placed} {c : Placed} {us : List Tree} → Arguments args (c ∷ ts) us → is_mark m.CloseRound c
      → (p : Place) (a : Trees) (x : List ℕ) (fs : List Frame)
      → runs opened (in_arguments p a x [] ∷ fs) args ≡ runs (has (tree.call (across p c.place) a x (trees_of us))) fs ts
  arguments_run {ts = ts} {c = c} g.no_arguments ec p a x fs =
      goes_to opened (in_arguments p a x [] ∷ fs) c ts (punctuator m.CloseRound) (Some (has (tree.call (across p c.place) a x tree.no_trees), fs)) ec refl
  arguments_run {args} (g.arguments {t = t} d us) ec p a x fs =
      arguments_opened p a x [] fs args (expression_starts d)
      ∙ expression_runs d (in_arguments p a x [] ∷ fs) refl (more_arguments_stop us ec)
      ∙ more_arguments_run us ec p a x [] t fs

  more_arguments_run : {args ts : List Placed} {c : Placed} {us : List Tree} → MoreArguments args (c ∷ ts) us → is_mark m.CloseRound c
      → (p : Place) (a : Trees) (x : List ℕ) (vs : List Tree) (t : Tree) (fs : List Frame)
      → runs (has t) (in_arguments p a x vs ∷ fs) args ≡ runs (has (tree.call (across p c.place) a x (trees_of (vs ++ t ∷ us)))) fs ts
  more_arguments_run {ts = ts} {c = c} g.no_argument ec p a x vs t fs =
      goes_to (has t) (in_arguments p a x vs ∷ fs) c ts (punctuator m.CloseRound)
      (Some (has (tree.call (across p c.place) a x (trees_of (vs ++ t ∷ []))), fs)) ec refl
  more_arguments_run {ts = rest} {c = close} (g.argument {c = c} {ts = ts} {t = v} {us = us} e d next) ec p a x vs t fs =
      goes_to (has t) (in_arguments p a x vs ∷ fs) c ts (punctuator m.Comma) (Some (needs, in_arguments p a x (vs ++ t ∷ []) ∷ fs)) e refl
      ∙ expression_runs d (in_arguments p a x (vs ++ t ∷ []) ∷ fs) refl (more_arguments_stop next ec)
      ∙ more_arguments_run next ec p a x (vs ++ t ∷ []) v fs
      ∙ ap (λ ws. runs (has (tree.call (across p close.place) a x (trees_of ws))) fs rest) (snoc_append vs t (v ∷ us))

  item_list_runs : {items mid ts : List Placed} {c : Placed} {is : List (Bool × Tree)} → ItemList items mid is → OptionalComma mid (c ∷ ts)
      → is_mark m.CloseSquare c → (p : Place) (fs : List Frame)
      → runs opened (in_list p [] false ∷ fs) items ≡ runs (has (tree.list_of (across p c.place) (items_of is))) fs ts
  item_list_runs {ts = ts} {c = c} g.no_items g.without ec p fs =
      goes_to opened (in_list p [] false ∷ fs) c ts (punctuator m.CloseSquare) (Some (has (tree.list_of (across p c.place) tree.no_items), fs)) ec refl
  item_list_runs {ts = ts} {c = c} g.no_items (g.with_comma {c = k} e) ec p fs =
      goes_to opened (in_list p [] false ∷ fs) k (c ∷ ts) (punctuator m.Comma) (Some (ended, in_list p [] false ∷ fs)) e refl
      ∙ goes_to ended (in_list p [] false ∷ fs) c ts (punctuator m.CloseSquare) (Some (has (tree.list_of (across p c.place) tree.no_items), fs)) ec refl
  item_list_runs (g.items {o = o} {t = t} om d next) comma ec p fs =
      list_marked om p [] fs (expression_starts d)
      ∙ expression_runs d (in_list p [] o ∷ fs) refl (more_items_stop next comma ec)
      ∙ more_items_run next comma ec p [] o t fs

  more_items_run : {items mid ts : List Placed} {c : Placed} {is : List (Bool × Tree)} → MoreItems items mid is → OptionalComma mid (c ∷ ts)
      → is_mark m.CloseSquare c → (p : Place) (js : List (Bool × Tree)) (o : Bool) (t : Tree) (fs : List Frame)
      → runs (has t) (in_list p js o ∷ fs) items ≡ runs (has (tree.list_of (across p c.place) (items_of (js ++ (o, t) ∷ is)))) fs ts
  more_items_run {ts = ts} {c = c} g.no_item g.without ec p js o t fs =
      goes_to (has t) (in_list p js o ∷ fs) c ts (punctuator m.CloseSquare)
      (Some (has (tree.list_of (across p c.place) (items_of (js ++ (o, t) ∷ []))), fs)) ec refl
  more_items_run {ts = ts} {c = c} g.no_item (g.with_comma {c = k} e) ec p js o t fs =
      goes_to (has t) (in_list p js o ∷ fs) k (c ∷ ts) (punctuator m.Comma) (Some (more, in_list p (js ++ (o, t) ∷ []) false ∷ fs)) e refl
      ∙ goes_to more (in_list p (js ++ (o, t) ∷ []) false ∷ fs) c ts (punctuator m.CloseSquare)
      (Some (has (tree.list_of (across p c.place) (items_of (js ++ (o, t) ∷ []))), fs)) ec refl
  more_items_run {ts = rest} {c = close} (g.item {c = c} {o = n} {mark = mark} {t = v} {is = is} e om d next) comma ec p js o t fs =
      goes_to (has t) (in_list p js o ∷ fs) c mark (punctuator m.Comma) (Some (more, in_list p (js ++ (o, t) ∷ []) false ∷ fs)) e refl
      ∙ list_marked_more om p (js ++ (o, t) ∷ []) fs (expression_starts d)
      ∙ expression_runs d (in_list p (js ++ (o, t) ∷ []) n ∷ fs) refl (more_items_stop next comma ec)
      ∙ more_items_run next comma ec p (js ++ (o, t) ∷ []) n v fs
      ∙ ap (λ ws. runs (has (tree.list_of (across p close.place) (items_of ws))) fs rest) (snoc_append js (o, t) ((n, v) ∷ is))

  entry_list_runs : {entries mid ts : List Placed} {c : Placed} {es : List (Bool × Tree × Tree)} → EntryList entries mid es
      → OptionalComma mid (c ∷ ts) → is_mark m.CloseBrace c → (p : Place) (fs : List Frame)
      → runs opened (in_key p [] false ∷ fs) entries ≡ runs (has (tree.map_of (across p c.place) (entries_of es))) fs ts
  entry_list_runs {ts = ts} {c = c} g.no_entries g.without ec p fs =
      goes_to opened (in_key p [] false ∷ fs) c ts (punctuator m.CloseBrace) (Some (has (tree.map_of (across p c.place) tree.no_entries), fs)) ec refl
  entry_list_runs {ts = ts} {c = c} g.no_entries (g.with_comma {c = k} e) ec p fs =
      goes_to opened (in_key p [] false ∷ fs) k (c ∷ ts) (punctuator m.Comma) (Some (ended, in_key p [] false ∷ fs)) e refl
      ∙ goes_to ended (in_key p [] false ∷ fs) c ts (punctuator m.CloseBrace) (Some (has (tree.map_of (across p c.place) tree.no_entries), fs)) ec refl
  entry_list_runs (g.entries {k = k} {o = o} {values = values} {a = a} {b = b} om da ek db next) comma ec p fs =
      key_marked om p [] fs (expression_starts da)
      ∙ expression_runs da (in_key p [] o ∷ fs) refl (mark_stops k m.Colon ek refl)
      ∙ goes_to (has a) (in_key p [] o ∷ fs) k values (punctuator m.Colon) (Some (needs, in_value p [] o a ∷ fs)) ek refl
      ∙ expression_runs db (in_value p [] o a ∷ fs) refl (more_entries_stop next comma ec)
      ∙ more_entries_run next comma ec p [] o a b fs

  more_entries_run : {entries mid ts : List Placed} {c : Placed} {es : List (Bool × Tree × Tree)} → MoreEntries entries mid es
      → OptionalComma mid (c ∷ ts) → is_mark m.CloseBrace c → (p : Place) (js : List (Bool × Tree × Tree)) (o : Bool) (a b : Tree) (fs : List Frame)
      → runs (has b) (in_value p js o a ∷ fs) entries ≡ runs (has (tree.map_of (across p c.place) (entries_of (js ++ (o, a, b) ∷ es)))) fs ts
  more_entries_run {ts = ts} {c = c} g.no_entry g.without ec p js o a b fs =
      goes_to (has b) (in_value p js o a ∷ fs) c ts (punctuator m.CloseBrace)
      (Some (has (tree.map_of (across p c.place) (entries_of (js ++ (o, a, b) ∷ []))), fs)) ec refl
  more_entries_run {ts = ts} {c = c} g.no_entry (g.with_comma {c = k} e) ec p js o a b fs =
      goes_to (has b) (in_value p js o a ∷ fs) k (c ∷ ts) (punctuator m.Comma) (Some (more, in_key p (js ++ (o, a, b) ∷ []) false ∷ fs)) e refl
      ∙ goes_to more (in_key p (js ++ (o, a, b) ∷ []) false ∷ fs) c ts (punctuator m.CloseBrace)
      (Some (has (tree.map_of (across p c.place) (entries_of (js ++ (o, a, b) ∷ []))), fs)) ec refl
  more_entries_run {ts = rest} {c = close} (g.entry {c = c} {k = k} {o = n} {mark = mark} {values = values} {a = v} {b = w} {es = es} e om da ek db next)
      comma ec p js o a b fs =
      goes_to (has b) (in_value p js o a ∷ fs) c mark (punctuator m.Comma) (Some (more, in_key p (js ++ (o, a, b) ∷ []) false ∷ fs)) e refl
      ∙ key_marked_more om p (js ++ (o, a, b) ∷ []) fs (expression_starts da)
      ∙ expression_runs da (in_key p (js ++ (o, a, b) ∷ []) n ∷ fs) refl (mark_stops k m.Colon ek refl)
      ∙ goes_to (has v) (in_key p (js ++ (o, a, b) ∷ []) n ∷ fs) k values (punctuator m.Colon)
      (Some (needs, in_value p (js ++ (o, a, b) ∷ []) n v ∷ fs)) ek refl
      ∙ expression_runs db (in_value p (js ++ (o, a, b) ∷ []) n v ∷ fs) refl (more_entries_stop next comma ec)
      ∙ more_entries_run next comma ec p (js ++ (o, a, b) ∷ []) n v w fs
      ∙ ap (λ ws. runs (has (tree.map_of (across p close.place) (entries_of ws))) fs rest) (snoc_append js (o, a, b) ((n, v, w) ∷ es))

-- All tokens that derive a tree are read as it.
pub complete : (ts : List Placed) (t : Tree) → Expression ts [] t → read ts ≡ Some t
complete ts t d = expression_runs d [] refl refl

some_same : {A : Type 0} {a b : A} → Some a ≡ Some b → a ≡ b
some_same e = cc

pub one_tree : (ts : List Placed) (t u : Tree) → Expression ts [] t → Expression ts [] u → t ≡ u
one_tree ts t u d e = some_same (sym (complete ts t d) ∙ complete ts u e)

-- ---- the first wrong token

goes_on : (o : Option State) (ks ts : List Placed) → goes (goes o (steps ks)) (steps ts) ≡ goes o (λ s. goes (steps ks s) (steps ts))
goes_on None ks ts = refl
goes_on (Some s) ks ts = refl

pub steps_append : (ks ts : List Placed) (s : State) → steps (ks ++ ts) s ≡ goes (steps ks s) (steps ts)
steps_append [] ts s = refl
steps_append (k ∷ ks) ts s =
    goes_same (step s.0 s.1 k) (λ r. steps_append ks ts r) ∙ sym (goes_on (step s.0 s.1 k) ks ts)
  where
    goes_same : (o : Option State) → ((r : State) → steps (ks ++ ts) r ≡ goes (steps ks r) (steps ts))
        → goes o (steps (ks ++ ts)) ≡ goes o (λ r. goes (steps ks r) (steps ts))
    goes_same None h = refl
    goes_same (Some r) h = h r

-- No text of the grammar goes on with a token that the machine doesn't take.
pub wrong_token : (before after : List Placed) (s : State) (k : Placed) (t : Tree) → steps before start ≡ Some s → step s.0 s.1 k ≡ None
    → Expression (before ++ k ∷ after) [] t → ⊥
wrong_token before after s k t is wrong d =
    let all : steps (before ++ k ∷ after) start ≡ None =
    steps_append before (k ∷ after) start ∙ ap (λ o. goes o (steps (k ∷ after))) is ∙ ap (λ o. goes o (steps after)) wrong in
    let none : read (before ++ k ∷ after) ≡ None = ap tree_at_end all in
    absurd (cc (none, complete (before ++ k ∷ after) t d))
