-- What the machine has read is the beginning of a text of the grammar.
use Rattle.std.proofs.Common.{◌≡◌, ◌∙◌, ℕ, suc, pos, refl, ap, subst, arith, Bool, true, false, ◌&&◌, if◌then◌else◌, Option, Some, None, List, [], ◌∷◌, ◌++◌}
use Rattle.std.specs.Prelude.{neg_ℤ, codes}
use Rattle.std.proofs.lemmas.Str.{IsUtf8-from_ascii, is_utf8-from_IsUtf8}
use Rattle.std.proofs.lemmas.Str.Ascii.{IsAscii-cons, IsAscii-nil}
use Rattle.std.specs.Str.{IsAscii}
use Rattle.cel_value.specs.Data.{null, int}
use Rattle.cel_syntax.specs.Literal.{takes_minus, literal_value, word_value}
use Rattle.cel_syntax.specs.Number.{goes_with_minus, number_value, is_double, is_integer, integer_value, is_numeral, numeral_value, int_value, is_digit_in, is_exponent}
use Rattle.cel_syntax.specs.Token.{word, number, punctuator}
use Rattle.cel_syntax.specs.Punctuator.{Punctuator}
use Rattle.cel_syntax.specs.Punctuator.TheVariants as m
use Rattle.cel_syntax.specs.Words.{is_selector, is_literal}
use Rattle.kube_server_syntax.specs.Grammar.{Expression}
use Rattle.kube_server_syntax.specs.Machine as machine
use Rattle.kube_server_syntax.specs.Machine.{Frame, in_round, in_list, in_key, in_value, in_arguments, in_index, after_sign, after_operator, after_question, after_colon, Mode, State, signed, operated, chosen, selected, literal_or}
use Rattle.kube_server_syntax.specs.Placed.{Placed, across}
use Rattle.kube_server_syntax.specs.Tree as tree
use Rattle.kube_server_syntax.specs.Tree.{Tree, place_of}
use Rattle.kube_server_syntax.specs.declared.node.Place.{Place}
use Rattle.kube_server_syntax.proofs.Complete.{steps_append, minus_by}
use Rattle.kube_server_syntax.proofs.Runs.{ends, runs, at, stops, stops_follow, follows_no_round, sign_taken, operator_taken, colon_taken, operator_level, named_runs, fielded_runs}
use Rattle.kube_server_syntax.proofs.SoFar as far
use Rattle.kube_server_syntax.proofs.SoFar.{Opened, Had}
use Rattle.kube_server_syntax.proofs.Sound.{Holds, HoldsIf, step_keeps, sound, JustOpened, new_list, new_map, new_call, new_method, AfterComma, in_items, in_entries, OnlyComma, only_in_list, only_in_map, AfterMinus, minus_read, AfterName, name_read, AfterDot, dot_read, AfterMarkedDot, marked_dot_read, AfterField, field_read, AfterSquare, square_read}

-- ---- tokens to go on with

here : Place
here = record { begin = 0; end = 0 }

mark : Punctuator → Placed
mark n = at (punctuator n) here

-- an operand
operand : Placed
operand = at (word (codes "null")) here

abbrev operand_tree : Tree
operand_tree = tree.literal here null

-- the operand of a minus
negative : Placed
negative = at (number (codes "1")) here

-- the name of a field
name : Placed
name = at (word (codes "a")) here

operand_runs : (fs : List Frame) (ts : List Placed) → runs machine.needs fs (operand ∷ ts) ≡ runs (machine.has operand_tree) fs ts
unfolding operand here word_value
operand_runs fs ts = refl

one_takes_minus : takes_minus (number (codes "1")) ≡ true
unfolding goes_with_minus is_double is_exponent is_integer is_numeral is_digit_in
one_takes_minus = refl

one_is_read : literal_value true (number (codes "1")) ≡ Some (int (neg_ℤ (pos 1)))
unfolding number_value is_double is_exponent integer_value numeral_value is_numeral is_digit_in int_value
one_is_read = refl

negative_runs : (p : Place) (fs : List Frame) (ts : List Placed)
    → runs (machine.minus p) fs (negative ∷ ts) ≡ runs (machine.has (tree.literal (across p here) (int (neg_ℤ (pos 1))))) fs ts
unfolding negative
negative_runs p fs ts = ap (λ o. ends o ts)
    (minus_by (takes_minus (number (codes "1"))) (literal_value true (number (codes "1"))) (int (neg_ℤ (pos 1))) (across p here) fs _ one_takes_minus one_is_read)

name_is_selector : is_selector (codes "a") ≡ true
unfolding is_selector is_literal
name_is_selector =
    let ascii : IsAscii (97 ∷ []) = IsAscii-cons 97 [] (omega arith) IsAscii-nil in
    ap (λ b. b && true) (is_utf8-from_IsUtf8 (codes "a") (IsUtf8-from_ascii (codes "a") ascii))

-- ---- the rest of a text

-- tokens with which a state ends
record Rest (x : Mode) (fs : List Frame) : Type 0 where
  tokens : List Placed
  tree : Tree
  stop : stops tokens ≡ true
  read : runs x fs tokens ≡ Some tree

abbrev Ending : Mode → List Frame → Type 0
Ending x fs = (ts : List Placed) × (t : Tree) × (runs x fs ts ≡ Some t)

-- Each part has an end, whatever it is.
finish : {w : List Placed} {fs : List Frame} {ts : List Placed} → Opened w fs ts → (t : Tree) → Rest (machine.has t) fs
unfolding mark operand here
finish far.whole t = record { tokens = []; tree = t; stop = refl; read = refl }
finish (far.round {k = k} {fs = fs} e o) t =
    let r = finish o (tree.round (across k.place here) t) in
    record { tokens = mark m.CloseRound ∷ r.tokens; tree = r.tree; stop = refl; read = r.read }
finish (far.list {b = b} {is = is} {o = q} e so om o) t =
    let r = finish o (tree.list_of (across b.place here) (tree.items_of (is ++ (q, t) ∷ []))) in
    record { tokens = mark m.CloseSquare ∷ r.tokens; tree = r.tree; stop = refl; read = r.read }
finish (far.key {b = b} {es = es} {o = q} {fs = fs} e so om o) t =
    let r = finish o (tree.map_of (across b.place here) (tree.entries_of (es ++ (q, t, operand_tree) ∷ []))) in
    record {
      tokens = mark m.Colon ∷ operand ∷ mark m.CloseBrace ∷ r.tokens;
      tree = r.tree;
      stop = refl;
      read = operand_runs (in_value b.place es q t ∷ fs) (mark m.CloseBrace ∷ r.tokens) ∙ r.read;
    }
finish (far.value {b = b} {es = es} {o = q} {a = a} e so om da ek o) t =
    let r = finish o (tree.map_of (across b.place here) (tree.entries_of (es ++ (q, a, t) ∷ []))) in
    record { tokens = mark m.CloseBrace ∷ r.tokens; tree = r.tree; stop = refl; read = r.read }
finish (far.function {f = f} {x = x} {us = us} e i er so o) t =
    let r = finish o (tree.call (across f.place here) tree.no_trees x (tree.trees_of (us ++ t ∷ []))) in
    record { tokens = mark m.CloseRound ∷ r.tokens; tree = r.tree; stop = refl; read = r.read }
finish (far.method {t = a} {x = x} {us = us} md dot e s er so o) t =
    let r = finish o (tree.call (across (place_of a) here) (tree.tree_and a tree.no_trees) x (tree.trees_of (us ++ t ∷ []))) in
    record { tokens = mark m.CloseRound ∷ r.tokens; tree = r.tree; stop = refl; read = r.read }
finish (far.index {t = a} {o = q} md e om o) t =
    let r = finish o (tree.index (across (place_of a) here) a q t) in
    record { tokens = mark m.CloseSquare ∷ r.tokens; tree = r.tree; stop = refl; read = r.read }
finish (far.sign_before {s = s} {k = k} {fs = fs} e b a o) t =
    let r = finish o (signed s k.place t) in
    record {
      tokens = r.tokens;
      tree = r.tree;
      stop = r.stop;
      read = sign_taken s k.place fs t r.tokens (stops_follow 0 r.tokens r.stop) ∙ r.read;
    }
finish (far.operator_before {k = k} {a = a} {o = z} {op = op} {fs = fs} left e f o) t =
    let r = finish o (operated a op t) in
    record {
      tokens = r.tokens;
      tree = r.tree;
      stop = r.stop;
      read = operator_taken a op k fs t r.tokens (operator_level z.token (suc k) op e) (stops_follow k r.tokens r.stop) ∙ r.read;
    }
finish (far.question {c = c} {fs = fs} dc q op o) t =
    let r = finish o (chosen c t operand_tree) in
    record {
      tokens = mark m.Colon ∷ operand ∷ r.tokens;
      tree = r.tree;
      stop = refl;
      read = operand_runs (after_colon c t ∷ fs) r.tokens ∙ colon_taken c t fs operand_tree r.tokens op r.stop ∙ r.read;
    }
finish (far.colon {c = c} {a = a} {fs = fs} dc q da e op o) t =
    let r = finish o (chosen c a t) in
    record { tokens = r.tokens; tree = r.tree; stop = r.stop; read = colon_taken c a fs t r.tokens op r.stop ∙ r.read }

opened_ends : {w : List Placed} {fs : List Frame} {ts : List Placed} → JustOpened w fs ts → Ending machine.opened fs
unfolding mark here
opened_ends (new_list {b = b} e o) = let r = finish o (tree.list_of (across b.place here) tree.no_items) in (mark m.CloseSquare ∷ r.tokens, r.tree, r.read)
opened_ends (new_map {b = b} e o) = let r = finish o (tree.map_of (across b.place here) tree.no_entries) in (mark m.CloseBrace ∷ r.tokens, r.tree, r.read)
opened_ends (new_call {f = f} {x = x} e i er o) =
    let r = finish o (tree.call (across f.place here) tree.no_trees x tree.no_trees) in (mark m.CloseRound ∷ r.tokens, r.tree, r.read)
opened_ends (new_method {t = t} {x = x} md dot e s er o) =
    let r = finish o (tree.call (across (place_of t) here) (tree.tree_and t tree.no_trees) x tree.no_trees) in (mark m.CloseRound ∷ r.tokens, r.tree, r.read)

comma_ends : {w : List Placed} {fs : List Frame} {ts : List Placed} → AfterComma w fs ts → Ending machine.more fs
unfolding mark here
comma_ends (in_items {b = b} {is = is} {o = q} {t = t} e so om d c o) =
    let r = finish o (tree.list_of (across b.place here) (tree.items_of (is ++ (q, t) ∷ []))) in (mark m.CloseSquare ∷ r.tokens, r.tree, r.read)
comma_ends (in_entries {b = b} {es = es} {o = q} {a = a} {v = v} e so om da ek db c o) =
    let r = finish o (tree.map_of (across b.place here) (tree.entries_of (es ++ (q, a, v) ∷ []))) in (mark m.CloseBrace ∷ r.tokens, r.tree, r.read)

only_ends : {w : List Placed} {fs : List Frame} {ts : List Placed} → OnlyComma w fs ts → Ending machine.ended fs
unfolding mark here
only_ends (only_in_list {b = b} e c o) = let r = finish o (tree.list_of (across b.place here) tree.no_items) in (mark m.CloseSquare ∷ r.tokens, r.tree, r.read)
only_ends (only_in_map {b = b} e c o) = let r = finish o (tree.map_of (across b.place here) tree.no_entries) in (mark m.CloseBrace ∷ r.tokens, r.tree, r.read)

minus_ends : {w : List Placed} {fs : List Frame} {ts : List Placed} {p : Place} → AfterMinus w fs ts p → Ending (machine.minus p) fs
minus_ends {fs = fs} (minus_read {k = k} e o) =
    let r = finish o (tree.literal (across k.place here) (int (neg_ℤ (pos 1)))) in (negative ∷ r.tokens, r.tree, negative_runs k.place fs r.tokens ∙ r.read)

name_ends : {w : List Placed} {fs : List Frame} {ts : List Placed} {x : List ℕ} {p : Place} → AfterName w fs ts x p → Ending (machine.named p x) fs
name_ends {fs = fs} {x = x} (name_read {k = k} e i o) =
    let r = finish o (tree.ident k.place x) in
    (r.tokens, r.tree, named_runs k.place x fs r.tokens (follows_no_round 0 r.tokens (stops_follow 0 r.tokens r.stop)) ∙ r.read)

field_ends : {w : List Placed} {fs : List Frame} {ts : List Placed} {t : Tree} {x : List ℕ} {p : Place} → AfterField w fs ts t x p
    → Ending (machine.fielded t p x) fs
field_ends {fs = fs} {t = t} {x = x} (field_read {k = k} dot e s h) =
    let r = finish h.opened (selected t false k.place x) in
    (r.tokens, r.tree, fielded_runs t k.place x fs r.tokens (follows_no_round 0 r.tokens (stops_follow 0 r.tokens r.stop)) ∙ r.read)

selector_by : (b : Bool) (s : State) → b ≡ true → ◌≡◌ {A = Option State} (if b then Some s else None) (Some s)
selector_by true s h = refl
selector_by false s h = absurd (cc (h))

dot_ends : {w : List Placed} {fs : List Frame} {ts : List Placed} {t : Tree} → AfterDot w fs ts t → Ending (machine.dotted t) fs
unfolding name
dot_ends {fs = fs} {t = t} (dot_read dot h) =
    let r = finish h.opened (selected t false here (codes "a")) in (
      name ∷ r.tokens,
      r.tree,
      ap (λ o. ends o r.tokens) (selector_by (is_selector (codes "a")) (machine.fielded t here (codes "a"), fs) name_is_selector)
          ∙ fielded_runs t here (codes "a") fs r.tokens (follows_no_round 0 r.tokens (stops_follow 0 r.tokens r.stop)) ∙ r.read,
    )

marked_dot_ends : {w : List Placed} {fs : List Frame} {ts : List Placed} {t : Tree} → AfterMarkedDot w fs ts t → Ending (machine.dot_marked t) fs
unfolding name
marked_dot_ends {fs = fs} {t = t} (marked_dot_read dot q h) =
    let r = finish h.opened (selected t true here (codes "a")) in (
      name ∷ r.tokens,
      r.tree,
      ap (λ o. ends o r.tokens)
          (selector_by (is_selector (codes "a")) (machine.has (selected t true here (codes "a")), fs) name_is_selector) ∙ r.read,
    )

square_ends : {w : List Placed} {fs : List Frame} {ts : List Placed} {t : Tree} → AfterSquare w fs ts t → Ending (machine.indexed t) fs
unfolding mark operand here word_value
square_ends {fs = fs} {t = t} (square_read b h) =
    let r = finish h.opened (tree.index (across (place_of t) here) t false operand_tree) in
    (operand ∷ mark m.CloseSquare ∷ r.tokens, r.tree, r.read)

ends_with : (w : List Placed) (ts : List Placed) (x : Mode) (fs : List Frame) → Holds w x fs ts → Ending x fs
ends_with w ts machine.needs fs h = let r = finish h operand_tree in (operand ∷ r.tokens, r.tree, operand_runs fs r.tokens ∙ r.read)
ends_with w ts machine.opened fs h = opened_ends h
ends_with w ts machine.more fs h = comma_ends h
ends_with w ts machine.ended fs h = only_ends h
ends_with w ts (machine.minus p) fs h = minus_ends h
ends_with w ts (machine.named p x) fs h = name_ends h
ends_with w ts (machine.has t) fs h = let r = finish h.opened t in (r.tokens, r.tree, r.read)
ends_with w ts (machine.dotted t) fs h = dot_ends h
ends_with w ts (machine.dot_marked t) fs h = marked_dot_ends h
ends_with w ts (machine.fielded t p x) fs h = field_ends h
ends_with w ts (machine.indexed t) fs h = square_ends h

-- ---- beginnings

some_same : {A : Type 0} {a b : A} → Some a ≡ Some b → a ≡ b
some_same e = cc

steps_hold : (w ks ts : List Placed) (x : Mode) (fs : List Frame) (s : State) → Holds w x fs (ks ++ ts) → machine.steps ks (x, fs) ≡ Some s
    → Holds w s.0 s.1 ts
steps_hold w [] ts x fs s h e = subst (λ (q : State). Holds w q.0 q.1 ts) (some_same e) h
steps_hold w (k ∷ ks) ts x fs s h e = by_state (λ q. steps_hold w ks ts q.0 q.1 s) (machine.step x fs k) (step_keeps w (ks ++ ts) x fs k h) e
  where
    by_state : ((q : State) → Holds w q.0 q.1 (ks ++ ts) → machine.steps ks (q.0, q.1) ≡ Some s → Holds w s.0 s.1 ts)
        → (o : Option State) → HoldsIf w o (ks ++ ts) → machine.goes o (machine.steps ks) ≡ Some s → Holds w s.0 s.1 ts
    by_state go None h e = absurd (cc)
    by_state go (Some q) h e = go q h e

-- Tokens that the machine takes begin a text of the grammar.
pub beginning : (before : List Placed) (s : State) → machine.steps before machine.start ≡ Some s
    → (after : List Placed) × (t : Tree) × Expression (before ++ after) [] t
beginning before s e =
    let h = steps_hold (before ++ []) before [] machine.needs [] s far.whole e in
    let r = ends_with (before ++ []) [] s.0 s.1 h in (
      r.0,
      r.1,
      sound (before ++ r.0) r.1 (ap machine.tree_at_end (steps_append before r.0 machine.start
          ∙ ap (λ o. machine.goes o (machine.steps r.0)) e) ∙ r.2),
    )
