-- Trees without the forms that the port doesn't have.
use Rattle.std.proofs.Common.{◌≡◌, cond, ℕ, zero, suc, List, [], ◌∷◌, map, Bool, true, false, ◌&&◌, ◌||◌, Option, Some, None, option_map, Ok, Err, refl, ap, ◌∙◌, sym, subst, if◌then◌else◌}
use Rattle.std.specs.List.{list_any}
use Rattle.std.specs.Map.{lookup}
use Rattle.std.specs.Option.{option_and_then, unwrap_or}
use Rattle.std.specs.Str.{bytes_eq}
use Rattle.cel_syntax_ast.specs.Calls.{call_of, has_of, method_of}
use Rattle.cel_syntax_ast.specs.Term as term
use Rattle.cel_syntax_ast.specs.Term.{Term, terms_of, pairs_of}
use Rattle.cel_syntax_ast.specs.declared.expr.BinaryOperator.{BinaryOperator}
use Rattle.kube_server_laws.specs.Port.{both_of, entry_of, three_of, port_call, if_formed, port_tree, port_trees, port_items, port_entries, NoOptionals}
use Rattle.kube_server_syntax.specs.Tree.{Tree, literal, ident, select, index, unary, binary, conditional, round, list_of, map_of, call, Trees, no_trees, tree_and, Items, no_items, item_and, Entries, no_entries, entry_and}
use Rattle.kube_server_translation.specs.Calls.{Translated, after, call_made, if_formed as made_if_formed, outside, variables_of, with_variables}
use Rattle.kube_server_translation.specs.Forms.{joined, map_of_maps}
use Rattle.kube_server_translation.specs.Kinds.{kind_of_call}
use Rattle.kube_server_translation.specs.Made.{Made, plain, Names, chosen, indexed, is_equality, list_with, made_of, map_with, operated, selected, value_of, name_of_type, both_names, piece, entry_piece}
use Rattle.kube_server_translation.specs.Translation.{count_of, made, made_all, made_items, made_entries, translated}
use Rattle.kube_server_translation.specs.declared.kind.CallKind.{CallKind}
use Rattle.kube_server_translation.specs.declared.kind.CallKind.TheVariants as kind

-- if there is a term, the translation is it, and isn't known to be an optional
abbrev Matches : Option Term → Translated Made → Type 0
Matches (Some u) z = z ≡ Ok (plain u)
Matches None z = Unit {0}

abbrev MatchAll : {A B : Type 0} → (A → B) → Option (List A) → Translated (List B) → Type 0
MatchAll f (Some us) z = z ≡ Ok (map f us)
MatchAll f None z = Unit {0}

by_one : (f : Term → Term) (g : Made → Made) → ((u : Term) → g (plain u) ≡ plain (f u)) → (o : Option Term) (z : Translated Made) → Matches o z → Matches (option_map f o) (after z (λ m. Ok (g m)))
by_one f g k None z h = tt
by_one f g k (Some u) z h = ap (λ r. after r (λ m. Ok (g m))) h ∙ ap Ok (k u)

by_two : (f : Term → Term → Term) (g : Made → Made → Made) → ((u v : Term) → g (plain u) (plain v) ≡ plain (f u v)) → (o q : Option Term) (z y : Translated Made) → Matches o z → Matches q y
    → Matches (both_of f o q) (after z (λ m. after y (λ n. Ok (g m n))))
by_two f g k None q z y h i = tt
by_two f g k (Some u) None z y h i = tt
by_two f g k (Some u) (Some v) z y h i =
    ap (λ r. after r (λ m. after y (λ n. Ok (g m n)))) h ∙ (ap (λ r. after r (λ n. Ok (g (plain u) n))) i ∙ ap Ok (k u v))

by_three : (a b c : Option Term) (x y z : Translated Made) → Matches a x → Matches b y → Matches c z
    → Matches (three_of a b c) (after x (λ l. after y (λ m. after z (λ n. Ok (chosen (value_of l) m n)))))
by_three None b c x y z h i j = tt
by_three (Some u) None c x y z h i j = tt
by_three (Some u) (Some v) None x y z h i j = tt
by_three (Some u) (Some v) (Some w) x y z h i j =
    ap (λ r. after r (λ l. after y (λ m. after z (λ n. Ok (chosen (value_of l) m n))))) h
    ∙ (ap (λ r. after r (λ m. after z (λ n. Ok (chosen u m n)))) i ∙ ap (λ r. after r (λ n. Ok (chosen u (plain v) n))) j)

-- ---- names

no_name : (names : Names) → NoOptionals names → (x : List ℕ) → NoOptionals ((x, false) ∷ names)
no_name names h x y = by (bytes_eq y x)
  where
    by : (b : Bool) → unwrap_or (cond b (Some false) (lookup (bytes_eq y) names)) false ≡ false
    by true = refl
    by false = h y

no_names : (xs : List (List ℕ)) (names : Names) → NoOptionals names → NoOptionals (with_variables xs names)
no_names [] names h = h
no_names (x ∷ xs) names h = no_names xs ((x, false) ∷ names) (no_name names h x)

-- ---- operators

plain_operands : (names : Names) (op : BinaryOperator) (a b : Term) → operated names op (plain a) (plain b) ≡ term.binary op a b
plain_operands names op a b = by (is_equality op)
  where
    by : (c : Bool) → unwrap_or (if c && (false || false) then both_names op (name_of_type names (plain a)) (name_of_type names (plain b)) else None) (term.binary op a b) ≡ term.binary op a b
    by true = refl
    by false = refl

-- ---- lists and maps

abbrev unmarked : Term → Bool × Made
unmarked u = (false, plain u)

none_marked : (us : List Term) → list_any (λ p. p.0) (map unmarked us) ≡ false
none_marked [] = refl
none_marked (u ∷ us) = none_marked us

items_are : (us : List Term) → map value_of (map (λ p. p.1) (map unmarked us)) ≡ us
items_are [] = refl
items_are (u ∷ us) = ap (λ z. u ∷ z) (items_are us)

list_is : (us : List Term) → list_with (map unmarked us) ≡ term.list_of (terms_of us)
list_is us =
    ap (λ c. if c then joined (terms_of (map piece (map unmarked us))) else term.list_of (terms_of (map value_of (map (λ p. p.1) (map unmarked us))))) (none_marked us)
    ∙ ap (λ z. term.list_of (terms_of z)) (items_are us)

abbrev unmarked_entry : Term × Term → Bool × Term × Made
unmarked_entry p = (false, p.0, plain p.1)

no_entry_marked : (ps : List (Term × Term)) → list_any (λ p. p.0) (map unmarked_entry ps) ≡ false
no_entry_marked [] = refl
no_entry_marked (p ∷ ps) = no_entry_marked ps

abbrev entry_terms : Bool × Term × Made → Term × Term
entry_terms p = (p.1, value_of p.2)

entries_are : (ps : List (Term × Term)) → map entry_terms (map unmarked_entry ps) ≡ ps
entries_are [] = refl
entries_are (p ∷ ps) = ap (λ z. p ∷ z) (entries_are ps)

map_is : (ps : List (Term × Term)) → map_with (map unmarked_entry ps) ≡ term.map_with (pairs_of ps)
map_is ps =
    ap (λ c. if c then map_of_maps (joined (terms_of (map entry_piece (map unmarked_entry ps)))) else term.map_with (pairs_of (map entry_terms (map unmarked_entry ps)))) (no_entry_marked ps)
    ∙ ap (λ z. term.map_with (pairs_of z)) (entries_are ps)

by_items : (o : Option (List Term)) (z : Translated (List (Bool × Made))) → MatchAll unmarked o z → Matches (option_map (λ us. term.list_of (terms_of us)) o) (after z (λ ps. Ok (plain (list_with ps))))
by_items None z h = tt
by_items (Some us) z h = ap (λ r. after r (λ ps. Ok (plain (list_with ps)))) h ∙ ap (λ t. Ok (plain t)) (list_is us)

by_entries : (o : Option (List (Term × Term))) (z : Translated (List (Bool × Term × Made))) → MatchAll unmarked_entry o z → Matches (option_map (λ ps. term.map_with (pairs_of ps)) o) (after z (λ ps. Ok (plain (map_with ps))))
by_entries None z h = tt
by_entries (Some ps) z h = ap (λ r. after r (λ qs. Ok (plain (map_with qs)))) h ∙ ap (λ t. Ok (plain t)) (map_is ps)

-- one more part
more : {B : Type 0} (f : Term → B) (g : Made → B) → ((u : Term) → g (plain u) ≡ f u) → (o : Option Term) (q : Option (List Term)) (z : Translated Made) (y : Translated (List B)) → Matches o z → MatchAll f q y
    → MatchAll f (both_of (λ u us. u ∷ us) o q) (after z (λ m. after y (λ ms. Ok (g m ∷ ms))))
more f g k None q z y h i = tt
more f g k (Some u) None z y h i = tt
more f g k (Some u) (Some us) z y h i =
    ap (λ r. after r (λ m. after y (λ ms. Ok (g m ∷ ms)))) h ∙ (ap (λ r. after r (λ ms. Ok (g (plain u) ∷ ms))) i ∙ ap (λ b. Ok (b ∷ map f us)) (k u))

more_entries : (a b : Option Term) (q : Option (List (Term × Term))) (x y : Translated Made) (z : Translated (List (Bool × Term × Made))) → Matches a x → Matches b y → MatchAll unmarked_entry q z
    → MatchAll unmarked_entry (entry_of a b q) (after x (λ m. after y (λ n. after z (λ ps. Ok ((false, value_of m, n) ∷ ps)))))
more_entries None b q x y z h i j = tt
more_entries (Some u) None q x y z h i j = tt
more_entries (Some u) (Some v) None x y z h i j = tt
more_entries (Some u) (Some v) (Some ps) x y z h i j =
    ap (λ r. after r (λ m. after y (λ n. after z (λ qs. Ok ((false, value_of m, n) ∷ qs))))) h
    ∙ (ap (λ r. after r (λ n. after z (λ qs. Ok ((false, u, n) ∷ qs)))) i ∙ ap (λ r. after r (λ qs. Ok ((false, u, plain v) ∷ qs))) j)

-- ---- calls

values_are : (us : List Term) → map value_of (map plain us) ≡ us
values_are [] = refl
values_are (u ∷ us) = ap (λ z. u ∷ z) (values_are us)

formed_as : (o : Option Term) → Matches o (Ok (made_if_formed o))
formed_as None = tt
formed_as (Some u) = refl

method_as : (t : Term) (w : List ℕ) (us : List Term) → Matches (method_of t w us) (Ok (made_if_formed (method_of t w (map value_of (map plain us)))))
method_as t w us = subst (λ vs. Matches (method_of t w us) (Ok (made_if_formed (method_of t w vs)))) (sym (values_are us)) (formed_as (method_of t w us))

call_as : (w : List ℕ) (us : List Term) → Matches (call_of w us) (Ok (made_if_formed (call_of w (map value_of (map plain us)))))
call_as w us = subst (λ vs. Matches (call_of w us) (Ok (made_if_formed (call_of w vs)))) (sym (values_are us)) (formed_as (call_of w us))

has_as : (us : List Term) (w : List ℕ) (xs : List (List ℕ)) (ts : List Made) → Matches (has_of us) (Ok (call_made kind.Has w xs ts (map plain us)))
has_as [] w xs ts = tt
has_as (term.select t x ∷ []) w xs ts = refl
has_as (u ∷ []) w xs ts = tt
has_as (term.select t x ∷ v ∷ us) w xs ts = tt
has_as (u ∷ v ∷ us) w xs ts = tt

call_matches : (k : CallKind) (w : List ℕ) (xs : List (List ℕ)) (ts us : List Term) → Matches (port_call k w ts us) (Ok (call_made k w xs (map plain ts) (map plain us)))
call_matches kind.Has w xs ts us = has_as us w xs (map plain ts)
call_matches kind.Ordinary w xs (t ∷ []) us = method_as t w us
call_matches kind.Ordinary w xs [] us = call_as w us
call_matches kind.Ordinary w xs (t ∷ s ∷ ts) us = call_as w us
call_matches (kind.OneVariable k) w xs (t ∷ []) us = method_as t w us
call_matches (kind.OneVariable k) w xs [] us = call_as w us
call_matches (kind.OneVariable k) w xs (t ∷ s ∷ ts) us = call_as w us
call_matches kind.Dynamic w xs ts us = tt
call_matches kind.Type w xs ts us = tt
call_matches kind.HasValue w xs ts us = tt
call_matches kind.Value w xs ts us = tt
call_matches kind.Or w xs ts us = tt
call_matches kind.OrValue w xs ts us = tt
call_matches kind.OptMap w xs ts us = tt
call_matches kind.OptFlatMap w xs ts us = tt
call_matches kind.Optional w xs ts us = tt
call_matches kind.Bind w xs ts us = tt
call_matches (kind.TwoVariables k) w xs ts us = tt
call_matches kind.TransformMap w xs ts us = tt
call_matches kind.TransformMapEntry w xs ts us = tt

by_parts : (k : CallKind) (w : List ℕ) (xs : List (List ℕ)) (o q : Option (List Term)) (z y : Translated (List Made)) → MatchAll plain o z → MatchAll plain q y
    → Matches (option_and_then (λ ts. option_and_then (port_call k w ts) q) o) (after z (λ ts. after y (λ us. Ok (call_made k w xs ts us))))
by_parts k w xs None q z y h i = tt
by_parts k w xs (Some ts) None z y h i = tt
by_parts k w xs (Some ts) (Some us) z y h i =
    subst (λ r. Matches (port_call k w ts us) r) (sym (ap (λ r. after r (λ ms. after y (λ ns. Ok (call_made k w xs ms ns)))) h ∙ ap (λ r. after r (λ ns. Ok (call_made k w xs (map plain ts) ns))) i))
    (call_matches k w xs ts us)

by_formed : (v : Translated (List (List ℕ))) (o : Option Term) (f : List (List ℕ) → Translated Made) → ((xs : List (List ℕ)) → Matches o (f xs)) → Matches (if_formed v o) (after v f)
by_formed (Ok xs) o f h = h xs
by_formed (Err e) o f h = tt

-- ---- trees

mutual
  same_tree : (names : Names) → NoOptionals names → (t : Tree) → Matches (port_tree t) (made names t)
  same_tree names h (literal p v) = refl
  same_tree names h (ident p x) = ap (λ b. Ok (made_of b (term.ident x))) (h x)
  same_tree names h (select p a false x) = by_one (λ u. term.select u x) (λ m. selected m false x) (λ u. refl) (port_tree a) (made names a) (same_tree names h a)
  same_tree names h (select p a true x) = tt
  same_tree names h (index p a false i) = by_two term.index (λ m n. indexed m false (value_of n)) (λ u v. refl) (port_tree a) (port_tree i) (made names a) (made names i) (same_tree names h a) (same_tree names h i)
  same_tree names h (index p a true i) = tt
  same_tree names h (unary p op a) = by_one (term.unary op) (λ m. plain (term.unary op (value_of m))) (λ u. refl) (port_tree a) (made names a) (same_tree names h a)
  same_tree names h (binary p op a b) = by_two (term.binary op) (λ m n. plain (operated names op m n)) (λ u v. ap plain (plain_operands names op u v)) (port_tree a) (port_tree b) (made names a) (made names b) (same_tree names h a) (same_tree names h b)
  same_tree names h (conditional p c a b) = by_three (port_tree c) (port_tree a) (port_tree b) (made names c) (made names a) (made names b) (same_tree names h c) (same_tree names h a) (same_tree names h b)
  same_tree names h (round p a) = same_tree names h a
  same_tree names h (list_of p is) = by_items (port_items is) (made_items names is) (same_items names h is)
  same_tree names h (map_of p es) = by_entries (port_entries es) (made_entries names es) (same_entries names h es)
  same_tree names h (call p target w args) =
      by_formed (variables_of (kind_of_call target w (count_of args)) args)
      (option_and_then (λ ts. option_and_then (port_call (kind_of_call target w (count_of args)) w ts) (port_trees args)) (port_trees target))
      (λ xs. after (made_all names names zero target) (λ ts. after (made_all names (with_variables xs names) (outside (kind_of_call target w (count_of args))) args)
      (λ us. Ok (call_made (kind_of_call target w (count_of args)) w xs ts us))))
      (λ xs. by_parts (kind_of_call target w (count_of args)) w xs (port_trees target) (port_trees args) (made_all names names zero target)
      (made_all names (with_variables xs names) (outside (kind_of_call target w (count_of args))) args)
      (same_trees names names h h zero target) (same_trees names (with_variables xs names) h (no_names xs names h) (outside (kind_of_call target w (count_of args))) args))

  same_trees : (names inner : Names) → NoOptionals names → NoOptionals inner → (n : ℕ) (ts : Trees) → MatchAll plain (port_trees ts) (made_all names inner n ts)
  same_trees names inner h i n no_trees = refl
  same_trees names inner h i zero (tree_and t ts) = more plain (λ m. m) (λ u. refl) (port_tree t) (port_trees ts) (made inner t) (made_all names inner zero ts) (same_tree inner i t) (same_trees names inner h i zero ts)
  same_trees names inner h i (suc n) (tree_and t ts) = more plain (λ m. m) (λ u. refl) (port_tree t) (port_trees ts) (made names t) (made_all names inner n ts) (same_tree names h t) (same_trees names inner h i n ts)

  same_items : (names : Names) → NoOptionals names → (is : Items) → MatchAll unmarked (port_items is) (made_items names is)
  same_items names h no_items = refl
  same_items names h (item_and false t is) = more unmarked (λ m. (false, m)) (λ u. refl) (port_tree t) (port_items is) (made names t) (made_items names is) (same_tree names h t) (same_items names h is)
  same_items names h (item_and true t is) = tt

  same_entries : (names : Names) → NoOptionals names → (es : Entries) → MatchAll unmarked_entry (port_entries es) (made_entries names es)
  same_entries names h no_entries = refl
  same_entries names h (entry_and false a b es) = more_entries (port_tree a) (port_tree b) (port_entries es) (made names a) (made names b) (made_entries names es) (same_tree names h a) (same_tree names h b) (same_entries names h es)
  same_entries names h (entry_and true a b es) = tt

taken_from : (o : Option Term) (z : Translated Made) (u : Term) → Matches o z → o ≡ Some u → after z (λ m. Ok (value_of m)) ≡ Ok u
taken_from (Some v) z u h e = ap (λ r. after r (λ m. Ok (value_of m))) h ∙ (let k : v ≡ u = cc in ap Ok k)
taken_from None z u h e = cc

pub port_trees_stay : (names : Names) (t : Tree) (u : Term) → NoOptionals names → port_tree t ≡ Some u → translated names t ≡ Ok u
port_trees_stay names t u h e = taken_from (port_tree t) (made names t) u (same_tree names h t) e
