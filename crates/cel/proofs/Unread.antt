-- The meaning of a tree depends only on what its free names are bound to.
use Rattle.cel_patterns.specs.Book.{Book}
use Rattle.cel_semantics.specs.Bindings.{Bindings, binding}
use Rattle.cel_semantics.specs.Decisions.{truth, branch_outcome}
use Rattle.cel_semantics.specs.Library.{Library}
use Rattle.cel_semantics.specs.Calls.{receiver_of, by_form, call_outcome}
use Rattle.cel_syntax.specs.Term.{is_there, Term, literal, ident, select, has, index, unary, binary, conditional, list_of, map_with, call, qualified, macro, Terms, no_terms, term_and, count_of, Pairs, no_pairs, pair_and}
use Rattle.cel_semantics.specs.Macros.{macro_name, macro_of, iteration_result_of}
use Rattle.cel_semantics.specs.Meaning.{meaning, meanings, map_meaning, binary_of, strictly, entry_of}
use Rattle.cel_semantics.specs.Members.{selection, has_member, index_outcome}
use Rattle.cel_semantics.specs.Operators.{unary_outcome}
use Rattle.cel_semantics.specs.Outcome.{and_then, all_values}
use Rattle.cel_semantics.specs.Ranges.{range_of}
use Rattle.cel_syntax.specs.FreeNames.{is_free, is_free_in_any, is_free_in_pairs}
use Rattle.cel_value.specs.Data.{Data, text_key, list, map_of, no_entries}
use Rattle.cel_value.specs.Faults.{undeclared}
use Rattle.cel_value.specs.View.{items_of}
use Rattle.std.proofs.Common.{◌≡◌, ℕ, List, ◌∷◌, map, Bool, true, false, not, ◌&&◌, ◌||◌, Option, Some, None, Ok, Err, codes, if◌then◌else◌, refl, ap}
use Rattle.std.proofs.lemmas.Slice.Eq.{bytes_eq-Decides}
use Rattle.std.specs.Option.{option_map_or}
use Rattle.std.specs.Str.{bytes_eq}

-- the two bindings agree on each of these names
abbrev Alike : (List ℕ → Bool) → Bindings → Bindings → Type 0
Alike p e f = (x : List ℕ) → p x ≡ true → binding x e ≡ binding x f

or_left : (a b : Bool) → a ≡ true → (a || b) ≡ true
or_left a b h = ap (λ c. c || b) h

or_right : (a b : Bool) → b ≡ true → (a || b) ≡ true
or_right true b h = refl
or_right false b h = h

left : (p q : List ℕ → Bool) (e f : Bindings) → Alike (λ x. p x || q x) e f → Alike p e f
left p q e f h x a = h x (or_left (p x) (q x) a)

right : (p q : List ℕ → Bool) (e f : Bindings) → Alike (λ x. p x || q x) e f → Alike q e f
right p q e f h x a = h x (or_right (p x) (q x) a)

unless : (t q : Bool) (d : Data) (o p : Option Data) → ((not t && q) ≡ true → o ≡ p) → q ≡ true → (if t then Some d else o) ≡ (if t then Some d else p)
unless true q d o p h k = refl
unless false q d o p h k = h k

-- the same with one more name bound, to the same value in both
inside : (q : List ℕ → Bool) (y : List ℕ) (d : Data) (e f : Bindings) → Alike (λ x. not (bytes_eq x y) && q x) e f → Alike q ((y, d) ∷ e) ((y, d) ∷ f)
inside q y d e f h x k = unless (bytes_eq x y) (q x) d (binding x e) (binding x f) (h x) k

mutual
  pub meaning_alike : (library : Library) (book : Book) (t : Term) (e f : Bindings) → ((x : List ℕ) → is_free x t ≡ true → binding x e ≡ binding x f) → meaning library book t e ≡ meaning library book t f
  meaning_alike library book (literal v) e f h = refl
  meaning_alike library book (ident x) e f h = ap (λ o. option_map_or Ok o (Err (undeclared x))) (h x ((bytes_eq-Decides x x).1 refl))
  meaning_alike library book (select a x) e f h = ap (λ r. and_then r (λ v. selection (text_key x) v)) (meaning_alike library book a e f h)
  meaning_alike library book (has a x) e f h = ap (λ r. and_then r (λ v. has_member (text_key x) v)) (meaning_alike library book a e f h)
  meaning_alike library book (index a b) e f h =
      let ha = left (λ x. is_free x a) (λ x. is_free x b) e f h in
      let hb = right (λ x. is_free x a) (λ x. is_free x b) e f h in
      λ i. strictly index_outcome (meaning_alike library book a e f ha i) (meaning_alike library book b e f hb i)
  meaning_alike library book (unary op a) e f h = ap (λ r. and_then r (λ v. unary_outcome op v)) (meaning_alike library book a e f h)
  meaning_alike library book (binary op a b) e f h =
      let ha = left (λ x. is_free x a) (λ x. is_free x b) e f h in
      let hb = right (λ x. is_free x a) (λ x. is_free x b) e f h in
      λ i. binary_of op (meaning_alike library book a e f ha i) (meaning_alike library book b e f hb i)
  meaning_alike library book (conditional a b c) e f h =
      let ha = left (λ x. is_free x a) (λ x. is_free x b || is_free x c) e f h in
      let more = right (λ x. is_free x a) (λ x. is_free x b || is_free x c) e f h in
      let hb = left (λ x. is_free x b) (λ x. is_free x c) e f more in
      let hc = right (λ x. is_free x b) (λ x. is_free x c) e f more in
      λ i. branch_outcome (truth (codes "?:") (meaning_alike library book a e f ha i)) (meaning_alike library book b e f hb i) (meaning_alike library book c e f hc i)
  meaning_alike library book (list_of ts) e f h = λ i. and_then (all_values (meanings_alike library book ts e f h i)) (λ vs. Ok (list (items_of vs)))
  meaning_alike library book (map_with ps) e f h = map_meaning_alike library book ps e f h (map_of no_entries)
  meaning_alike library book (call target name args) e f h =
      let ht = left (λ x. is_free_in_any x target) (λ x. is_free_in_any x args) e f h in
      let ha = right (λ x. is_free_in_any x target) (λ x. is_free_in_any x args) e f h in
      λ i. by_form (library.form_of name (is_there target) (count_of args)) name
      (and_then (all_values (meanings_alike library book target e f ht i)) (λ rs. and_then (all_values (meanings_alike library book args e f ha i)) (λ vs. call_outcome library book name (receiver_of rs) vs)))
  meaning_alike library book (qualified name args) e f h = λ i. by_form (library.form_of name false (count_of args)) name
      (and_then (all_values (meanings_alike library book args e f h i)) (λ vs. call_outcome library book name None vs))
  meaning_alike library book (macro kind range y filter body) e f h =
      let within = λ (x : List ℕ). is_free_in_any x filter || is_free x body in
      let hr = left (λ x. is_free x range) (λ x. not (bytes_eq x y) && within x) e f h in
      let more = right (λ x. is_free x range) (λ x. not (bytes_eq x y) && within x) e f h in
      let hf = λ (d : Data). left (λ x. is_free_in_any x filter) (λ x. is_free x body) ((y, d) ∷ e) ((y, d) ∷ f) (inside within y d e f more) in
      let hb = λ (d : Data). right (λ x. is_free_in_any x filter) (λ x. is_free x body) ((y, d) ∷ e) ((y, d) ∷ f) (inside within y d e f more) in
      λ i. and_then (meaning_alike library book range e f hr i) (λ v. and_then (range_of (macro_name kind) v)
      (λ items. macro_of kind (map (λ d. meaning_alike library book body ((y, d) ∷ e) ((y, d) ∷ f) (hb d) i) items)
      (map (λ d. iteration_result_of kind d (meanings_alike library book filter ((y, d) ∷ e) ((y, d) ∷ f) (hf d) i) (meaning_alike library book body ((y, d) ∷ e) ((y, d) ∷ f) (hb d) i)) items)))

  meanings_alike : (library : Library) (book : Book) (ts : Terms) (e f : Bindings) → ((x : List ℕ) → is_free_in_any x ts ≡ true → binding x e ≡ binding x f) → meanings library book ts e ≡ meanings library book ts f
  meanings_alike library book no_terms e f h = refl
  meanings_alike library book (term_and t ts) e f h =
      let ht = left (λ x. is_free x t) (λ x. is_free_in_any x ts) e f h in
      let hs = right (λ x. is_free x t) (λ x. is_free_in_any x ts) e f h in
      λ i. meaning_alike library book t e f ht i ∷ meanings_alike library book ts e f hs i

  map_meaning_alike : (library : Library) (book : Book) (ps : Pairs) (e f : Bindings) → ((x : List ℕ) → is_free_in_pairs x ps ≡ true → binding x e ≡ binding x f) → (m : Data) → map_meaning library book ps e m ≡ map_meaning library book ps f m
  map_meaning_alike library book no_pairs e f h m = refl
  map_meaning_alike library book (pair_and k v ps) e f h m =
      let hk = left (λ x. is_free x k) (λ x. is_free x v || is_free_in_pairs x ps) e f h in
      let more = right (λ x. is_free x k) (λ x. is_free x v || is_free_in_pairs x ps) e f h in
      let hv = left (λ x. is_free x v) (λ x. is_free_in_pairs x ps) e f more in
      let hs = right (λ x. is_free x v) (λ x. is_free_in_pairs x ps) e f more in
      λ i. and_then (entry_of (meaning_alike library book k e f hk i) (meaning_alike library book v e f hv i) m) (λ n. map_meaning_alike library book ps e f hs n i)
