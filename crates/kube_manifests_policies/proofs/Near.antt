-- The meaning of an expression doesn't depend on a member of `variables` that it doesn't read.
use Rattle.cel.specs.Book.{Book}
use Rattle.cel.specs.Bindings.{Bindings, binding}
use Rattle.cel.specs.Calls.{receiver_of, by_form, call_outcome}
use Rattle.cel_syntax.specs.Term.{is_there, Term, literal, ident, select, has, index, unary, binary, conditional, list_of, map_with, call, qualified, macro, Terms, no_terms, term_and, count_of, Pairs, no_pairs, pair_and}
use Rattle.cel.specs.Decisions.{truth, branch_outcome}
use Rattle.cel.specs.Library.{Library}
use Rattle.cel.specs.Macros.{macro_name, macro_of, iteration_result_of}
use Rattle.cel.specs.Meaning.{meaning, meanings, map_meaning, binary_of, strictly, entry_of}
use Rattle.cel.specs.Members.{selection, has_member, index_outcome}
use Rattle.cel.specs.Operators.{unary_outcome}
use Rattle.cel.specs.Outcome.{Outcome, and_then, all_values}
use Rattle.cel.specs.Ranges.{range_of}
use Rattle.cel_value.specs.Data.{Data, Entries, bool, list, map_of, no_entries, text_key}
use Rattle.cel_value.specs.Faults.{no_key, undeclared}
use Rattle.cel_value.specs.Find.{find}
use Rattle.cel_value.specs.View.{items_of}
use Rattle.cel.proofs.Bound.{meaning_same}
use Rattle.kube_manifests_names.specs.Uses.{asks, asks_in_any, asks_in_pairs}
use Rattle.std.proofs.Common.{◌≡◌, ℕ, List, ◌∷◌, map, Bool, true, false, ◌||◌, ◌&&◌, not, Option, Some, None, is_some, Ok, Err, codes, if◌then◌else◌, refl, sym, ap, ◌∙◌, true≢false}
use Rattle.std.proofs.lemmas.Slice.Eq.{bytes_eq-Decides}
use Rattle.std.specs.Option.{option_map_or}
use Rattle.std.specs.Str.{bytes_eq}

-- the bindings are equal, except for `variables`
pub record Near (es fs : Entries) (e f : Bindings) : Type 0 where
  pub here : binding (codes "variables") e ≡ Some (map_of es)
  pub there : binding (codes "variables") f ≡ Some (map_of fs)
  pub others : (x : List ℕ) → bytes_eq (codes "variables") x ≡ false → binding x e ≡ binding x f

-- the members are equal, except for one
abbrev pub Members : List ℕ → Entries → Entries → Type 0
Members y es fs = (z : List ℕ) → bytes_eq y z ≡ false → find (text_key z) es ≡ find (text_key z) fs

not_first : (a b : Bool) → (a || b) ≡ false → a ≡ false
not_first true b h = h
not_first false b h = refl

not_second : (a b : Bool) → (a || b) ≡ false → b ≡ false
not_second true b h = absurd (true≢false h)
not_second false b h = h

-- ---- names

near_under : (es fs : Entries) (e f : Bindings) → Near es fs e f → (x : List ℕ) (d : Data) → bytes_eq (codes "variables") x ≡ false → Near es fs ((x, d) ∷ e) ((x, d) ∷ f)
near_under es fs e f n x d other = record {
  here = rw other n.here;
  there = rw other n.there;
  others = λ y h. ap (λ o. if bytes_eq y x then Some d else o) (n.others y h);
}

other_by : (c : Bool) (es fs : Entries) (e f : Bindings) → Near es fs e f → (x y : List ℕ) → codes "variables" ≡ x → bytes_eq y x ≡ false → bytes_eq (codes "variables") y ≡ c
    → binding y e ≡ binding y f
other_by false es fs e f n x y same is k = n.others y k
other_by true es fs e f n x y same is k =
    absurd (true≢false (sym ((bytes_eq-Decides y x).1 (sym ((bytes_eq-Decides (codes "variables") y).0 k) ∙ same)) ∙ is))

hidden_by : (c : Bool) (es fs : Entries) (e f : Bindings) → Near es fs e f → (x : List ℕ) (d : Data) → bytes_eq (codes "variables") x ≡ true → (y : List ℕ) → bytes_eq y x ≡ c
    → (if c then Some d else binding y e) ≡ (if c then Some d else binding y f)
hidden_by true es fs e f n x d h y is = refl
hidden_by false es fs e f n x d h y is =
    let same : codes "variables" ≡ x = (bytes_eq-Decides (codes "variables") x).0 h in
    other_by (bytes_eq (codes "variables") y) es fs e f n x y same is refl

hidden : (es fs : Entries) (e f : Bindings) → Near es fs e f → (x : List ℕ) (d : Data) → bytes_eq (codes "variables") x ≡ true → (y : List ℕ) → binding y ((x, d) ∷ e) ≡ binding y ((x, d) ∷ f)
hidden es fs e f n x d h y = hidden_by (bytes_eq y x) es fs e f n x d h y refl

-- ---- members

selected_near : (c : Bool) (es fs : Entries) (e f : Bindings) (y x z : List ℕ) → Near es fs e f → Members y es fs → bytes_eq (codes "variables") x ≡ c → (if c then bytes_eq y z else c) ≡ false
    → and_then (option_map_or Ok (binding x e) (Err (undeclared x))) (λ v. selection (text_key z) v) ≡ and_then (option_map_or Ok (binding x f) (Err (undeclared x))) (λ v. selection (text_key z) v)
selected_near false es fs e f y x z n m is h = ap (λ o. and_then (option_map_or Ok o (Err (undeclared x))) (λ v. selection (text_key z) v)) (n.others x is)
selected_near true es fs e f y x z n m is h =
    let same : codes "variables" ≡ x = (bytes_eq-Decides (codes "variables") x).0 is in
    let to : Option Data → Outcome = λ o. and_then (option_map_or Ok o (Err (undeclared x))) (λ v. selection (text_key z) v) in
    ap to (sym (ap (λ k. binding k e) same) ∙ n.here) ∙ ap (λ o. option_map_or Ok o (Err (no_key (text_key z)))) (m z h) ∙ sym (ap to (sym (ap (λ k. binding k f) same) ∙ n.there))

has_near : (c : Bool) (es fs : Entries) (e f : Bindings) (y x z : List ℕ) → Near es fs e f → Members y es fs → bytes_eq (codes "variables") x ≡ c → (if c then bytes_eq y z else c) ≡ false
    → and_then (option_map_or Ok (binding x e) (Err (undeclared x))) (λ v. has_member (text_key z) v) ≡ and_then (option_map_or Ok (binding x f) (Err (undeclared x))) (λ v. has_member (text_key z) v)
has_near false es fs e f y x z n m is h = ap (λ o. and_then (option_map_or Ok o (Err (undeclared x))) (λ v. has_member (text_key z) v)) (n.others x is)
has_near true es fs e f y x z n m is h =
    let same : codes "variables" ≡ x = (bytes_eq-Decides (codes "variables") x).0 is in
    let to : Option Data → Outcome = λ o. and_then (option_map_or Ok o (Err (undeclared x))) (λ v. has_member (text_key z) v) in
    ap to (sym (ap (λ k. binding k e) same) ∙ n.here) ∙ ap (λ o. Ok (bool (is_some o))) (m z h) ∙ sym (ap to (sym (ap (λ k. binding k f) same) ∙ n.there))

-- ---- macros

meanings_same : (library : Library) (book : Book) (ts : Terms) (e f : Bindings) → ((x : List ℕ) → binding x e ≡ binding x f) → meanings library book ts e ≡ meanings library book ts f
meanings_same library book no_terms e f h = refl
meanings_same library book (term_and t ts) e f h = λ i. meaning_same library book t e f h i ∷ meanings_same library book ts e f h i

-- inside a macro that hides `variables`, and inside one that doesn't
inside : {A : Type 0} (c p q : Bool) (r s : A) → (not c && (p || q)) ≡ false → (c ≡ true → r ≡ s) → (c ≡ false → p ≡ false → q ≡ false → r ≡ s) → r ≡ s
inside true p q r s h hides goes = hides refl
inside false p q r s h hides goes = goes refl (not_first p q h) (not_second p q h)

module _ (library : Library) (book : Book) (y : List ℕ) (es fs : Entries) (m : Members y es fs) where
  mutual
    pub near : (t : Term) (e f : Bindings) → Near es fs e f → asks (codes "variables") y true t ≡ false → meaning library book t e ≡ meaning library book t f
    near (literal v) e f n h = refl
    near (ident x) e f n h = ap (λ o. option_map_or Ok o (Err (undeclared x))) (n.others x h)
    near (select (ident x) z) e f n h = selected_near (bytes_eq (codes "variables") x) es fs e f y x z n m refl h
    near (has (ident x) z) e f n h = has_near (bytes_eq (codes "variables") x) es fs e f y x z n m refl h
    near (select (literal v) z) e f n h = ap (λ r. and_then r (λ v. selection (text_key z) v)) (near (literal v) e f n h)
    near (select (select a x) z) e f n h = ap (λ r. and_then r (λ v. selection (text_key z) v)) (near (select a x) e f n h)
    near (select (has a x) z) e f n h = ap (λ r. and_then r (λ v. selection (text_key z) v)) (near (has a x) e f n h)
    near (select (index a c) z) e f n h = ap (λ r. and_then r (λ v. selection (text_key z) v)) (near (index a c) e f n h)
    near (select (unary op a) z) e f n h = ap (λ r. and_then r (λ v. selection (text_key z) v)) (near (unary op a) e f n h)
    near (select (binary op a c) z) e f n h = ap (λ r. and_then r (λ v. selection (text_key z) v)) (near (binary op a c) e f n h)
    near (select (conditional a c d) z) e f n h = ap (λ r. and_then r (λ v. selection (text_key z) v)) (near (conditional a c d) e f n h)
    near (select (list_of ts) z) e f n h = ap (λ r. and_then r (λ v. selection (text_key z) v)) (near (list_of ts) e f n h)
    near (select (map_with ps) z) e f n h = ap (λ r. and_then r (λ v. selection (text_key z) v)) (near (map_with ps) e f n h)
    near (select (call target name args) z) e f n h = ap (λ r. and_then r (λ v. selection (text_key z) v)) (near (call target name args) e f n h)
    near (select (qualified name args) z) e f n h = ap (λ r. and_then r (λ v. selection (text_key z) v)) (near (qualified name args) e f n h)
    near (select (macro kind range x filter body) z) e f n h = ap (λ r. and_then r (λ v. selection (text_key z) v)) (near (macro kind range x filter body) e f n h)
    near (has (literal v) z) e f n h = ap (λ r. and_then r (λ v. has_member (text_key z) v)) (near (literal v) e f n h)
    near (has (select a x) z) e f n h = ap (λ r. and_then r (λ v. has_member (text_key z) v)) (near (select a x) e f n h)
    near (has (has a x) z) e f n h = ap (λ r. and_then r (λ v. has_member (text_key z) v)) (near (has a x) e f n h)
    near (has (index a c) z) e f n h = ap (λ r. and_then r (λ v. has_member (text_key z) v)) (near (index a c) e f n h)
    near (has (unary op a) z) e f n h = ap (λ r. and_then r (λ v. has_member (text_key z) v)) (near (unary op a) e f n h)
    near (has (binary op a c) z) e f n h = ap (λ r. and_then r (λ v. has_member (text_key z) v)) (near (binary op a c) e f n h)
    near (has (conditional a c d) z) e f n h = ap (λ r. and_then r (λ v. has_member (text_key z) v)) (near (conditional a c d) e f n h)
    near (has (list_of ts) z) e f n h = ap (λ r. and_then r (λ v. has_member (text_key z) v)) (near (list_of ts) e f n h)
    near (has (map_with ps) z) e f n h = ap (λ r. and_then r (λ v. has_member (text_key z) v)) (near (map_with ps) e f n h)
    near (has (call target name args) z) e f n h = ap (λ r. and_then r (λ v. has_member (text_key z) v)) (near (call target name args) e f n h)
    near (has (qualified name args) z) e f n h = ap (λ r. and_then r (λ v. has_member (text_key z) v)) (near (qualified name args) e f n h)
    near (has (macro kind range x filter body) z) e f n h = ap (λ r. and_then r (λ v. has_member (text_key z) v)) (near (macro kind range x filter body) e f n h)
    near (index a c) e f n h = λ i. strictly index_outcome (near a e f n (not_first (asks (codes "variables") y true a) _ h) i) (near c e f n (not_second (asks (codes "variables") y true a) _ h) i)
    near (unary op a) e f n h = ap (λ r. and_then r (λ v. unary_outcome op v)) (near a e f n h)
    near (binary op a c) e f n h = λ i. binary_of op (near a e f n (not_first (asks (codes "variables") y true a) _ h) i) (near c e f n (not_second (asks (codes "variables") y true a) _ h) i)
    near (conditional a c d) e f n h =
        let k = not_second (asks (codes "variables") y true a) _ h in
        λ i. branch_outcome (truth (codes "?:") (near a e f n (not_first (asks (codes "variables") y true a) _ h) i)) (near c e f n (not_first (asks (codes "variables") y true c) _ k) i) (near d e f n (not_second (asks (codes "variables") y true c) _ k) i)
    near (list_of ts) e f n h = λ i. and_then (all_values (nears ts e f n h i)) (λ vs. Ok (list (items_of vs)))
    near (map_with ps) e f n h = map_near ps e f n h (map_of no_entries)
    near (call target name args) e f n h = λ i. by_form (library.form_of name (is_there target) (count_of args)) name
        (and_then (all_values (nears target e f n (not_first (asks_in_any (codes "variables") y true target) _ h) i))
        (λ rs. and_then (all_values (nears args e f n (not_second (asks_in_any (codes "variables") y true target) _ h) i)) (λ vs. call_outcome library book name (receiver_of rs) vs)))
    near (qualified name args) e f n h = λ i. by_form (library.form_of name false (count_of args)) name
        (and_then (all_values (nears args e f n h i)) (λ vs. call_outcome library book name None vs))
    near (macro kind range x filter body) e f n h =
        let c = bytes_eq (codes "variables") x in
        let p = asks_in_any (codes "variables") y true filter in
        let q = asks (codes "variables") y true body in
        let k = not_second (asks (codes "variables") y true range) _ h in
        let bodies : (d : Data) → meaning library book body ((x, d) ∷ e) ≡ meaning library book body ((x, d) ∷ f) =
        λ d. inside c p q (meaning library book body ((x, d) ∷ e)) (meaning library book body ((x, d) ∷ f)) k
        (λ is. meaning_same library book body ((x, d) ∷ e) ((x, d) ∷ f) (hidden es fs e f n x d is))
        (λ is hp hq. near body ((x, d) ∷ e) ((x, d) ∷ f) (near_under es fs e f n x d is) hq) in
        let filters : (d : Data) → meanings library book filter ((x, d) ∷ e) ≡ meanings library book filter ((x, d) ∷ f) =
        λ d. inside c p q (meanings library book filter ((x, d) ∷ e)) (meanings library book filter ((x, d) ∷ f)) k
        (λ is. meanings_same library book filter ((x, d) ∷ e) ((x, d) ∷ f) (hidden es fs e f n x d is))
        (λ is hp hq. nears filter ((x, d) ∷ e) ((x, d) ∷ f) (near_under es fs e f n x d is) hp) in
        λ i. and_then (near range e f n (not_first (asks (codes "variables") y true range) _ h) i) (λ v. and_then (range_of (macro_name kind) v)
        (λ items. macro_of kind (map (λ d. bodies d i) items) (map (λ d. iteration_result_of kind d (filters d i) (bodies d i)) items)))

    nears : (ts : Terms) (e f : Bindings) → Near es fs e f → asks_in_any (codes "variables") y true ts ≡ false → meanings library book ts e ≡ meanings library book ts f
    nears no_terms e f n h = refl
    nears (term_and t ts) e f n h = λ i. near t e f n (not_first (asks (codes "variables") y true t) _ h) i ∷ nears ts e f n (not_second (asks (codes "variables") y true t) _ h) i

    map_near : (ps : Pairs) (e f : Bindings) → Near es fs e f → asks_in_pairs (codes "variables") y true ps ≡ false → (d : Data) → map_meaning library book ps e d ≡ map_meaning library book ps f d
    map_near no_pairs e f n h d = refl
    map_near (pair_and k v ps) e f n h d =
        let l = not_second (asks (codes "variables") y true k) _ h in
        λ i. and_then (entry_of (near k e f n (not_first (asks (codes "variables") y true k) _ h) i) (near v e f n (not_first (asks (codes "variables") y true v) _ l) i) d)
        (λ w. map_near ps e f n (not_second (asks (codes "variables") y true v) _ l) w i)
