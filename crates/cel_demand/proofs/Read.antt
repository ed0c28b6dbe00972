-- A meaning depends only on what is read.
use Rattle.std.proofs.Common.{◌≡◌, ◌∷◌, None, Ok, codes, ap, refl, subst}
use Rattle.cel_patterns.specs.Book.{Book}
use Rattle.cel_semantics.specs.Bindings.{Bindings, binding}
use Rattle.cel_semantics.specs.Calls.{receiver_of, by_form, call_outcome}
use Rattle.cel_syntax_ast.specs.Term.{is_there, Term, literal, ident, select, has, index, unary, binary, conditional, list_of, map_with, call, qualified, macro, Terms, no_terms, term_and, count_of, Pairs, no_pairs, pair_and}
use Rattle.cel_semantics.specs.Decisions.{truth, branch_outcome}
use Rattle.cel_semantics.specs.Library.{Library}
use Rattle.cel_semantics.specs.Meaning.{meaning, meanings, map_meaning, binary_of, strictly, entry_of}
use Rattle.cel_semantics.specs.Members.{selection, has_member, index_outcome}
use Rattle.cel_semantics.specs.Operators.{unary_outcome}
use Rattle.cel_semantics.specs.Outcome.{Outcome, and_then, all_values}
use Rattle.cel_value.specs.Data.{Data, text_key, list, map_of, no_entries}
use Rattle.cel_value.specs.Faults.{Fault, undeclared}
use Rattle.cel_value.specs.View.{items_of}
use Rattle.std.specs.Prelude.{Bool, true, false, Result, Err}
use Rattle.cel_demand.specs.Alike.{Alike, BoundAlike, NamesAlike}
use Rattle.cel_demand.specs.Part.{Part, nothing, whole, each_item, some_members, Members, no_members, member, both, all_members, part_at, part_read, without}
use Rattle.cel_demand.specs.Reads.{reads, all_reads, pair_reads, reads_of, kept_part, body_part}
use Rattle.cel_demand.proofs.Macros.{made_over_alike}
use Rattle.cel_demand.proofs.Named.{by_reads}
use Rattle.cel_demand.proofs.Parts.{with_member_alike, both_alike, all_members_alike, bound_inside, alike-refl}
use Rattle.cel_demand.proofs.Results.{ResultsAlike, results_equal, whole_results, results_then, found_alike, selection_alike, has_alike}

chosen_alike : (p : Part) (t : Result Bool Fault) (r s u v : Outcome) → ResultsAlike (Alike p) r s → ResultsAlike (Alike p) u v → ResultsAlike (Alike p) (branch_outcome t r u) (branch_outcome t s v)
chosen_alike p (Ok true) r s u v h k = h
chosen_alike p (Ok false) r s u v h k = k
chosen_alike p (Err a) r s u v h k = refl

choice_alike : (p : Part) (a b : Outcome) (r s u v : Outcome) → a ≡ b → ResultsAlike (Alike p) r s → ResultsAlike (Alike p) u v → ResultsAlike (Alike p) (branch_outcome (truth (codes "?:") a) r u) (branch_outcome (truth (codes "?:") b) s v)
choice_alike p a b r s u v e h k = subst (λ z. ResultsAlike (Alike p) (branch_outcome (truth (codes "?:") a) r u) (branch_outcome (truth (codes "?:") z) s v)) e (chosen_alike p (truth (codes "?:") a) r s u v h k)

same : (library : Library) (book : Book) (t : Term) (e f : Bindings) → ResultsAlike (Alike whole) (meaning library book t e) (meaning library book t f) → meaning library book t e ≡ meaning library book t f
same library book t e f h = whole_results (meaning library book t e) (meaning library book t f) h

mutual
  pub meaning_alike : (library : Library) (book : Book) (t : Term) (p : Part) (names : Members) (e f : Bindings) → BoundAlike (reads t p names) e f → ResultsAlike (Alike p) (meaning library book t e) (meaning library book t f) × BoundAlike names e f
  meaning_alike library book (literal v) p names e f h = (alike-refl p v, h)
  meaning_alike library book (ident x) p names e f h =
      let hs = with_member_alike x p (both p) (both_alike p) names (λ x. binding x e) (λ x. binding x f) h in
      (found_alike (Alike p) (undeclared x) (binding x e) (binding x f) hs.0, hs.1)
  meaning_alike library book (select a x) p names e f h =
      let ha = meaning_alike library book a (some_members (member x p no_members)) names e f h in
      (results_then (Alike (some_members (member x p no_members))) (Alike p) (selection (text_key x)) (selection (text_key x)) (selection_alike x p) (meaning library book a e) (meaning library book a f) ha.0, ha.1)
  meaning_alike library book (has a x) p names e f h =
      let ha = meaning_alike library book a (some_members (member x nothing no_members)) names e f h in
      (results_then (Alike (some_members (member x nothing no_members))) (Alike p) (has_member (text_key x)) (has_member (text_key x)) (has_alike x p) (meaning library book a e) (meaning library book a f) ha.0, ha.1)
  meaning_alike library book (index a b) p names e f h =
      let hb = meaning_alike library book b whole (reads a whole names) e f h in
      let ha = meaning_alike library book a whole names e f hb.1 in
      (results_equal p (meaning library book (index a b) e) (meaning library book (index a b) f) (λ i. strictly index_outcome (same library book a e f ha.0 i) (same library book b e f hb.0 i)), ha.1)
  meaning_alike library book (unary op a) p names e f h =
      let ha = meaning_alike library book a whole names e f h in
      (results_equal p (meaning library book (unary op a) e) (meaning library book (unary op a) f) (ap (λ r. and_then r (λ v. unary_outcome op v)) (same library book a e f ha.0)), ha.1)
  meaning_alike library book (binary op a b) p names e f h =
      let hb = meaning_alike library book b whole (reads a whole names) e f h in
      let ha = meaning_alike library book a whole names e f hb.1 in
      (results_equal p (meaning library book (binary op a b) e) (meaning library book (binary op a b) f) (λ i. binary_of op (same library book a e f ha.0 i) (same library book b e f hb.0 i)), ha.1)
  meaning_alike library book (conditional a b c) p names e f h =
      let hc = meaning_alike library book c p (reads b p (reads a whole names)) e f h in
      let hb = meaning_alike library book b p (reads a whole names) e f hc.1 in
      let ha = meaning_alike library book a whole names e f hb.1 in
      (choice_alike p (meaning library book a e) (meaning library book a f) (meaning library book b e) (meaning library book b f) (meaning library book c e) (meaning library book c f) (same library book a e f ha.0) hb.0 hc.0, ha.1)
  meaning_alike library book (list_of ts) p names e f h =
      let hs = meanings_alike library book ts names e f h in
      (results_equal p (meaning library book (list_of ts) e) (meaning library book (list_of ts) f) (ap (λ rs. and_then (all_values rs) (λ vs. Ok (list (items_of vs)))) hs.0), hs.1)
  meaning_alike library book (map_with ps) p names e f h =
      let hs = map_meaning_alike library book ps names e f h in
      (results_equal p (meaning library book (map_with ps) e) (meaning library book (map_with ps) f) (hs.0 (map_of no_entries)), hs.1)
  meaning_alike library book (call target name args) p names e f h =
      let ha = meanings_alike library book args (all_reads target names) e f h in
      let ht = meanings_alike library book target names e f ha.1 in (
        results_equal p (meaning library book (call target name args) e) (meaning library book (call target name args) f) (λ i. by_form (library.form_of name (is_there target) (count_of args)) name
            (and_then (all_values (ht.0 i)) (λ rs. and_then (all_values (ha.0 i)) (λ vs. call_outcome library book name (receiver_of rs) vs)))),
        ht.1,
      )
  meaning_alike library book (qualified name args) p names e f h =
      let ha = meanings_alike library book args names e f h in
      (results_equal p (meaning library book (qualified name args) e) (meaning library book (qualified name args) f) (λ i. by_form (library.form_of name false (count_of args)) name (and_then (all_values (ha.0 i)) (λ vs. call_outcome library book name None vs))), ha.1)
  meaning_alike library book (macro kind range x filter body) p names e f h =
      let inside = reads body (body_part kind p) (all_reads filter no_members) in
      let q = both (kept_part kind p) (part_at x inside) in
      let hr = meaning_alike library book range (each_item q) (all_members (without x inside) names) e f h in
      let hs = all_members_alike (without x inside) names (λ x. binding x e) (λ x. binding x f) hr.1 in
      let bodies = λ (v w : Data) (a : Alike q v w). meaning_alike library book body (body_part kind p) (all_reads filter no_members) ((x, v) ∷ e) ((x, w) ∷ f)
      (bound_inside x inside v w e f (both_alike (kept_part kind p) (part_at x inside) v w a).1 hs.0) in (
        made_over_alike kind p q (λ d. meaning library book body ((x, d) ∷ e)) (λ d. meaning library book body ((x, d) ∷ f)) (λ d. meanings library book filter ((x, d) ∷ e)) (λ d. meanings library book filter ((x, d) ∷ f))
            (λ v w a. (bodies v w a).0)
            (λ v w a. (meanings_alike library book filter no_members ((x, v) ∷ e) ((x, w) ∷ f) (bodies v w a).1).0)
            (λ v w a. (both_alike (kept_part kind p) (part_at x inside) v w a).0)
            (meaning library book range e) (meaning library book range f) hr.0,
        hs.1,
      )

  meanings_alike : (library : Library) (book : Book) (ts : Terms) (names : Members) (e f : Bindings) → BoundAlike (all_reads ts names) e f → (meanings library book ts e ≡ meanings library book ts f) × BoundAlike names e f
  meanings_alike library book no_terms names e f h = (refl, h)
  meanings_alike library book (term_and t ts) names e f h =
      let hs = meanings_alike library book ts (reads t whole names) e f h in
      let ht = meaning_alike library book t whole names e f hs.1 in
      (λ i. same library book t e f ht.0 i ∷ hs.0 i, ht.1)

  map_meaning_alike : (library : Library) (book : Book) (ps : Pairs) (names : Members) (e f : Bindings) → BoundAlike (pair_reads ps names) e f → ((m : Data) → map_meaning library book ps e m ≡ map_meaning library book ps f m) × BoundAlike names e f
  map_meaning_alike library book no_pairs names e f h = (λ m. refl, h)
  map_meaning_alike library book (pair_and k v ps) names e f h =
      let hs = map_meaning_alike library book ps (reads v whole (reads k whole names)) e f h in
      let hv = meaning_alike library book v whole (reads k whole names) e f hs.1 in
      let hk = meaning_alike library book k whole names e f hv.1 in
      (λ m i. and_then (entry_of (same library book k e f hk.0 i) (same library book v e f hv.0 i) m) (λ n. hs.0 n i), hk.1)

-- and so only on what is read of each name
pub meaning_reads : (library : Library) (book : Book) (t : Term) (e f : Bindings) → NamesAlike (λ x. part_read x (reads_of t)) e f → meaning library book t e ≡ meaning library book t f
meaning_reads library book t e f h =
    whole_results (meaning library book t e) (meaning library book t f) (meaning_alike library book t whole no_members e f (by_reads (reads_of t) (λ x. binding x e) (λ x. binding x f) h)).0
