-- A verdict depends only on what the rule reads.
use Rattle.cel.specs.Checks.{judgement}
use Rattle.cel_demand.proofs.Named.{both_reads_alike}
use Rattle.cel_demand.proofs.Parts.{alike-refl}
use Rattle.cel_demand.proofs.Read.{meaning_reads}
use Rattle.cel.specs.Alike.{NamesAlike, ReadAlike}
use Rattle.cel.specs.Part.{Part, part_read}
use Rattle.cel.specs.Reads.{reads_of}
use Rattle.cel.specs.Book.{Book}
use Rattle.cel.specs.Bindings.{Bindings, binding}
use Rattle.cel_syntax.specs.Term.{Term}
use Rattle.cel.specs.Library.{Library}
use Rattle.cel_value.specs.Data.{Data, text}
use Rattle.kube_schema_rules.specs.Visit.{Root, Visit}
use Rattle.kube_cel_walk.specs.Verdicts.{is_applicable, is_old_optional, judged_error, list_of_option, optional_old_at, outcome_in, bound_verdict, rule_bindings, verdict, with_old, with_root}
use Rattle.kube_cel_walk.specs.WalkAccessors.{WalkAccessors}
use Rattle.kube_cel_walk.specs.Kept.{AreSameOthers}
use Rattle.kube_schema_rules.specs.Compilation.{Compiled, Malformed}
use Rattle.kube_schema_rules.specs.Demands.{rule_read, rules_read}
use Rattle.kube_schema_rules.specs.Reads.{texts_read}
use Rattle.std.proofs.Common.{◌≡◌, ℕ, List, [], ◌∷◌, ◌++◌, codes, Bool, true, false, Option, Some, None, is_some, option_map, Result, Ok, Err, if◌then◌else◌, refl, sym, ap, ◌∙◌, subst, true≢false}
use Rattle.std.proofs.lemmas.Bool.{false_from_ne_true}
use Rattle.std.proofs.lemmas.Slice.Eq.{bytes_eq-Decides}
use Rattle.std.specs.List.{flat_map}
use Rattle.std.specs.Str.{bytes_eq}

pub read-refl : (p : Option Part) (o : Option Data) → ReadAlike p o o
read-refl None o = tt
read-refl (Some p) None = tt
read-refl (Some p) (Some v) = alike-refl p v

-- ---- one more name

same_more : (p : Option Part) (b : Bool) (v : Data) (o q : Option Data) → ReadAlike p o q → ReadAlike p (if b then Some v else o) (if b then Some v else q)
same_more p true v o q h = read-refl p (Some v)
same_more p false v o q h = h

-- bound to the same value in both
pub names_under : (read : List ℕ → Option Part) (n : List ℕ) (v : Data) (e f : Bindings) → NamesAlike read e f → NamesAlike read ((n, v) ∷ e) ((n, v) ∷ f)
names_under read n v e f h x = same_more (read x) (bytes_eq x n) v (binding x e) (binding x f) (h x)

other_name : (x n : List ℕ) → bytes_eq x n ≡ false → bytes_eq n x ≡ false
other_name x n e = false_from_ne_true (bytes_eq n x) (λ k. true≢false (sym ((bytes_eq-Decides x n).1 (sym ((bytes_eq-Decides n x).0 k))) ∙ e))

-- all other names are bound to values that are alike in what is read of them
abbrev pub OthersAlike : List ℕ → (List ℕ → Option Part) → Bindings → Bindings → Type 0
OthersAlike n read e f = (x : List ℕ) → bytes_eq n x ≡ false → ReadAlike (read x) (binding x e) (binding x f)

named_at : (read : List ℕ → Option Part) (n : List ℕ) (v : Data) (d e f : Bindings) → OthersAlike n read e f → ReadAlike (read n) (binding n d) (Some v) → AreSameOthers n d e
    → (x : List ℕ) (b : Bool) → bytes_eq x n ≡ b → ReadAlike (read x) (binding x d) (if b then Some v else binding x f)
named_at read n v d e f h here others x true is = subst (λ y. ReadAlike (read y) (binding y d) (Some v)) (sym ((bytes_eq-Decides x n).0 is)) here
named_at read n v d e f h here others x false is = subst (λ o. ReadAlike (read x) o (binding x f)) (sym (others x (other_name x n is))) (h x (other_name x n is))

-- bound in the first to as much as is read
pub names_named : (read : List ℕ → Option Part) (n : List ℕ) (v : Data) (d e f : Bindings) → OthersAlike n read e f → ReadAlike (read n) (binding n d) (Some v) → AreSameOthers n d e
    → NamesAlike read d ((n, v) ∷ f)
names_named read n v d e f h here others x = named_at read n v d e f h here others x (bytes_eq x n) refl

-- a variable that was added
pub named_new : (n : List ℕ) (v : Data) (e d : Bindings) → ((x : List ℕ) → binding x d ≡ (if bytes_eq n x then Some v else binding x e)) → binding n d ≡ Some v
named_new n v e d h = h n ∙ ap (λ b. if b then Some v else binding n e) ((bytes_eq-Decides n n).1 refl)

pub named_others : (n : List ℕ) (v : Data) (e d : Bindings) → ((x : List ℕ) → binding x d ≡ (if bytes_eq n x then Some v else binding x e)) → AreSameOthers n d e
named_others n v e d h x other = h x ∙ ap (λ b. if b then Some v else binding x e) other

-- no name is bound
pub none_read : (p : Option Part) → ReadAlike p None None
none_read None = tt
none_read (Some p) = tt

pub unbound_read : (p : Option Part) (o : Option Data) → is_some o ≡ false → ReadAlike p o None
unbound_read None o h = tt
unbound_read (Some p) None h = tt
unbound_read (Some p) (Some v) h = true≢false h

-- the names of the root context
pub names_rooted : (read : List ℕ → Option Part) (root : Option Root) (d e f : Bindings) → NamesAlike read e f → ((x : List ℕ) → binding x d ≡ binding x (with_root root e)) → NamesAlike read d (with_root root f)
names_rooted read None d e f h same x = subst (λ o. ReadAlike (read x) o (binding x f)) (sym (same x)) (h x)
names_rooted read (Some r) d e f h same x =
    let e1 : Bindings = (codes "apiVersion", text r.api_version) ∷ e in
    let f1 : Bindings = (codes "apiVersion", text r.api_version) ∷ f in
    let e2 : Bindings = (codes "apiGroup", text r.api_group) ∷ e1 in
    let f2 : Bindings = (codes "apiGroup", text r.api_group) ∷ f1 in
    let all = names_under read (codes "kind") (text r.kind) e2 f2 (names_under read (codes "apiGroup") (text r.api_group) e1 f1 (names_under read (codes "apiVersion") (text r.api_version) e f h)) in
    subst (λ o. ReadAlike (read x) o (binding x (with_root (Some r) f))) (sym (same x)) (all x)

-- ---- verdicts

outcome_reads : (l : Library) (b : Book) (t : Term) (e f : Bindings) → NamesAlike (λ x. part_read x (reads_of t)) e f → outcome_in l b e t ≡ outcome_in l b f t
unfolding outcome_in
outcome_reads l b t e f h = meaning_reads l b t e f h

bound_reads : (l : Library) (b : Book) (path : List ℕ) (c : Compiled) (m : Option Term) (e f : Bindings) → NamesAlike (λ x. texts_read x c.tree m) e f
    → judged_error path c.fields (judgement (option_map (outcome_in l b e) m) (outcome_in l b e c.tree)) ≡ judged_error path c.fields (judgement (option_map (outcome_in l b f) m) (outcome_in l b f c.tree))
bound_reads l b path c None e f h = λ i. judged_error path c.fields (judgement None (outcome_reads l b c.tree e f h i))
bound_reads l b path c (Some t) e f h =
    let tree = λ (x : List ℕ). (both_reads_alike (part_read x (reads_of c.tree)) (part_read x (reads_of t)) (binding x e) (binding x f) (h x)).0 in
    let message = λ (x : List ℕ). (both_reads_alike (part_read x (reads_of c.tree)) (part_read x (reads_of t)) (binding x e) (binding x f) (h x)).1 in
    λ i. judged_error path c.fields (judgement (Some (outcome_reads l b t e f message i)) (outcome_reads l b c.tree e f tree i))

optional_under : (n : Bool) (old : Option Data) (read : List ℕ → Option Part) (e f : Bindings) → NamesAlike read e f → NamesAlike read (if n then with_old old e else e) (if n then with_old old f else f)
optional_under true None read e f h = h
optional_under true (Some v) read e f h = names_under read (codes "oldSelf") v e f h
optional_under false old read e f h = h

compiled_reads : (l : Library) (b : Book) (path : List ℕ) (c : Compiled) (e f : Bindings) → NamesAlike (λ x. texts_read x c.tree c.message_tree) e f → bound_verdict l b e path c ≡ bound_verdict l b f path c
unfolding bound_verdict
compiled_reads l b path c e f h = bound_reads l b path c c.message_tree e f h

module _ {S : Type 0} (form : WalkAccessors S) where
  pub verdict_reads : (b : Book) (e f : Bindings) (s : Visit S) (r : Result Compiled Malformed) → NamesAlike (λ x. rule_read x r) e f → verdict form b e s r ≡ verdict form b f s r
  unfolding verdict
  verdict_reads b e f s (Err m) h = refl
  verdict_reads b e f s (Ok c) h =
      ap (λ x. if is_applicable s.old c then x else None)
      (compiled_reads form.library b s.path c (rule_bindings form e s c.fields) (rule_bindings form f s c.fields) (optional_under (is_old_optional c.fields) (optional_old_at form s) (λ x. texts_read x c.tree c.message_tree) e f h))

  -- the verdicts of all rules of a node
  pub verdicts_read : (b : Book) (e f : Bindings) (s : Visit S) (rs : List (Result Compiled Malformed)) → NamesAlike (λ x. rules_read x rs) e f
      → flat_map (λ r. list_of_option (verdict form b e s r)) rs ≡ flat_map (λ r. list_of_option (verdict form b f s r)) rs
  verdicts_read b e f s [] h = refl
  verdicts_read b e f s (r ∷ rs) h =
      let first = λ (x : List ℕ). (both_reads_alike (rule_read x r) (rules_read x rs) (binding x e) (binding x f) (h x)).0 in
      let rest = λ (x : List ℕ). (both_reads_alike (rule_read x r) (rules_read x rs) (binding x e) (binding x f) (h x)).1 in
      λ i. list_of_option (verdict_reads b e f s r first i) ++ verdicts_read b e f s rs rest i
