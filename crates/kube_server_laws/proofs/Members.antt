-- Optional members.
use Rattle.std.proofs.Common.{◌≡◌, ℕ, List, Bool, true, false, Some, None, Ok, Err, refl, ap, ◌∙◌, if◌then◌else◌}
use Rattle.cel_patterns.specs.Book.{Book}
use Rattle.cel_value.specs.Data.{text_key, Data, bool, list, map_of, no_items, Entries}
use Rattle.std.specs.Prelude.{is_some}
use Rattle.cel_value.specs.Faults.{Fault}
use Rattle.cel_value.specs.Find.{find}
use Rattle.cel_semantics.specs.Bindings.{Bindings}
use Rattle.cel_semantics.specs.Meaning.{meaning}
use Rattle.cel_semantics.specs.Members.{selection as selection_of}
use Rattle.cel_semantics.specs.Outcome.{and_then}
use Rattle.cel_syntax_ast.specs.Term as term
use Rattle.cel_syntax_ast.specs.Term.{Term}
use Rattle.kube_server_functions.specs.Server.{server_library}
use Rattle.kube_server_laws.specs.Premises.{Plain, Holds, listed, is_map}
use Rattle.kube_server_laws.proofs.Outcomes.{alone}
use Rattle.kube_server_laws.proofs.Terms.{if_set_means, listed_member, members_of_map, members_of_other, members_outcome, set_by, set_in_other}
use Rattle.kube_server_syntax.specs.Tree.{Tree, select}
use Rattle.kube_server_syntax.specs.declared.node.Place.{Place}
use Rattle.kube_server_translation.specs.Calls.{after}
use Rattle.kube_server_translation.specs.Forms.{copied, if_set, is_path, members_in, one}
use Rattle.kube_server_translation.specs.Made.{Made, plain, member, held, Names, selected, selection, is_optional, value_of, held_of}
use Rattle.kube_server_translation.specs.Translation.{made}
use Rattle.kube_server_values.specs.Limits.{member_limit}

-- ---- on what isn't known to be an optional

abbrev a_member : Term → List ℕ → Bool → Made
a_member u x b = if b then member u x else held (members_in (term.list_of (one u)) x)

made_member : (names : Names) (p : Place) (a : Tree) (x : List ℕ) (u : Term) (b : Bool) → made names a ≡ Ok (plain u) → is_path u ≡ b
    → made names (select p a true x) ≡ Ok (a_member u x b)
made_member names p a x u b h e =
    ap (λ r. after r (λ m. Ok (selected m true x))) h ∙ ap (λ c. Ok (a_member u x c)) e

copied_is : (t : Term) → is_path t ≡ true → copied t ≡ t
copied_is (term.ident x) h = refl
copied_is (term.select t x) h = ap (λ u. term.select u x) (copied_is t h)
copied_is t h = cc

-- the list of the member of a path
abbrev member_list : List ℕ → Term → Term
member_list x t = if_set t x (term.list_of (one (term.select t x))) (term.list_of term.no_terms)

path_means : (book : Book) (x : List ℕ) (u : Term) (env : Bindings) (es : Entries) → meaning server_library book u env ≡ Ok (map_of es)
    → meaning server_library book (member_list x u) env ≡ listed (Ok (find (text_key x) es))
path_means book x u env es h =
    if_set_means book u x (term.list_of (one (term.select u x))) (term.list_of term.no_terms) env (map_of es) h
    ∙ (ap (λ r. set_by (Ok (bool (is_some (find (text_key x) es)))) (alone (and_then r (λ v. selection_of (text_key x) v))) (Ok (list no_items))) h
    ∙ listed_member (text_key x) (find (text_key x) es))

-- what the member holds, by what the map means
field_means : (book : Book) (x : List ℕ) (u : Term) (b : Bool) (env : Bindings) (es : Entries) → is_path u ≡ b → meaning server_library book u env ≡ Ok (map_of es)
    → meaning server_library book (held_of (a_member u x b)) env ≡ listed (Ok (find (text_key x) es))
field_means book x u true env es e h =
    ap (λ t. meaning server_library book (member_list x t) env) (copied_is u e) ∙ path_means book x u env es h
field_means book x u false env es e h = ap (λ r. members_outcome x (alone r)) h ∙ members_of_map x es

other_means : (book : Book) (x : List ℕ) (u : Term) (b : Bool) (env : Bindings) (v : Data) → is_map v ≡ false → is_path u ≡ b → meaning server_library book u env ≡ Ok v
    → meaning server_library book (held_of (a_member u x b)) env ≡ Err member_limit
other_means book x u true env v n e h =
    ap (λ t. meaning server_library book (member_list x t) env) (copied_is u e)
    ∙ (if_set_means book u x (term.list_of (one (term.select u x))) (term.list_of term.no_terms) env v h
    ∙ set_in_other (text_key x) v (meaning server_library book (term.list_of (one (term.select u x))) env) (meaning server_library book (term.list_of term.no_terms) env) n)
other_means book x u false env v n e h = ap (λ r. members_outcome x (alone r)) h ∙ members_of_other x v n

is_a_member : (u : Term) (x : List ℕ) (b : Bool) → is_optional (a_member u x b) ≡ true
is_a_member u x true = refl
is_a_member u x false = refl

pub optional_field : (book : Book) (names : Names) (p : Place) (a : Tree) (x : List ℕ) (env : Bindings) (es : Entries)
    → Plain book names a env (Ok (map_of es)) → Holds book names (select p a true x) env (Ok (find (text_key x) es))
optional_field book names p a x env es h = (
  a_member h.0 x (is_path h.0),
  made_member names p a x h.0 (is_path h.0) h.1 refl,
  is_a_member h.0 x (is_path h.0),
  field_means book x h.0 (is_path h.0) env es refl h.2,
)

pub optional_field_of_no_map : (book : Book) (names : Names) (p : Place) (a : Tree) (x : List ℕ) (env : Bindings) (v : Data) → is_map v ≡ false
    → Plain book names a env (Ok v) → Holds book names (select p a true x) env (Err member_limit)
optional_field_of_no_map book names p a x env v n h = (
  a_member h.0 x (is_path h.0),
  made_member names p a x h.0 (is_path h.0) h.1 refl,
  is_a_member h.0 x (is_path h.0),
  other_means book x h.0 (is_path h.0) env v n refl h.2,
)

-- ---- through an optional

made_through : (names : Names) (p : Place) (o : Tree) (q : Bool) (x : List ℕ) (m : Made) → made names o ≡ Ok m → is_optional m ≡ true
    → made names (select p o q x) ≡ Ok (held (members_in (held_of m) x))
made_through names p o q x m h e =
    ap (λ r. after r (λ n. Ok (selected n q x))) h
    ∙ ap (λ c. Ok (if c then held (members_in (held_of m) x) else selection (value_of m) q x)) e

pub through_none : (book : Book) (names : Names) (p : Place) (o : Tree) (q : Bool) (x : List ℕ) (env : Bindings)
    → Holds book names o env (Ok None) → Holds book names (select p o q x) env (Ok None)
through_none book names p o q x env h =
    (held (members_in (held_of h.0) x), made_through names p o q x h.0 h.1 h.2, refl, ap (members_outcome x) h.3)

pub through_map : (book : Book) (names : Names) (p : Place) (o : Tree) (q : Bool) (x : List ℕ) (env : Bindings) (es : Entries)
    → Holds book names o env (Ok (Some (map_of es))) → Holds book names (select p o q x) env (Ok (find (text_key x) es))
through_map book names p o q x env es h =
    (held (members_in (held_of h.0) x), made_through names p o q x h.0 h.1 h.2, refl, ap (members_outcome x) h.3 ∙ members_of_map x es)

pub through_error : (book : Book) (names : Names) (p : Place) (o : Tree) (q : Bool) (x : List ℕ) (env : Bindings) (e : Fault)
    → Holds book names o env (Err e) → Holds book names (select p o q x) env (Err e)
through_error book names p o q x env e h =
    (held (members_in (held_of h.0) x), made_through names p o q x h.0 h.1 h.2, refl, ap (members_outcome x) h.3)
