-- What a condition on the member of a path chooses, whatever its branches are.
use Rattle.std.proofs.Common.{◌≡◌, ℕ, List, codes, Bool, true, false, Option, Some, None, Result, Ok, Err, refl}
use Rattle.std.specs.Prelude.{is_some}
use Rattle.std.specs.Option.{option_map_or}
use Rattle.cel_patterns.specs.Book.{Book}
use Rattle.cel_value.specs.Data.{KeyData, text_key, Data, bool, map_of}
use Rattle.cel_value.specs.Faults.{Fault, no_key, no_overload}
use Rattle.cel_value.specs.Find.{find}
use Rattle.cel_semantics.specs.Bindings.{Bindings}
use Rattle.cel_semantics.specs.Decisions.{truth, branch_outcome}
use Rattle.cel_semantics.specs.Meaning.{meaning}
use Rattle.cel_semantics.specs.Members.{selection, has_member}
use Rattle.cel_semantics.specs.Outcome.{Outcome, and_then}
use Rattle.cel_syntax_ast.specs.Term.{Term, select}
use Rattle.kube_server_functions.specs.Server.{server_library}
use Rattle.kube_server_laws.proofs.Outcomes.{truth_of}
use Rattle.kube_server_translation.specs.Forms.{if_set, is_set}

pub data Choice : Type 0 where
  present : Choice
  absent : Choice
  failed : Fault → Choice

abbrev pub choose : Choice → Outcome → Outcome → Outcome
choose present r s = r
choose absent r s = s
choose (failed e) r s = Err e

-- a condition, by the outcome of its test
by_test : (t : Outcome) → (c : Choice) × ((r s : Outcome) → branch_outcome (truth (codes "?:") t) r s ≡ choose c r s)
by_test t = by (truth (codes "?:") t)
  where
    by : (b : Result Bool Fault) → (c : Choice) × ((r s : Outcome) → branch_outcome b r s ≡ choose c r s)
    by (Ok true) = (present, λ r s. refl)
    by (Ok false) = (absent, λ r s. refl)
    by (Err e) = (failed e, λ r s. refl)

-- where the test of a member is false, its selection is an error
member_fails : (k : KeyData) (o : Option Data) → truth_of (is_some o) ≡ truth_of false → (e : Fault) × (option_map_or Ok o (Err (no_key k)) ≡ Err e)
member_fails k None h = (no_key k, refl)
member_fails k (Some d) h = cc

value_fails : (k : KeyData) (v : Data) → has_member k v ≡ truth_of false → (e : Fault) × (selection k v ≡ Err e)
value_fails k (map_of es) h = member_fails k (find k es) h
value_fails k v h = (no_overload (codes "."), refl)

pub selection_fails : (k : KeyData) (r : Outcome) → and_then r (λ v. has_member k v) ≡ truth_of false → (e : Fault) × (and_then r (λ v. selection k v) ≡ Err e)
selection_fails k (Ok v) h = value_fails k v h
selection_fails k (Err e) h = (e, refl)

-- the same with an error in place of the second branch
nested : (t u z : Outcome) → (t ≡ truth_of false → (e : Fault) × (z ≡ Err e))
    → (c : Choice) × ((r s : Outcome) → branch_outcome (truth (codes "?:") t) (branch_outcome (truth (codes "?:") u) r s) z ≡ choose c r s)
nested (Ok (bool true)) u z f = by_test u
nested (Ok (bool false)) u z f =
    let e = f refl in (failed e.0, λ r s. e.1)
nested (Err e) u z f = (failed e, λ r s. refl)
nested (Ok v) u z f = (failed (no_overload (codes "?:")), λ r s. refl)

pub if_set_chooses : (book : Book) (t : Term) (x : List ℕ) (env : Bindings)
    → (c : Choice) × ((a b : Term) → meaning server_library book (if_set t x a b) env ≡ choose c (meaning server_library book a env) (meaning server_library book b env))
if_set_chooses book (select t y) x env =
    let n = nested (and_then (meaning server_library book t env) (λ v. has_member (text_key y) v))
    (meaning server_library book (is_set (select t y) x) env) (meaning server_library book (select t y) env)
    (selection_fails (text_key y) (meaning server_library book t env)) in
    (n.0, λ a b. n.1 (meaning server_library book a env) (meaning server_library book b env))
if_set_chooses book t x env =
    let n = by_test (meaning server_library book (is_set t x) env) in
    (n.0, λ a b. n.1 (meaning server_library book a env) (meaning server_library book b env))
