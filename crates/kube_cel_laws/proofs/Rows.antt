-- What holds of each row of a table holds of the row that is found.
use Rattle.cel.specs.Book.{Book}
use Rattle.cel.specs.Outcome.{Outcome}
use Rattle.cel_value.specs.Data.{Data}
use Rattle.cel_value.specs.Faults.{Fault}
use Rattle.kube_cel_laws.proofs.Results.{Keeps, keeps_itself}
use Rattle.std.proofs.Common.{◌≡◌, ℕ, zero, suc, List, [], ◌∷◌, map, take, drop, filter, Bool, true, false, cond, Option, Some, None, IfSome, Err, ap, subst}
use Rattle.std.specs.Map.{lookup}
use Rattle.std.specs.Option.{option_map_or}
use Rattle.std.specs.Prelude.{⊤}

-- P holds of each row
abbrev pub EachRow : {A : Type 0} → List (List ℕ × A) → (A → Type 0) → Type 0
EachRow [] P = ⊤
EachRow (row ∷ rows) P = P row.1 × EachRow rows P

either_row : {A : Type 0} (P : A → Type 0) (test : Bool) (a : A) (o : Option A) → P a → IfSome o P → IfSome (cond test (Some a) o) P
either_row P true a o k l = k
either_row P false a o k l = l

pub found_row : {A : Type 0} (test : List ℕ → Bool) (rows : List (List ℕ × A)) (P : A → Type 0) → EachRow rows P → IfSome (lookup test rows) P
found_row test [] P k = tt
found_row test (row ∷ rows) P k = either_row P (test row.0) row.1 (lookup test rows) k.0 (found_row test rows P k.1)

row_if : {A : Type 0} (P : A → Type 0) (test : Bool) (row : List ℕ × A) (rows : List (List ℕ × A)) → P row.1 → EachRow rows P → EachRow (cond test (row ∷ rows) rows) P
row_if P true row rows k l = (k, l)
row_if P false row rows k l = l

pub filtered_rows : {A : Type 0} (test : List ℕ × A → Bool) (rows : List (List ℕ × A)) (P : A → Type 0) → EachRow rows P → EachRow (filter test rows) P
filtered_rows test [] P k = tt
filtered_rows test (row ∷ rows) P k = row_if P (test row) row (filter test rows) k.0 (filtered_rows test rows P k.1)

-- the outcomes by what was found, or an error if nothing was
pub if_found_kept : {A : Type 0} (o : Option A) (P : A → Type 0) (f g : A → Outcome) (x : Fault) → IfSome o P → ((a : A) → P a → Keeps (f a) (g a)) → Keeps (option_map_or f o (Err x)) (option_map_or g o (Err x))
if_found_kept None P f g x k h = tt
if_found_kept (Some a) P f g x k h = h a k

-- ---- answers

-- the answers of a function, by its name in errors, the operands, the arguments and the book
abbrev pub Answering : Type 0
Answering = List ℕ → Option Data → Option Data → Option Data → Option Data → List Data → Book → Outcome

abbrev Answers : Type 0
Answers = List ℕ → Option Data → Option Data → Option Data → Option Data → List Data → Outcome

abbrev pub under : Book → Answering → Answers
under book f = λ name v w x y args. f name v w x y args book

first_of : List Answers → Answers → Answers
first_of [] d = d
first_of (a ∷ as_) d = a

rest_of : List Answers → List Answers
rest_of [] = []
rest_of (a ∷ as_) = as_

-- the answers under the one book keep the values of those under the other
pub record AnswersKept (strict lenient : Book) (f : Answering) : Type 0 where
  pub kept : (name : List ℕ) (v w x y : Option Data) (args : List Data) → Keeps (f name v w x y args strict) (f name v w x y args lenient)

module _ (strict lenient : Book) where
  same_kept : (f : Answering) → under strict f ≡ under lenient f → AnswersKept strict lenient f
  same_kept f e = record { kept = λ name v w x y args. subst (λ (a : Answers). Keeps (f name v w x y args strict) (a name v w x y args)) e (keeps_itself (f name v w x y args strict)) }

  -- answers that are errors unless two operands are there
  module _ (f : Answering) (none : (name : List ℕ) (w x y : Option Data) (args : List Data) → Keeps (f name None w x y args strict) (f name None w x y args lenient))
      (one : (name : List ℕ) (v : Data) (x y : Option Data) (args : List Data) → Keeps (f name (Some v) None x y args strict) (f name (Some v) None x y args lenient))
      (two : (name : List ℕ) (v w : Data) (x y : Option Data) (args : List Data) → Keeps (f name (Some v) (Some w) x y args strict) (f name (Some v) (Some w) x y args lenient)) where
    at_operands : (name : List ℕ) (v w x y : Option Data) (args : List Data) → Keeps (f name v w x y args strict) (f name v w x y args lenient)
    at_operands name None w x y args = none name w x y args
    at_operands name (Some v) None x y args = one name v x y args
    at_operands name (Some v) (Some w) x y args = two name v w x y args

    pub by_operands : AnswersKept strict lenient f
    by_operands = record { kept = at_operands }

  module _ {A : Type 0} (answers_of : A → Answering) where
    -- the first rows don't use the book
    pub same_then : (n : ℕ) (rows : List (List ℕ × A)) → map (λ row. under strict (answers_of row.1)) (take n rows) ≡ map (λ row. under lenient (answers_of row.1)) (take n rows)
        → EachRow (drop n rows) (λ a. AnswersKept strict lenient (answers_of a)) → EachRow rows (λ a. AnswersKept strict lenient (answers_of a))
    unfolding first_of rest_of
    same_then zero rows e k = k
    same_then (suc n) [] e k = tt
    same_then (suc n) (row ∷ rows) e k = (same_kept (answers_of row.1) (ap (λ as_. first_of as_ (under strict (answers_of row.1))) e), same_then n rows (ap rest_of e) k)

    -- no row uses the book
    pub all_same : (rows : List (List ℕ × A)) → map (λ row. under strict (answers_of row.1)) rows ≡ map (λ row. under lenient (answers_of row.1)) rows
        → EachRow rows (λ a. AnswersKept strict lenient (answers_of a))
    unfolding first_of rest_of
    all_same [] e = tt
    all_same (row ∷ rows) e = (same_kept (answers_of row.1) (ap (λ as_. first_of as_ (under strict (answers_of row.1))) e), all_same rows (ap rest_of e))
