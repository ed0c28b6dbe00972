-- A file that holds one document.
use Rattle.kubecel_io.specs.Reads.{AreRead, Found, document_view, with_indices}
use Rattle.kubecel_io.specs.declared.sources.Document.{Document}
use Rattle.kubecel_cli.specs.Runs.{IsOneRead}
use Rattle.serde_json.specs.Data.{Data}
use Rattle.serde_json.specs.View.{view}
use Rattle.std.proofs.lemmas.Bool.{eqb-true}
use Rattle.std.proofs.Common.{◌≡◌, ℕ, ◌==◌, List, [], ◌∷◌, ◌++◌, get_or, length, true, Option, string_bytes, ap, arith, refl, subst, false}

the_first : (path : List ℕ) (f : Found) (values : List Data) (rest : List Found) → rest ≡ [] → f ∷ [] ≡ with_indices path 0 values ++ rest → (f.file ≡ path) × (f.index ≡ 0)
unfolding with_indices
the_first path f [] rest none e = absurd cc
the_first path f (v ∷ vs) rest none e = (ap (λ fs. (get_or fs 0 f).file) e, ap (λ fs. (get_or fs 0 f).index) e)

-- if a single document was read at a path, it is the first of the file at that path
pub first_of_file : {S : Type 0} (reads : S → List ℕ → Option (List ℕ) → S → Type 0) (a : S) (path : List ℕ) (d : Document) (b : S)
    → AreRead reads a (path ∷ []) (document_view d ∷ []) b → (string_bytes d.file ≡ path) × (d.index ≡ 0)
unfolding AreRead
first_of_file reads a path d b are = the_first path (document_view d) are.1 are.2 are.4.0 are.5

-- and it is the only one in the file
pub one_read : {S : Type 0} (reads : S → List ℕ → Option (List ℕ) → S → Type 0) (a : S) (path : List ℕ) (d : Document) (b : S)
    → AreRead reads a (path ∷ []) (document_view d ∷ []) b → IsOneRead reads a path (view d.value) b
one_read reads a path d b are =
    let location = first_of_file reads a path d b are in
    let same : document_view d ≡ record { file = path; index = 0; is_item = false; value = view d.value } = rw (location.0, location.1) refl in
    subst (λ f. AreRead reads a (path ∷ []) (f ∷ []) b) same are

-- a value taken off the end that leaves none was the only one
pub only_one : {A : Type 0} (all left : List A) (x : A) (n : ℕ) → all ≡ left ++ x ∷ [] → n ≡ length left → (n == 0) ≡ true → all ≡ x ∷ []
only_one all [] x n are is none = are
only_one all (y ∷ left) x n are is none = absurd (omega (arith, is, eqb-true n 0 none))
