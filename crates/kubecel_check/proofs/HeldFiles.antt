-- The files that hold an object of a definition.
use Rattle.kube_manifests.specs.DocumentsVersions.{Version}
use Rattle.kube_manifests_texts.proofs.TextSets.{any_more, or_none}
use Rattle.kubecel_check.specs.HeldFiles.{AreHeld}
use Rattle.kubecel_check.specs.Objects.{holds_object, is_defined, is_held}
use Rattle.kubecel_io.specs.Reads.{Found}
use Rattle.kubecel_io.specs.Subjects.{subject_view}
use Rattle.kubecel_io.specs.declared.subject.Subject.{Subject}
use Rattle.std.proofs.Common.{◌≡◌, ◌<◌, ℕ, ◌+◌, List, [], ◌∷◌, ◌++◌, get_or, length, map, take, Bool, true, false, ◌||◌, ◌&&◌, Result, OnOk, Ok, Err, refl, sym, ap, subst, ◌∙◌, String}
use Rattle.std.proofs.lemmas.List.{map-append, take_more}
use Rattle.std.specs.BTreeSet.{BTreeSet, contains_text}
use Rattle.std.specs.List.{list_all, list_any}
use Rattle.std.specs.Str.{bytes_eq}
use Rattle.std.specs.declared.alloc.Global.{Global}
use denote.Ref.{Bor}

-- an object that is of no definition adds nothing
pub is_as_it_was : {A : Type 0} (s : BTreeSet (String Global)) (versions : List (Version A)) (f : Found) → is_defined versions f ≡ false
    → (path : List ℕ) → contains_text s path ≡ (contains_text s path || is_held versions path f)
is_as_it_was s versions f none path = sym (ap (λ b. contains_text s path || (b && bytes_eq path f.file)) none ∙ or_none (contains_text s path))

-- one that is of a definition adds its file
pub is_where_defined : {A E : Type 0} (s n : BTreeSet (String Global)) (versions : List (Version A)) (f : Found) (r : Result (Unit {0}) E) → is_defined versions f ≡ true
    → OnOk r ((path : List ℕ) → contains_text n path ≡ (contains_text s path || bytes_eq path f.file))
    → OnOk r ((path : List ℕ) → contains_text n path ≡ (contains_text s path || is_held versions path f))
is_where_defined s n versions f (Ok u) some added = λ path. added path ∙ sym (ap (λ b. contains_text s path || (b && bytes_eq path f.file)) some)
is_where_defined s n versions f (Err e) some added = tt

-- one more object
pub one_more_held : {A : Type 0} (versions : List (Version A)) (xs : List Subject) (i : ℕ) (x : Subject) (s n : BTreeSet (String Global)) → i < length xs → x ≡ get_or xs i x
    → AreHeld s versions (map subject_view (take i xs)) → ((path : List ℕ) → contains_text n path ≡ (contains_text s path || is_held versions path (subject_view x)))
    → AreHeld n versions (map subject_view (take (i + 1) xs))
one_more_held versions xs i x s n below is held added = λ path.
    let all = map subject_view (take i xs) in
    let grown : all ++ subject_view x ∷ [] ≡ map subject_view (take (i + 1) xs) =
    ap (λ y. all ++ subject_view y ∷ []) is ∙ sym (ap (map subject_view) (take_more xs i x below) ∙ map-append subject_view (take i xs) (get_or xs i x ∷ [])) in
    added path ∙ ap (λ b. b || is_held versions path (subject_view x)) (held path) ∙ sym (any_more (is_held versions path) all (subject_view x))
    ∙ ap (list_any (is_held versions path)) grown

all_more_of : (p : List ℕ → Bool) (ps : List (List ℕ)) (q : List ℕ) → list_all p ps ≡ true → p q ≡ true → list_all p (ps ++ q ∷ []) ≡ true
all_more_of p [] q all one = ap (λ b. b && true) one
all_more_of p (x ∷ ps) q all one = by (p x) all (λ rest. all_more_of p ps q rest one)
  where
    by : (b : Bool) → (b && list_all p ps) ≡ true → (list_all p ps ≡ true → list_all p (ps ++ q ∷ []) ≡ true) → (b && list_all p (ps ++ q ∷ [])) ≡ true
    by true rest more = more rest
    by false rest more = cc

-- one more path
pub all_more : (p : List ℕ → Bool) (xs : List (Bor (List ℕ))) (i : ℕ) (d : Bor (List ℕ)) → i < length xs → list_all p (map (λ s. s.now) (take i xs)) ≡ true
    → p (get_or xs i d).now ≡ true → list_all p (map (λ s. s.now) (take (i + 1) xs)) ≡ true
all_more p xs i d below all one =
    let some = map (λ s. s.now) (take i xs) in
    let x = get_or xs i d in
    let grown : some ++ x.now ∷ [] ≡ map (λ s. s.now) (take (i + 1) xs) =
    sym (ap (map (λ s. s.now)) (take_more xs i d below) ∙ map-append (λ s. s.now) (take i xs) (x ∷ [])) in
    subst (λ ps. list_all p ps ≡ true) grown (all_more_of p some x.now all one)
