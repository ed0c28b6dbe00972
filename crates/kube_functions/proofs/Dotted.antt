-- Dotted names: the parser takes exactly those of the table as one name.
use Rattle.cel_syntax_ast.specs.Calls.{functions_of, is_qualified}
use Rattle.kube_functions.specs.Table.{function_named, globals, methods}
use Rattle.kube_functions.specs.declared.functions.Declaration.{Declaration}
use Rattle.std.proofs.Common.{◌≡◌, ℕ, Bool, true, false, cond, ◌&&◌, ◌||◌, List, [], ◌∷◌, ◌++◌, Option, Some, None, refl, sym, ap, ◌∙◌}
use Rattle.std.proofs.lemmas.Slice.Eq.{bytes_eq-Decides}
use Rattle.std.specs.List.{list_all, list_any}
use Rattle.std.specs.Map.{lookup}
use Rattle.std.specs.Prelude.{codes, is_some, nat_eq, if◌then◌else◌}
use Rattle.std.specs.Str.{bytes_eq}

first_holds : (a b : Bool) → (a && b) ≡ true → a ≡ true
first_holds true b h = refl
first_holds false b h = h

second_holds : (a b : Bool) → (a && b) ≡ true → b ≡ true
second_holds true b h = h
second_holds false b h = cc

same_truth : (a b : Bool) → (a ≡ true → b ≡ true) → (b ≡ true → a ≡ true) → a ≡ b
same_truth true b f g = sym (f refl)
same_truth false true f g = g refl
same_truth false false f g = refl

none_if_false : {A : Type 0} (o : Option A) → (is_some o ≡ true → false ≡ true) → o ≡ None
none_if_false None h = refl
none_if_false (Some a) h = absurd (no h)
  where
    no : (true ≡ true → false ≡ true) → ⊥
    no h = let e = h refl in cc

-- ---- the parser takes each dotted name of the table

-- whether a test of what is before and after a dot passes at every dot of a text
abbrev at_dots : (List ℕ → List ℕ → Bool) → List ℕ → Bool
at_dots test [] = true
at_dots test (c ∷ s) = (if nat_eq c 46 then test [] s else true) && at_dots (λ x w. test (c ∷ x) w) s

at_the_dot : (test : List ℕ → List ℕ → Bool) (x w : List ℕ) → at_dots test (x ++ (46 ∷ w)) ≡ true → test x w ≡ true
at_the_dot test [] w h = first_holds (test [] w) (at_dots (λ x v. test (46 ∷ x) v) w) h
at_the_dot test (c ∷ x) w h = at_the_dot (λ y v. test (c ∷ y) v) x w (second_holds (if nat_eq c 46 then test [] (x ++ (46 ∷ w)) else true) (at_dots (λ y v. test (c ∷ y) v) (x ++ (46 ∷ w))) h)

module _ (test : List ℕ → List ℕ → Bool) (x w : List ℕ) where
  by_row : (b : Bool) (name : List ℕ) (d : Declaration) (later : Option Declaration) → (b ≡ true → (x ++ (46 ∷ w)) ≡ name) → at_dots test name ≡ true
      → (is_some later ≡ true → test x w ≡ true) → is_some (cond b (Some d) later) ≡ true → test x w ≡ true
  by_row true name d later same here rest k = at_the_dot test x w (ap (at_dots test) (same refl) ∙ here)
  by_row false name d later same here rest k = rest k

  passes_if_found : (rows : List (List ℕ × Declaration)) → list_all (λ row. at_dots test row.0) rows ≡ true → is_some (lookup (bytes_eq (x ++ (46 ∷ w))) rows) ≡ true → test x w ≡ true
  passes_if_found [] h k = cc
  passes_if_found (row ∷ rows) h k = by_row (bytes_eq (x ++ (46 ∷ w)) row.0) row.0 row.1 (lookup (bytes_eq (x ++ (46 ∷ w))) rows) ((bytes_eq-Decides (x ++ (46 ∷ w)) row.0).0)
      (first_holds (at_dots test row.0) (list_all (λ r. at_dots test r.0) rows) h) (passes_if_found rows (second_holds (at_dots test row.0) (list_all (λ r. at_dots test r.0) rows) h)) k

taken_if_named : (x w : List ℕ) → is_some (function_named (x ++ (46 ∷ w)) false) ≡ true → is_qualified x w ≡ true
unfolding is_qualified functions_of
taken_if_named x w h = passes_if_found is_qualified x w globals refl h

pub no_methods : (x w : List ℕ) → function_named (x ++ (46 ∷ w)) true ≡ None
no_methods x w = none_if_false (function_named (x ++ (46 ∷ w)) true) (passes_if_found (λ y v. false) x w methods refl)

-- ---- each dotted name that the parser takes is in the table

abbrev is_named : List ℕ → List ℕ → Bool
is_named x w = is_some (function_named (x ++ (46 ∷ w)) false)

by_function : (P : List ℕ → Bool) (w f : List ℕ) (b later : Bool) → (b ≡ true → w ≡ f) → P f ≡ true → (later ≡ true → P w ≡ true) → (b || later) ≡ true → P w ≡ true
by_function P w f true later same here rest k = ap P (same refl) ∙ here
by_function P w f false later same here rest k = rest k

holds_if_any : (P : List ℕ → Bool) (w : List ℕ) (fs : List (List ℕ)) → list_all P fs ≡ true → list_any (bytes_eq w) fs ≡ true → P w ≡ true
holds_if_any P w [] h k = cc
holds_if_any P w (f ∷ fs) h k = by_function P w f (bytes_eq w f) (list_any (bytes_eq w) fs) ((bytes_eq-Decides w f).0) (first_holds (P f) (list_all P fs) h) (holds_if_any P w fs (second_holds (P f) (list_all P fs) h)) k

by_library : (x library : List ℕ) (fs rest : List (List ℕ)) → list_all (is_named library) fs ≡ true → list_all (is_named x) rest ≡ true
    → list_all (is_named x) (if bytes_eq x library then fs else rest) ≡ true
by_library x library fs rest here later = by (bytes_eq x library) ((bytes_eq-Decides x library).0)
  where
    by : (b : Bool) → (b ≡ true → x ≡ library) → list_all (is_named x) (if b then fs else rest) ≡ true
    by true same = ap (λ y. list_all (is_named y) fs) (same refl) ∙ here
    by false same = later

all_named : (x : List ℕ) → list_all (is_named x) (functions_of x) ≡ true
unfolding functions_of
all_named x = by_library x (codes "lists") _ _ refl (by_library x (codes "sets") _ _ refl (by_library x (codes "strings") _ _ refl (by_library x (codes "math") _ _ refl
    (by_library x (codes "base64") _ _ refl (by_library x (codes "jsonpatch") _ _ refl (by_library x (codes "ip") _ _ refl (by_library x (codes "format") _ _ refl refl)))))))

named_if_taken : (x w : List ℕ) → is_qualified x w ≡ true → is_some (function_named (x ++ (46 ∷ w)) false) ≡ true
unfolding is_qualified
named_if_taken x w h = holds_if_any (is_named x) w (functions_of x) (all_named x) h

pub taken_as_named : (x w : List ℕ) → is_qualified x w ≡ is_some (function_named (x ++ (46 ∷ w)) false)
taken_as_named x w = same_truth (is_qualified x w) (is_some (function_named (x ++ (46 ∷ w)) false)) (named_if_taken x w) (taken_if_named x w)
