-- The parts of a text that is read leniently.
use Rattle.semver.specs.Order.{strip_zeros, parts}
use Rattle.semver.specs.Parse.{Parts, IsPlain as PlainRead}
use Rattle.semver.specs.declared.error.Error.{Error}
use Rattle.std.proofs.Common.{◌≡◌, ◌≢◌, ◌==◌, ◌⊎◌, ◌<◌, ◌≤◌, ℕ, zero, suc, List, [], ◌∷◌, ◌++◌, length, take, drop, get_or, map, true, false, Option, Some, None, refl, sym, ◌∙◌, ap, arith, lit<, inl, inr}
use Rattle.std.proofs.lemmas.Bool.{cases_Bool, eqb-true, eq-eqb}
use Rattle.std.proofs.lemmas.List.Folds.{list_all-map}
use Rattle.std.proofs.lemmas.Str.{encode_ascii, len_utf8_ascii}
use Rattle.std.specs.Borrow.{Bor}
use Rattle.std.specs.List.{list_all}
use Rattle.std.specs.Option.{IfSome}
use Rattle.std.specs.Str.Pattern.{CutsPrefixes, FindsCharPrefix, IsTrimStartMatches}
use Rattle.std.specs.Prelude.{Result, Ok, Err, IsOk}
use Rattle.std.specs.Result.{result_ok}
use Rattle.kube_types.specs.Version.Reading.{IsPlain, without_v, core_of, tail_of, is_number, number_text, full_text, normal_text}

-- a text without a leading `v` is unchanged
pub without_v-kept : (text : List ℕ) → ((rest : List ℕ) → text ≢ 118 ∷ rest) → ((rest : List ℕ) → text ≢ 86 ∷ rest) → text ≡ without_v text
unfolding without_v
without_v-kept [] small capital = refl
without_v-kept (b ∷ rest) small capital = elim (cases_Bool (b == 118)) [
  | inl e ↦ absurd (small rest (ap (λ c. c ∷ rest) (eqb-true b 118 e)))
  | inr e ↦ elim (cases_Bool (b == 86)) [
    | inl f ↦ absurd (capital rest (ap (λ c. c ∷ rest) (eqb-true b 86 f)))
    | inr f ↦ rw (e, f) refl
  ]
]

-- a text with a leading `v` loses it
pub without_v-dropped : (text rest : List ℕ) (c : ℕ) → (c ≡ 118) ⊎ (c ≡ 86) → text ≡ c ∷ rest → rest ≡ without_v text
unfolding without_v
without_v-dropped text rest c (inl small) e = rw (e, small) refl
without_v-dropped text rest c (inr capital) e = rw (e, capital) refl

-- the first hyphen splits a text in two
pub core_tail_at : (text : List ℕ) (k : ℕ) → k ≤ length text → ((i : ℕ) → i < k → get_or text i 0 ≢ 45) → (k < length text → get_or text k 0 ≡ 45)
    → (take k text ≡ core_of text) × (drop k text ≡ tail_of text)
unfolding core_of tail_of
core_tail_at [] zero h free here = (refl, refl)
core_tail_at [] (suc k) h free here = absurd (omega arith)
core_tail_at (b ∷ rest) zero h free here =
    let e : (b == 45) ≡ true = eq-eqb b 45 (here (omega arith)) in
    (rw e refl, rw e refl)
core_tail_at (b ∷ rest) (suc k) h free here = elim (cases_Bool (b == 45)) [
  | inl e ↦ absurd (free 0 (omega arith) (eqb-true b 45 e))
  | inr e ↦
      let more = core_tail_at rest k (omega arith) (λ i l. free (suc i) (omega arith)) (λ l. here (omega arith)) in
      (rw e (ap (λ l. b ∷ l) more.0), rw e more.1)
]

-- digits after zeros
pub strip_zeros-zero : (text : List ℕ) → strip_zeros (48 ∷ text) ≡ strip_zeros text
unfolding strip_zeros
strip_zeros-zero text = refl

pub strip_zeros-stops : (text : List ℕ) → ((rest : List ℕ) → text ≢ 48 ∷ rest) → strip_zeros text ≡ text
unfolding strip_zeros
strip_zeros-stops [] other = refl
strip_zeros-stops (b ∷ rest) other = elim (cases_Bool (b == 48)) [
  | inl e ↦ absurd (other rest (ap (λ c. c ∷ rest) (eqb-true b 48 e)))
  | inr e ↦ rw e refl
]

-- dropping leading zeros leaves the same digits
zeros_cut : (text rest : List ℕ) (ns : List ℕ) → CutsPrefixes (FindsCharPrefix 48) text ns rest → strip_zeros text ≡ strip_zeros rest
zeros_cut text rest [] cut = ap strip_zeros (sym cut)
zeros_cut text rest (n ∷ ns) cut =
    let before : cut.0 ≡ 48 ∷ drop n cut.0 = (cut.2).split ∙ ap (λ l. l ++ drop n cut.0) (encode_ascii 48 (lit< tt)) in
    zeros_cut text cut.0 ns cut.1 ∙ ap strip_zeros before ∙ strip_zeros-zero (drop n cut.0) ∙ ap strip_zeros (sym cut.3)

-- a text with all leading zeros dropped doesn't start with one
fully_cut : (rest : List ℕ) (o : Option ℕ) → FindsCharPrefix 48 rest o → (IfSome o (λ n. n ≡ 0)) → strip_zeros rest ≡ rest
fully_cut rest None other small = strip_zeros-stops rest (λ more e. other more (e ∙ ap (λ l. l ++ more) (sym (encode_ascii 48 (lit< tt)))))
fully_cut rest (Some n) here small = absurd (let e : n ≡ 0 = small in omega (arith, here.ends, len_utf8_ascii 48 (lit< tt)))

pub trimmed_zeros : (text rest : List ℕ) → IsTrimStartMatches (FindsCharPrefix 48) text rest → strip_zeros text ≡ rest
trimmed_zeros text rest trim = zeros_cut text rest (trim.0).0 (trim.0).1 ∙ fully_cut rest (trim.1).0 (trim.1).1 (trim.1).2

pub number_alone : (digits rest : List ℕ) → strip_zeros digits ≡ rest → (length rest == 0) ≡ true → 48 ∷ [] ≡ number_text digits
unfolding number_text
number_alone digits rest e none = rw (e, none) refl

pub number_left : (digits rest : List ℕ) → strip_zeros digits ≡ rest → (length rest == 0) ≡ false → rest ≡ number_text digits
unfolding number_text
number_left digits rest e some = rw (e, some) refl

-- lists of one, two, three and more items
one_part : {X Y : Type 0} (f : X → Y) (xs : List X) (d : X) → 1 ≤ length xs → length xs < 2 → map f xs ≡ f (get_or xs 0 d) ∷ []
one_part f [] d low high = absurd (omega arith)
one_part f (x ∷ []) d low high = refl
one_part f (x ∷ y ∷ xs) d low high = absurd (omega arith)

two_parts : {X Y : Type 0} (f : X → Y) (xs : List X) (d : X) → 2 ≤ length xs → length xs < 3 → map f xs ≡ f (get_or xs 0 d) ∷ f (get_or xs 1 d) ∷ []
two_parts f [] d low high = absurd (omega arith)
two_parts f (x ∷ []) d low high = absurd (omega arith)
two_parts f (x ∷ y ∷ []) d low high = refl
two_parts f (x ∷ y ∷ z ∷ xs) d low high = absurd (omega arith)

three_parts : {X Y : Type 0} (f : X → Y) (xs : List X) (d : X) → 3 ≤ length xs → length xs < 4 → map f xs ≡ f (get_or xs 0 d) ∷ f (get_or xs 1 d) ∷ f (get_or xs 2 d) ∷ []
three_parts f [] d low high = absurd (omega arith)
three_parts f (x ∷ []) d low high = absurd (omega arith)
three_parts f (x ∷ y ∷ []) d low high = absurd (omega arith)
three_parts f (x ∷ y ∷ z ∷ []) d low high = refl
three_parts f (x ∷ y ∷ z ∷ w ∷ xs) d low high = absurd (omega arith)

pub no_parts : (xs : List (Bor (List ℕ))) (tail : List ℕ) → length xs < 1 → None ≡ full_text (map (λ p. p.now) xs) tail
unfolding full_text
no_parts [] tail low = refl
no_parts (x ∷ xs) tail low = absurd (omega arith)

pub more_parts : (xs : List (Bor (List ℕ))) (tail : List ℕ) → 4 ≤ length xs → None ≡ full_text (map (λ p. p.now) xs) tail
unfolding full_text
more_parts [] tail high = absurd (omega arith)
more_parts (x ∷ []) tail high = absurd (omega arith)
more_parts (x ∷ y ∷ []) tail high = absurd (omega arith)
more_parts (x ∷ y ∷ z ∷ []) tail high = absurd (omega arith)
more_parts (x ∷ y ∷ z ∷ w ∷ xs) tail high = refl

pub one_text : (xs : List (Bor (List ℕ))) (d : Bor (List ℕ)) (tail major : List ℕ) → 1 ≤ length xs → length xs < 2
    → major ≡ number_text (get_or xs 0 d).now → Some (major ++ (46 ∷ 48 ∷ 46 ∷ 48 ∷ tail)) ≡ full_text (map (λ p. p.now) xs) tail
unfolding full_text
one_text xs d tail major low high e = rw (one_part (λ (p : Bor (List ℕ)). p.now) xs d low high, e) refl

pub two_texts : (xs : List (Bor (List ℕ))) (d : Bor (List ℕ)) (tail major minor : List ℕ) → 2 ≤ length xs → length xs < 3
    → major ≡ number_text (get_or xs 0 d).now → minor ≡ number_text (get_or xs 1 d).now
    → Some (major ++ (46 ∷ (minor ++ (46 ∷ 48 ∷ tail)))) ≡ full_text (map (λ p. p.now) xs) tail
unfolding full_text
two_texts xs d tail major minor low high e f = rw (two_parts (λ (p : Bor (List ℕ)). p.now) xs d low high, e, f) refl

pub three_texts : (xs : List (Bor (List ℕ))) (d : Bor (List ℕ)) (tail major minor patch : List ℕ) → 3 ≤ length xs → length xs < 4
    → major ≡ number_text (get_or xs 0 d).now → minor ≡ number_text (get_or xs 1 d).now → patch ≡ number_text (get_or xs 2 d).now
    → Some (major ++ (46 ∷ (minor ++ (46 ∷ (patch ++ tail))))) ≡ full_text (map (λ p. p.now) xs) tail
unfolding full_text
three_texts xs d tail major minor patch low high e f g = rw (three_parts (λ (p : Bor (List ℕ)). p.now) xs d low high, e, f, g) refl

-- the two cases for a text without a leading `v`
pub normal_text-numbers : (text core tail : List ℕ) (ps : List (Bor (List ℕ))) → core ≡ core_of text → tail ≡ tail_of text → map (λ p. p.now) ps ≡ parts core
    → list_all (λ p. is_number p.now) ps ≡ true → full_text (map (λ p. p.now) ps) tail ≡ normal_text text
unfolding normal_text
normal_text-numbers text core tail ps at_core at_tail pieces numbers =
    let cut : map (λ p. p.now) ps ≡ parts (core_of text) = pieces ∙ ap parts at_core in
    let all : list_all is_number (parts (core_of text)) ≡ true = ap (list_all is_number) (sym cut) ∙ list_all-map is_number (λ (p : Bor (List ℕ)). p.now) ps ∙ numbers in
    rw (cut, at_tail, all) refl

pub normal_text-other : (text core : List ℕ) (ps : List (Bor (List ℕ))) → core ≡ core_of text → map (λ p. p.now) ps ≡ parts core
    → list_all (λ p. is_number p.now) ps ≡ false → Some text ≡ normal_text text
unfolding normal_text
normal_text-other text core ps at_core pieces other =
    let cut : map (λ p. p.now) ps ≡ parts (core_of text) = pieces ∙ ap parts at_core in
    let all : list_all is_number (parts (core_of text)) ≡ false = ap (list_all is_number) (sym cut) ∙ list_all-map is_number (λ (p : Bor (List ℕ)). p.now) ps ∙ other in
    rw all refl

-- reading a version with neither a pre-release nor build metadata takes no memory
pub plain_read : {T : Type 0} (read : Result Parts Error) (result : Result T Error) → PlainRead read result → IsPlain (result_ok read) → IsOk result
plain_read (Ok p) result plain empty = plain empty.0 empty.1
plain_read (Err e) result plain empty = absurd empty
