-- Extensions of books, what holds for every extension, and which texts are refused.
use Rattle.std.proofs.Common.{◌≡◌, ◌↔◌, ℕ, ◌⊎◌, Bool, true, false, List, Option, Some, None, IsSome, option_map, refl, sym, ap, ◌∙◌, inl, inr, true≢false}
use Rattle.std.proofs.lemmas.Option.{none-some}
use Rattle.regex.specs.Patterns.{Re}
use Rattle.cel_patterns.specs.Book.{Book, Extends, IsBook, IsPlain, IsRefused, pattern_of_text, unless_refused, pattern_in, matched_by, found_by}
use Rattle.cel_patterns.specs.Extensions.{HoldsForExtensions}

-- ---- extending

pub Extends-refl : (a : Book) → Extends a a
Extends-refl a = record { keeps = λ text built e. e }

pub Extends-trans : {a b c : Book} → Extends a b → Extends b c → Extends a c
Extends-trans h k = record { keeps = λ text built e. h.keeps text built (k.keeps text built e) }

-- each book extends one without entries
pub Extends-empty : (a empty : Book) → ((text : List ℕ) → empty text ≡ None) → Extends a empty
Extends-empty a empty h = record { keeps = λ text built e. absurd (none-some built (sym (h text) ∙ e)) }

-- ---- holding for extensions

-- what holds for the extensions of a book holds for those of a later one
pub HoldsForExtensions-later : {A : Type 0} {known later : Book} {r : A} {f : Book → A} → Extends later known → HoldsForExtensions known r f → HoldsForExtensions later r f
HoldsForExtensions-later h s = record { under = λ b a. s.under b (Extends-trans a h) }

-- and it holds for the book itself
pub HoldsForExtensions-here : {A : Type 0} {known : Book} {r : A} {f : Book → A} → HoldsForExtensions known r f → r ≡ f known
HoldsForExtensions-here {known = known} s = s.under known (Extends-refl known)

-- an answer that doesn't depend on the book
pub HoldsForExtensions-const : {A : Type 0} (known : Book) (r : A) → HoldsForExtensions known r (λ _. r)
HoldsForExtensions-const known r = record { under = λ b a. refl }

pub HoldsForExtensions-same : {A : Type 0} {known : Book} {r : A} {f : Book → A} (g : Book → A) → ((b : Book) → f b ≡ g b) → HoldsForExtensions known r f → HoldsForExtensions known r g
HoldsForExtensions-same g same s = record { under = λ b a. s.under b a ∙ same b }

pub HoldsForExtensions-map : {A B : Type 0} {known : Book} {r : A} {f : Book → A} (g : A → B) → HoldsForExtensions known r f → HoldsForExtensions known (g r) (λ b. g (f b))
HoldsForExtensions-map g s = record { under = λ b a. ap g (s.under b a) }

pub HoldsForExtensions-both : {A B : Type 0} {known : Book} {r : A} {s : B} {f : Book → A} {g : Book → B} → HoldsForExtensions known r f → HoldsForExtensions known s g
    → HoldsForExtensions {A = A × B} known (r, s) (λ b. (f b, g b))
HoldsForExtensions-both {r = r} {g = g} s t = record { under = λ b a. ap (λ y. (r, y)) (t.under b a) ∙ ap (λ x. (x, g b)) (s.under b a) }

-- a second answer that depends on the first
pub HoldsForExtensions-then : {A B : Type 0} {known later : Book} {r : A} {s : B} {f : Book → A} (g : A → Book → B) → Extends later known → HoldsForExtensions known r f
    → HoldsForExtensions later s (g r) → HoldsForExtensions later s (λ b. g (f b) b)
HoldsForExtensions-then g keeps first second = record { under = λ b a. second.under b a ∙ ap (λ x. g x b) (first.under b (Extends-trans a keeps)) }

-- ---- refused texts

refused_by : (entry : Option Bool) (pattern : Option Re) → (entry ≡ Some true → IsSome pattern)
    → (unless_refused entry pattern ≡ None) ↔ ((entry ≡ Some false) ⊎ ((entry ≡ None) × (pattern ≡ None)))
refused_by None pattern read = (λ e. inr (refl, e), λ h. elim h [ inl e ↦ absurd (none-some false e) | inr e ↦ e.1 ])
refused_by (Some false) pattern read = (λ e. inl refl, λ h. refl)
refused_by (Some true) None read = absurd (true≢false (sym (read refl)))
refused_by (Some true) (Some re) read = (λ e. absurd (none-some re (sym e)), λ h. elim h [ inl e ↦ cc | inr e ↦ cc ])

pub pattern_in-None : (book : Book) (text : List ℕ) → IsBook book → (pattern_in book text ≡ None) ↔ IsRefused book text
pattern_in-None book text is_book = refused_by (book text) (pattern_of_text text) (is_book text)

pub none_mapped : {A B : Type 0} (f : A → B) (o : Option A) → (option_map f o ≡ None) ↔ (o ≡ None)
none_mapped f None = (λ e. refl, λ e. refl)
none_mapped f (Some x) = (λ e. absurd (none-some (f x) (sym e)), λ e. absurd (none-some x (sym e)))

-- there is no answer exactly if the pattern is refused
pub matched_by-None : (book : Book) (pattern text : List ℕ) → IsBook book → (matched_by book pattern text ≡ None) ↔ IsRefused book pattern
unfolding matched_by
matched_by-None book pattern text is_book =
    let m = none_mapped _ (pattern_in book pattern) in
    let p = pattern_in-None book pattern is_book in
    (λ e. p.0 (m.0 e), λ h. m.1 (p.1 h))

pub found_by-None : (book : Book) (pattern text : List ℕ) (limit : Option ℕ) → IsBook book → (found_by book pattern text limit ≡ None) ↔ IsRefused book pattern
unfolding found_by
found_by-None book pattern text limit is_book =
    let m = none_mapped _ (pattern_in book pattern) in
    let p = pattern_in-None book pattern is_book in
    (λ e. p.0 (m.0 e), λ h. m.1 (p.1 h))

-- ---- plain books mean the same

plain_by : (entry : Option Bool) (pattern : Option Re) → (entry ≡ Some true → IsSome pattern) → (((entry ≡ Some false) ⊎ ((entry ≡ None) × (pattern ≡ None))) → pattern ≡ None)
    → unless_refused entry pattern ≡ pattern
plain_by None pattern read plain = refl
plain_by (Some true) pattern read plain = refl
plain_by (Some false) pattern read plain = sym (plain (inl refl))

-- a book without entries is plain
pub empty-IsPlain : (empty : Book) → ((text : List ℕ) → empty text ≡ None) → IsPlain empty
empty-IsPlain empty h text refused = elim refused [ inl e ↦ absurd (none-some false (sym (h text) ∙ e)) | inr e ↦ e.1 ]

-- a plain book refuses exactly the texts that don't parse as patterns
pub pattern_in-plain : (book : Book) (text : List ℕ) → IsBook book → IsPlain book → pattern_in book text ≡ pattern_of_text text
pattern_in-plain book text is_book plain = plain_by (book text) (pattern_of_text text) (is_book text) (plain text)

pub matched_by-plain : (a b : Book) (pattern text : List ℕ) → IsBook a → IsBook b → IsPlain a → IsPlain b → matched_by a pattern text ≡ matched_by b pattern text
unfolding matched_by
matched_by-plain a b pattern text is_a is_b plain_a plain_b = ap (option_map _) (pattern_in-plain a pattern is_a plain_a ∙ sym (pattern_in-plain b pattern is_b plain_b))

pub found_by-plain : (a b : Book) (pattern text : List ℕ) (limit : Option ℕ) → IsBook a → IsBook b → IsPlain a → IsPlain b
    → found_by a pattern text limit ≡ found_by b pattern text limit
unfolding found_by
found_by-plain a b pattern text limit is_a is_b plain_a plain_b = ap (option_map _) (pattern_in-plain a pattern is_a plain_a ∙ sym (pattern_in-plain b pattern is_b plain_b))
