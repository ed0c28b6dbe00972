-- What is found under a book that refuses no more.
use Rattle.cel.specs.Book.{Book, IsBook, IsPlain, pattern_of_text, unless_refused, pattern_in, matched_by, found_by}
use Rattle.kube_cel_laws.proofs.Results.{some_kept}
use Rattle.kube_cel_laws.specs.Books.{RefusesNoMore}
use Rattle.std.proofs.Common.{◌≡◌, ◌⊎◌, ℕ, Bool, true, false, List, Option, Some, None, IfSome, IsSome, is_some, refl, sym, ap, ◌∙◌, subst, inl, inr, true≢false}

-- ---- plain books

abbrev Refuses : Option Bool → List ℕ → Type 0
Refuses entry text = (entry ≡ Some false) ⊎ ((entry ≡ None) × (pattern_of_text text ≡ None))

refused_by_entry : (entry : Option Bool) (text : List ℕ) → (entry ≡ Some true → IsSome (pattern_of_text text)) → pattern_of_text text ≡ None → Refuses entry text
refused_by_entry None text read none = inr (refl, none)
refused_by_entry (Some false) text read none = inl refl
refused_by_entry (Some true) text read none = absurd (true≢false (sym (read refl) ∙ ap is_some none))

pub plain_refuses_least : (plain book : Book) → IsPlain plain → IsBook book → RefusesNoMore plain book
plain_refuses_least plain book is_plain is_book text h = refused_by_entry (book text) text (is_book text) (is_plain text h)

-- ---- patterns

refused_none : (text : List ℕ) → Refuses None text → pattern_of_text text ≡ None
refused_none text h = elim h [ inl e ↦ cc | inr e ↦ e.1 ]

not_built : (text : List ℕ) → Refuses (Some true) text → ⊥
not_built text h = elim h [ inl e ↦ cc | inr e ↦ cc ]

itself : {A : Type 0} (o : Option A) → IfSome o (λ a. o ≡ Some a)
itself None = tt
itself (Some a) = refl

by_entries : (x y : Option Bool) (text : List ℕ) → (Refuses y text → Refuses x text) → IfSome (unless_refused x (pattern_of_text text)) (λ re. unless_refused y (pattern_of_text text) ≡ Some re)
by_entries (Some false) y text h = tt
by_entries None None text h = itself (pattern_of_text text)
by_entries None (Some true) text h = itself (pattern_of_text text)
by_entries None (Some false) text h = subst (λ o. IfSome o (λ re. None ≡ Some re)) (sym (refused_none text (h (inl refl)))) tt
by_entries (Some true) None text h = itself (pattern_of_text text)
by_entries (Some true) (Some true) text h = itself (pattern_of_text text)
by_entries (Some true) (Some false) text h = absurd (not_built text (h (inl refl)))

module _ (strict lenient : Book) (no_more : RefusesNoMore lenient strict) where
  pattern_kept : (text : List ℕ) → IfSome (pattern_in strict text) (λ re. pattern_in lenient text ≡ Some re)
  pattern_kept text = by_entries (strict text) (lenient text) text (no_more text)

  pub match_kept : (pattern text : List ℕ) → IfSome (matched_by strict pattern text) (λ found. matched_by lenient pattern text ≡ Some found)
  unfolding matched_by
  match_kept pattern text = some_kept _ (pattern_in strict pattern) (pattern_in lenient pattern) (pattern_kept pattern)

  pub spans_kept : (pattern text : List ℕ) (limit : Option ℕ) → IfSome (found_by strict pattern text limit) (λ spans. found_by lenient pattern text limit ≡ Some spans)
  unfolding found_by
  spans_kept pattern text limit = some_kept _ (pattern_in strict pattern) (pattern_in lenient pattern) (pattern_kept pattern)
