-- Books that refuse the same texts find the same.
use Rattle.std.proofs.Common.{◌≡◌, ◌↔◌, ℕ, ◌⊎◌, Bool, true, false, List, Option, Some, None, IsSome, is_some, option_map, refl, sym, ap, ◌∙◌, inl, inr, true≢false}
use Rattle.cel_patterns.specs.Book.{Book, IsBook, IsPlain, IsRefused, pattern_of_text, unless_refused, pattern_in, matched_by, found_by}

abbrev Refuses : Option Bool → List ℕ → Type 0
Refuses entry text = (entry ≡ Some false) ⊎ ((entry ≡ None) × (pattern_of_text text ≡ None))

refused_none : (text : List ℕ) → Refuses None text → pattern_of_text text ≡ None
refused_none text h = elim h [ inl e ↦ cc | inr e ↦ e.1 ]

built_is_not_refused : (text : List ℕ) → Refuses (Some true) text → pattern_of_text text ≡ None
built_is_not_refused text h = elim h [ inl e ↦ cc | inr e ↦ cc ]

by_entries : (x y : Option Bool) (text : List ℕ) → (Refuses x text ↔ Refuses y text) → unless_refused x (pattern_of_text text) ≡ unless_refused y (pattern_of_text text)
by_entries None None text h = refl
by_entries None (Some true) text h = refl
by_entries None (Some false) text h = refused_none text (h.1 (inl refl))
by_entries (Some true) None text h = refl
by_entries (Some true) (Some true) text h = refl
by_entries (Some true) (Some false) text h = built_is_not_refused text (h.1 (inl refl))
by_entries (Some false) None text h = sym (refused_none text (h.0 (inl refl)))
by_entries (Some false) (Some true) text h = sym (built_is_not_refused text (h.0 (inl refl)))
by_entries (Some false) (Some false) text h = refl

-- a text that both books refuse, or that neither refuses, has the same pattern under both
pub pattern_in-alike : (a b : Book) (text : List ℕ) → (IsRefused a text ↔ IsRefused b text) → pattern_in a text ≡ pattern_in b text
pattern_in-alike a b text h = by_entries (a text) (b text) text h

pub matched_by-alike : (a b : Book) (pattern text : List ℕ) → (IsRefused a pattern ↔ IsRefused b pattern) → matched_by a pattern text ≡ matched_by b pattern text
unfolding matched_by
matched_by-alike a b pattern text h = ap (option_map _) (pattern_in-alike a b pattern h)

pub found_by-alike : (a b : Book) (pattern text : List ℕ) (limit : Option ℕ) → (IsRefused a pattern ↔ IsRefused b pattern)
    → found_by a pattern text limit ≡ found_by b pattern text limit
unfolding found_by
found_by-alike a b pattern text limit h = ap (option_map _) (pattern_in-alike a b pattern h)

-- ---- plain books

refused_by_entry : (entry : Option Bool) (text : List ℕ) → (entry ≡ Some true → IsSome (pattern_of_text text)) → pattern_of_text text ≡ None → Refuses entry text
refused_by_entry None text read none = inr (refl, none)
refused_by_entry (Some false) text read none = inl refl
refused_by_entry (Some true) text read none = absurd (true≢false (sym (read refl) ∙ ap is_some none))

pub plain_refuses : (book : Book) → IsBook book → IsPlain book → (text : List ℕ) → IsRefused book text ↔ (pattern_of_text text ≡ None)
plain_refuses book is_book plain text = (plain text, refused_by_entry (book text) text (is_book text))

pub plain_alike : (a b : Book) → IsBook a → IsBook b → IsPlain a → IsPlain b → (text : List ℕ) → IsRefused a text ↔ IsRefused b text
plain_alike a b is_a is_b plain_a plain_b text =
    let p = plain_refuses a is_a plain_a text in
    let q = plain_refuses b is_b plain_b text in
    (λ h. q.1 (p.0 h), λ h. p.1 (q.0 h))
