-- How a new answer changes a book, and what an answer tells about a search.
use Rattle.std.proofs.Common.{◌≡◌, ◌≢◌, ◌↔◌, ℕ, ◌⊎◌, ◌<◌, ◌≤◌, Bool, true, false, cond, List, map, not, Option, Some, None, IfSome, IfOk, IsAscii, All, slice_get, slice_index_or, arith, Result, Ok, Err, OnOk, OnErr, subst, IsSome, IsSomeAnd, is_some, option_map, get_or, refl, sym, ap, ◌∙◌, inl, inr, length, true≢false}
use Rattle.std.proofs.lemmas.Bool.{cond-true}
use Rattle.std.proofs.lemmas.Bool.Decides.{nat_tests}
use Rattle.std.proofs.lemmas.Option.{get_or_from_slice_get, none-some, same_Some}
use Rattle.std.proofs.lemmas.List.Elements.{All-from_get_or}
use Rattle.std.proofs.lemmas.Map.Text.{btree_map_updates_text}
use Rattle.std.proofs.lemmas.Slice.Eq.{bytes_eq-Decides}
use Rattle.std.specs.BTreeMap.{get_by_text, UpdatesBy, IsUnchanged, is_at}
use Rattle.std.specs.Map.{lookup}
use Rattle.std.specs.Ordering.{nat_cmp}
use Rattle.std.specs.Cmp.Lexicographic.{slice_cmp}
use Rattle.std.specs.String.{string_bytes, string_cmp}
use Rattle.std.specs.Str.{bytes_eq, chars}
use Rattle.std.specs.declared.string.String.{String}
use Rattle.std.specs.declared.alloc.Global.{Global}
use Rattle.regex_compile.specs.Implements.{Implements}
use Rattle.regex_dfa.specs.Search.{end_from}
use Rattle.regex_dfa.specs.declared.dfa.Dfa.{Dfa}
use Rattle.regex_hir.proofs.FindLemmas.{first_between_cong}
use Rattle.regex_hir.specs.Find.{find}
use Rattle.regex_hir.specs.Meaning.{meaning}
use Rattle.regex_hir.specs.Text.{is_boundary, is_none_or}
use Rattle.regex_syntax.proofs.Written.{is_some-option_map}
use Rattle.std.specs.Int.{is_in_range}
use Rattle.regex_hir.specs.declared.hir.Hir.{Hir}
use Rattle.regex_nfa.proofs.SearchLemmas.{run_unanchored}
use Rattle.regex_nfa.specs.Run.{find_in}
use Rattle.regex_nfa.specs.declared.nfa.Nfa.{Nfa}
use Rattle.regex_syntax.specs.Brackets.{Nested}
use Rattle.regex_syntax.specs.Grammar.{Names, read, group_count}
use Rattle.regex_syntax.specs.Verdict.{Reads}
use Rattle.regex.specs.Patterns.{Config, Re, SameCaptures, find_str, find_all_str, span, default_config}
use Rattle.regex.specs.Strings.{regex_pattern, regex_source, regex_config, IsReadFromSource}
use Rattle.regex.specs.declared.string.regex.Regex.{Regex}
use Rattle.regex.proofs.ForCallers.{is_match_alike, spans_alike}
use Rattle.cel_patterns.specs.Book.{Book, Extends, IsBook, IsRefused, pattern_of_text, matched_by, found_by, first_of}
use Rattle.cel_patterns.specs.Built.{Answers, FindsAll, IsDfaOf, IsFaithful, IsRegexOf, IsMatchAnswer, book_of}
use Rattle.cel_patterns.specs.Stored.{IsStoredAt}
use Rattle.cel_patterns.specs.Extensions.{HoldsForExtensions}
use Rattle.cel_patterns.specs.declared.pattern.Pattern.{Pattern}
use Rattle.cel_patterns.proofs.Books.{HoldsForExtensions-here, none_mapped, matched_by-None, found_by-None}

-- ---- a new answer

same_text : (bs cs : List ℕ) → bytes_eq bs cs ≡ true → bs ≡ cs
same_text bs cs e = (bytes_eq-Decides bs cs).0 e

-- there is no entry, or the same as the new one
abbrev IsNewOrSame : Option Bool → Option ℕ → Type 0
IsNewOrSame known slot = (known ≡ None) ⊎ (known ≡ Some (is_some slot))

pub new_or_same : (again : Bool) (slot : Option ℕ) (known : Option Bool) → known ≡ cond again (Some true) None → (again ≡ true → is_some slot ≡ true)
    → IsNewOrSame known slot
new_or_same true slot known e built = inr (e ∙ ap Some (sym (built refl)))
new_or_same false slot known e built = inl e

module _ (m n : Answers) (key : String Global) (w : Option ℕ) (updates : UpdatesBy string_cmp (string_cmp key) m n (Some w)) where
  at_text : (cs : List ℕ) → get_by_text n cs ≡ cond (bytes_eq (string_bytes key) cs) (Some w) (get_by_text m cs)
  at_text cs = btree_map_updates_text (string_bytes key) m n (Some w) updates cs

  there : (cs : List ℕ) → ((string_bytes key ≡ cs) × (get_by_text n cs ≡ Some w)) ⊎ (get_by_text n cs ≡ get_by_text m cs)
  there cs = there_by (bytes_eq (string_bytes key) cs) (same_text (string_bytes key) cs) (at_text cs)
    where
      there_by : (b : Bool) → (b ≡ true → string_bytes key ≡ cs) → get_by_text n cs ≡ cond b (Some w) (get_by_text m cs) →
          ((string_bytes key ≡ cs) × (get_by_text n cs ≡ Some w)) ⊎ (get_by_text n cs ≡ get_by_text m cs)
      there_by true same at = inl (same refl, at)
      there_by false same at = inr at

  faithful_insert : IsFaithful m → (is_some w ≡ true → IsSome (pattern_of_text (string_bytes key))) → IsFaithful n
  faithful_insert before here text e = elim (there text) [
    | inl h ↦ rw (← h.0) (here (same_Some _ _ (sym (ap (option_map is_some) h.1) ∙ e)))
    | inr h ↦ before text (sym (ap (option_map is_some) h) ∙ e)
  ]

  pub others_insert : (cs : List ℕ) → cs ≢ string_bytes key → book_of n cs ≡ book_of m cs
  others_insert cs other = elim (there cs) [ inl h ↦ absurd (other (sym h.0)) | inr h ↦ ap (option_map is_some) h ]

  pub at_key : book_of n (string_bytes key) ≡ Some (is_some w)
  at_key = ap (option_map is_some) (at_text (string_bytes key) ∙ ap (λ b. cond b (Some w) (get_by_text m (string_bytes key))) ((bytes_eq-Decides (string_bytes key) (string_bytes key)).1 refl))

  pub agrees_insert : IsNewOrSame (book_of m (string_bytes key)) w → Extends (book_of n) (book_of m)
  agrees_insert known = record {
    keeps = λ text built e. elim (there text) [
      | inl h ↦ elim known [
        | inl none ↦ absurd (none-some built (sym none ∙ ap (book_of m) h.0 ∙ e))
        | inr same ↦ ap (option_map is_some) h.1 ∙ sym same ∙ ap (book_of m) h.0 ∙ e
      ]
      | inr h ↦ ap (option_map is_some) h ∙ e
    ];
  }

-- a refused insertion changes no entry
pub same_entries : (m n : Answers) → IsUnchanged m n → (cs : List ℕ) → book_of n cs ≡ book_of m cs
same_entries m n same cs = ap (λ (es : List (String Global × Option ℕ)). option_map is_some (lookup (is_at (λ k. slice_cmp nat_cmp cs (string_bytes k))) es)) same

pub agrees_same : (a b : Book) → ((text : List ℕ) → a text ≡ b text) → Extends a b
agrees_same a b same = record { keeps = λ text built e. same text ∙ e }

pub faithful_after : {X Y : Type 0} (m n : Answers) (key : String Global) (w : Option ℕ) (text : List ℕ) (r : Result X Y) →
    OnOk r (UpdatesBy string_cmp (string_cmp key) m n (Some w)) → OnErr r (IsUnchanged m n) → string_bytes key ≡ text →
    (is_some w ≡ true → IsSome (pattern_of_text text)) → IsFaithful m → IsFaithful n
faithful_after m n key w text (Ok x) updates same is_text here before = faithful_insert m n key w updates before (subst (λ t. is_some w ≡ true → IsSome (pattern_of_text t)) (sym is_text) here)
faithful_after m n key w text (Err y) updates same is_text here before = λ cs e. before cs (sym (same_entries m n same cs) ∙ e)

pub of_some : {X : Type 0} (o : Option X) (x : X) (P : X → Type 0) → o ≡ Some x → IfSome o P → P x
of_some None x P e h = absurd (none-some x e)
of_some (Some y) x P e h = subst P (same_Some _ _ e) h

-- ---- a text and its regex

read_alike : (o : Option (Nested Re × Names)) (most : ℕ) (a : Re) (names : Names) →
    IsSomeAnd o (λ (re, found). (re.depth ≤ most) × SameCaptures a re.value × (names ≡ found) × (group_count a ≤ length names)) →
    (is_some (option_map (λ (p : Nested Re × Names). p.0.value) o) ≡ true)
    × ((re : Re) → option_map (λ (p : Nested Re × Names). p.0.value) o ≡ Some re → SameCaptures a re)
read_alike None most a names p = absurd p
read_alike (Some found) most a names p = (refl, λ re e. rw (← same_Some _ _ e) p.1)

pub built : (regex : Regex) (text : List ℕ) → regex_source regex ≡ text → regex_config regex ≡ default_config → IsReadFromSource regex →
    IsRegexOf text regex
unfolding Reads pattern_of_text
built regex text is_source is_default is_read =
    let reads = rw (is_source, is_default) at is_read in
    let r = read_alike (read default_config (chars text)) _ _ _ reads in
    (r.0, λ re e hay bytes. (is_match_alike (r.1 re e) hay bytes true 0, spans_alike (r.1 re e) hay bytes true))

-- ---- a text and its states

are_bytes : (text : List ℕ) → ((k : ℕ) → get_or text k 0 < 256) → All (λ b. b < 256) text
are_bytes text h = All-from_get_or (λ b. b < 256) text 0 (λ k _. h k)

-- every position in an ASCII text is between characters
all_cuts : (text : List ℕ) → IsAscii text → (i : ℕ) → is_boundary text i ≡ true
unfolding is_boundary
all_cuts text ascii i = by (slice_get text i) refl
  where
    by : (o : Option ℕ) → slice_get text i ≡ o → is_none_or o (λ b. not (is_in_range 0x80 0xBF b)) ≡ true
    by None e = refl
    by (Some b) e = let small : b < 128 = subst (λ (x : ℕ). x < 128) (get_or_from_slice_get text i b 0 e) (ascii i) in grind (arith, nat_tests)

find_in_ascii : (re : Re) (text : List ℕ) → IsAscii text → find re text 0 ≡ find_str re text 0
unfolding find find_str
find_in_ascii re text ascii = first_between_cong _ _ 0 (length text) (λ i _ _. sym (cond-true _ _ None (all_cuts text ascii i)))

end_found : (nfa : Nfa) (re : Re) → Implements nfa re → (text : List ℕ) → ((k : ℕ) → get_or text k 0 < 256) →
    is_some (end_from nfa text (length text) nfa.unanchored 0) ≡ is_some (find re text 0)
unfolding find_in find
end_found nfa re implements text bytes =
    is_some-option_map _ _ ∙ ap is_some (run_unanchored nfa text (length text) 0 (are_bytes text bytes) (omega arith) (omega arith)) ∙ is_some-option_map _ _
    ∙ ap is_some (first_between_cong _ _ 0 (length text) (λ i _ _. implements text i))

pub states_built : (text : List ℕ) (hir : Hir) (names : Names) (dfa : Dfa) → Reads default_config text hir names → Implements dfa.nfa (meaning hir) → IsDfaOf text dfa
unfolding Reads pattern_of_text
states_built text hir names dfa reads implements =
    let r = read_alike (read default_config (chars text)) _ _ _ reads in (
      r.0,
      λ re e hay bytes ascii.
          end_found dfa.nfa (meaning hir) implements hay bytes ∙ ap is_some (find_in_ascii (meaning hir) hay ascii) ∙ is_match_alike (r.1 re e) hay bytes true 0,
    )

pub all_built : {E : Type 0} (text : List ℕ) (hir : Hir) (names : Names) (config : Config) (r : Result (Option Dfa) E) → config ≡ default_config → Reads config text hir names →
    IfOk r (λ found. IfSome found (λ dfa. Implements dfa.nfa (meaning hir))) → IfOk r (λ found. IfSome found (IsDfaOf text))
all_built text hir names config (Err e) is_default reads implements = tt
all_built text hir names config (Ok None) is_default reads implements = tt
all_built text hir names config (Ok (Some dfa)) is_default reads implements = states_built text hir names dfa (subst (λ (c : Config). Reads c text hir names) is_default reads) implements

-- ---- answers

module _ (known : Book) (pattern text : List ℕ) where
  pub refused_matched : known pattern ≡ Some false → HoldsForExtensions known None (λ book. matched_by book pattern text)
  unfolding matched_by
  refused_matched e = record { under = λ book agrees. rw (agrees.keeps pattern false e) refl }

  pub refused_found : (limit : Option ℕ) → known pattern ≡ Some false → HoldsForExtensions known None (λ book. found_by book pattern text limit)
  unfolding found_by
  refused_found limit e = record { under = λ book agrees. rw (agrees.keeps pattern false e) refl }

  reported : {A : Type 0} (o : Option Re) (x : A) (f : Re → A) → is_some o ≡ true → ((re : Re) → o ≡ Some re → x ≡ f re) → Some x ≡ option_map f o
  reported None x f e same = absurd (true≢false (sym e))
  reported (Some re) x f e same = ap Some (same re refl)

  module _ (is_book : IsBook known) (built : known pattern ≡ Some true) where
    pub built_matched : (found : Bool) → IsMatchAnswer pattern text found → HoldsForExtensions known (Some found) (λ book. matched_by book pattern text)
    unfolding matched_by
    built_matched found answers_as = record {
      under = λ book agrees. rw (agrees.keeps pattern true built) (reported (pattern_of_text pattern) found _ (is_book pattern built) answers_as);
    }

    pub built_found : (limit : Option ℕ) (spans : List (ℕ × ℕ)) → FindsAll pattern text limit spans → HoldsForExtensions known (Some spans) (λ book. found_by book pattern text limit)
    unfolding found_by
    built_found limit spans finds = record {
      under = λ book agrees. rw (agrees.keeps pattern true built) (reported (pattern_of_text pattern) spans _ (is_book pattern built) finds);
    }

pub kept_there : (patterns given : List Pattern) (slot : ℕ) (text found : List ℕ) (p : Pattern) → given ≡ patterns → slot < length given
    → ((other : Pattern) → p ≡ slice_index_or given slot other) → found ≡ string_bytes p.text → bytes_eq found text ≡ true → IsStoredAt patterns slot text
kept_there patterns given slot text found p is within here read same = subst (λ (ps : List Pattern). IsStoredAt ps slot text) is
    (within, λ other. sym (ap (λ (q : Pattern). string_bytes q.text) (here other)) ∙ sym read ∙ same_text found text same)

pub regex_answers : (pattern text : List ℕ) (regex : Regex) (m : Re) (found : Bool) → IsRegexOf pattern regex → ((k : ℕ) → get_or text k 0 < 256)
    → m ≡ regex_pattern regex → found ≡ is_some (find_str m text 0) → IsMatchAnswer pattern text found
regex_answers pattern text regex m found is bytes same e = λ re reads. e ∙ ap (λ (r : Re). is_some (find_str r text 0)) same ∙ (is.1 re reads text bytes).0

pub regex_finds : (pattern text : List ℕ) (limit : Option ℕ) (regex : Regex) (m : Re) (spans : List (ℕ × ℕ)) → IsRegexOf pattern regex → ((k : ℕ) → get_or text k 0 < 256)
    → m ≡ regex_pattern regex → spans ≡ first_of limit (map span (find_all_str m text)) → FindsAll pattern text limit spans
regex_finds pattern text limit regex m spans is bytes same e =
    λ re reads. e ∙ ap (λ (r : Re). first_of limit (map span (find_all_str r text))) same ∙ ap (first_of limit) (is.1 re reads text bytes).1

-- ---- refusals

same_None : {A : Type 0} (P : Type 0) (a b : Option A) → a ≡ b → (b ≡ None) ↔ P → (a ≡ None) ↔ P
same_None P a b e h = (λ is. h.0 (sym e ∙ is), λ p. e ∙ h.1 p)

pub matched_refused : (known : Book) (pattern text : List ℕ) (found : Option Bool) → IsBook known → HoldsForExtensions known found (λ book. matched_by book pattern text)
    → (found ≡ None) ↔ IsRefused known pattern
matched_refused known pattern text found is_book holds_for_all = same_None _ _ _ (HoldsForExtensions-here holds_for_all) (matched_by-None known pattern text is_book)

pub found_refused : {V : Type 0} (spans_of : V → List (ℕ × ℕ)) (known : Book) (pattern text : List ℕ) (limit : Option ℕ) (found : Option V) → IsBook known
    → HoldsForExtensions known (option_map spans_of found) (λ book. found_by book pattern text limit) → (found ≡ None) ↔ IsRefused known pattern
found_refused spans_of known pattern text limit found is_book holds_for_all =
    let m = none_mapped spans_of found in
    let p = same_None (IsRefused known pattern) _ _ (HoldsForExtensions-here holds_for_all) (found_by-None known pattern text limit is_book) in
    (λ e. p.0 (m.1 e), λ h. m.0 (p.1 h))
