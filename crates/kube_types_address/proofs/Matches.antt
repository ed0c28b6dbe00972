-- Texts that begin with a given text.
use Rattle.std.proofs.Common.{◌≡◌, ℕ, zero, suc, ◌+◌, ◌<◌, ◌≤◌, lt-ltb, le-ltb, option_and_then, true, false, cond, ◌⊎◌, List, [], ◌∷◌, ◌++◌, length, take, drop, get_or, flat_map, bytes_eq, Option, Some, None, option_copied, MatchOption, refl, sym, ap, ap₂, ◌∙◌, subst, arith, inl, inr, append_assoc, length-append, eq-eqb, add-one, drop-cons, take-append-drop}
use Rattle.std.proofs.NetLemmas.Options.{cond_some}
use Rattle.std.proofs.lemmas.Slice.Eq.{bytes_eq-Decides}
use Rattle.std.proofs.lemmas.Bool.{eqb-true}
use Rattle.std.specs.Bool.{Decides, one_answer}
use Rattle.std.specs.Borrow.{Bor}
use Rattle.std.specs.Net.Grammar.{IsDotted}
use Rattle.std.specs.Net.Text.{hex, groups_text, hex_groups_text, ipv4_text, longest_zero_run}
use Rattle.kube_types_address.specs.Matching.{rest_after, more_text, is_whole}

same_some : (x y : List ℕ) → ◌≡◌ {A = Option (List ℕ)} (Some x) (Some y) → x ≡ y
same_some x y e = cc

none_is_not_some : (o : Option (List ℕ)) (x : List ℕ) → o ≡ None → o ≡ Some x → ⊥
none_is_not_some o x h k = cc

none_or_some : (o : Option (List ℕ)) → (o ≡ None) ⊎ ((x : List ℕ) × (o ≡ Some x))
none_or_some None = inl refl
none_or_some (Some x) = inr (x, refl)

take_front : (front rest : List ℕ) → take (length front) (front ++ rest) ≡ front
take_front [] rest = refl
take_front (x ∷ xs) rest = ap (λ t. x ∷ t) (take_front xs rest)

drop_front : (front rest : List ℕ) → drop (length front) (front ++ rest) ≡ rest
drop_front [] rest = refl
drop_front (x ∷ xs) rest = drop_front xs rest

sound : (front text rest : List ℕ) → rest_after front text ≡ Some rest → text ≡ front ++ rest
unfolding rest_after
sound front text rest h =
    let found = cond_some (bytes_eq (take (length front) text) front) (drop (length front) text) rest h in
    let same = (bytes_eq-Decides (take (length front) text) front).0 found.0 in
    sym (take-append-drop (length front) text) ∙ ap₂ (λ a b. a ++ b) same found.1

complete : (front rest : List ℕ) → rest_after front (front ++ rest) ≡ Some rest
unfolding rest_after
complete front rest =
    let same = (bytes_eq-Decides (take (length front) (front ++ rest)) front).1 (take_front front rest) in
    ap (λ b. cond b (Some (drop (length front) (front ++ rest))) None) same ∙ ap Some (drop_front front rest)

complete_at : (front text rest : List ℕ) → text ≡ front ++ rest → rest_after front text ≡ Some rest
complete_at front text rest e = ap (rest_after front) e ∙ complete front rest

-- the text after `a ++ b` is the text after b in the text after a
pub append_none : (a b text : List ℕ) → rest_after a text ≡ None → rest_after (a ++ b) text ≡ None
append_none a b text h = elim (none_or_some (rest_after (a ++ b) text)) as (λ _. rest_after (a ++ b) text ≡ None) [
  | inl none ↦ none
  | inr w ↦ absurd (none_is_not_some (rest_after a text) (b ++ w.0) h (complete_at a text (b ++ w.0) (sound (a ++ b) text w.0 w.1 ∙ append_assoc a b w.0)))
]

pub append_some : (a b text rest : List ℕ) → rest_after a text ≡ Some rest → rest_after (a ++ b) text ≡ rest_after b rest
append_some a b text rest h =
    let spelled = sound a text rest h in
    elim (none_or_some (rest_after b rest)) as (λ _. rest_after (a ++ b) text ≡ rest_after b rest) [
      | inl none ↦ elim (none_or_some (rest_after (a ++ b) text)) as (λ _. rest_after (a ++ b) text ≡ rest_after b rest) [
        | inl nothing ↦ nothing ∙ sym none
        | inr w ↦
            let split = sound (a ++ b) text w.0 w.1 ∙ append_assoc a b w.0 in
            let same = same_some rest (b ++ w.0) (sym h ∙ complete_at a text (b ++ w.0) split) in
            absurd (none_is_not_some (rest_after b rest) w.0 none (complete_at b rest w.0 same))
      ]
      | inr w ↦ complete_at (a ++ b) text w.0 (spelled ∙ ap (λ t. a ++ t) (sound b rest w.0 w.1) ∙ sym (append_assoc a b w.0)) ∙ sym w.1
    ]

pub append_then : (a b text : List ℕ) → rest_after (a ++ b) text ≡ option_and_then (rest_after b) (rest_after a text)
append_then a b text = elim (none_or_some (rest_after a text)) as (λ _. rest_after (a ++ b) text ≡ option_and_then (rest_after b) (rest_after a text)) [
  | inl none ↦ append_none a b text none ∙ sym (ap (option_and_then (rest_after b)) none)
  | inr w ↦ append_some a b text w.0 w.1 ∙ sym (ap (option_and_then (rest_after b)) w.1)
]

pub after_nothing : (text : List ℕ) → rest_after [] text ≡ Some text
after_nothing text = complete [] text

-- the whole text is matched
append_nil : (xs : List ℕ) → xs ++ [] ≡ xs
append_nil [] = refl
append_nil (x ∷ xs) = ap (λ t. x ∷ t) (append_nil xs)

empty_from_length : (xs : List ℕ) → length xs ≡ 0 → xs ≡ []
empty_from_length [] h = refl
empty_from_length (x ∷ xs) h = absurd (omega arith)

whole_some : (front text rest : List ℕ) → text ≡ front ++ rest → Decides (is_whole (Some rest)) (text ≡ front)
whole_some front text rest e = (
  (λ h. e ∙ ap (λ r. front ++ r) (empty_from_length rest (eqb-true (length rest) 0 h)) ∙ append_nil front),
  λ same. eq-eqb (length rest) 0 (omega (arith, length-append front rest, ap length (sym same ∙ e))),
)

by_rest : (front text : List ℕ) (o : Option (List ℕ)) → rest_after front text ≡ o → Decides (is_whole o) (text ≡ front)
by_rest front text None e = ((λ h. absurd (cc)), λ same. absurd (none_is_not_some (rest_after front text) [] e (complete_at front text [] (same ∙ sym (append_nil front)))))
by_rest front text (Some rest) e = whole_some front text rest (sound front text rest e)

pub whole_is : (front text : List ℕ) → is_whole (rest_after front text) ≡ bytes_eq text front
whole_is front text = one_answer _ _ (by_rest front text (rest_after front text) refl) (bytes_eq-Decides text front)

-- the result of `strip_prefix` of `std`
pub stripped : (front text : List ℕ) (r : Option (Bor (List ℕ))) → MatchOption r (bytes_eq (take (length front) text) front ≡ false) (λ x. (bytes_eq (take (length front) text) front ≡ true) × (x.now ≡ drop (length front) text) × (length x.now + length front ≡ length text)) → option_copied r ≡ rest_after front text
unfolding rest_after
stripped front text None h = sym (ap (λ b. cond b (Some (drop (length front) text)) None) h)
stripped front text (Some x) h = ap Some h.1 ∙ sym (ap (λ b. cond b (Some (drop (length front) text)) None) h.0)

-- one pass of the loop over the groups
drop-all : (i : ℕ) (xs : List ℕ) → length xs ≤ i → drop i xs ≡ []
drop-all zero [] h = refl
drop-all zero (x ∷ xs) h = absurd (omega arith)
drop-all (suc i) [] h = refl
drop-all (suc i) (x ∷ xs) h = drop-all i xs (omega arith)

more_at : (i : ℕ) (groups : List ℕ) → i < length groups → more_text (drop i groups) ≡ (58 ∷ []) ++ (hex (get_or groups i 0) ++ more_text (drop (i + 1) groups))
unfolding more_text
more_at i groups h = rw (add-one, drop-cons groups i 0) refl

pub turn_then : (i : ℕ) (groups text : List ℕ) → i < length groups → rest_after (more_text (drop i groups)) text ≡ option_and_then (rest_after (hex (get_or groups i 0) ++ more_text (drop (i + 1) groups))) (rest_after (58 ∷ []) text)
turn_then i groups text h = ap (λ t. rest_after t text) (more_at i groups h) ∙ append_then (58 ∷ []) (hex (get_or groups i 0) ++ more_text (drop (i + 1) groups)) text

pub after_all : (i : ℕ) (groups text : List ℕ) → length groups ≤ i → rest_after (more_text (drop i groups)) text ≡ Some text
unfolding more_text
after_all i groups text h = ap (λ gs. rest_after (flat_map (λ g. 58 ∷ hex g) gs) text) (drop-all i groups h) ∙ after_nothing text

-- the groups of a text, with the first one separate
pub groups_cons : (g : ℕ) (others : List ℕ) → groups_text (g ∷ others) ≡ hex g ++ more_text others
unfolding more_text
groups_cons g others = refl

abbrev compressed : List ℕ → List ℕ
compressed groups = (groups_text (take (longest_zero_run groups).0 groups) ++ 58 ∷ 58 ∷ []) ++ groups_text (drop ((longest_zero_run groups).0 + (longest_zero_run groups).1) groups)

pub printed_short : (groups : List ℕ) → (longest_zero_run groups).1 < 2 → hex_groups_text groups ≡ groups_text groups
unfolding hex_groups_text
printed_short groups h = ap (λ b. cond b (compressed groups) (groups_text groups)) (le-ltb 1 (longest_zero_run groups).1 (omega arith))

pub printed_long : (groups : List ℕ) → 1 < (longest_zero_run groups).1 → hex_groups_text groups ≡ (groups_text (take (longest_zero_run groups).0 groups) ++ 58 ∷ 58 ∷ []) ++ groups_text (drop ((longest_zero_run groups).0 + (longest_zero_run groups).1) groups)
unfolding hex_groups_text
printed_long groups h = ap (λ b. cond b (compressed groups) (groups_text groups)) (lt-ltb 1 (longest_zero_run groups).1 h)

-- the text after the first group
pub first_some : (groups text rest : List ℕ) → 1 ≤ length groups → rest_after (hex (get_or groups 0 0)) text ≡ Some rest → rest_after (groups_text groups) text ≡ rest_after (more_text (drop 1 groups)) rest
first_some [] text rest h e = absurd (omega arith)
first_some (g ∷ others) text rest h e = ap (λ t. rest_after t text) (groups_cons g others) ∙ append_some (hex g) (more_text others) text rest e

-- the text after the groups before the run, and after the two colons
pub printed_steps : (groups text head middle : List ℕ) (run : ℕ × ℕ) → run ≡ longest_zero_run groups → 2 ≤ run.1 → rest_after (groups_text (take run.0 groups)) text ≡ Some head → rest_after (58 ∷ 58 ∷ []) head ≡ Some middle → rest_after (hex_groups_text groups) text ≡ rest_after (groups_text (drop (run.0 + run.1) groups)) middle
printed_steps groups text head middle run is long e f =
    let many : 1 < (longest_zero_run groups).1 = subst (λ r. 2 ≤ r.1) is long in
    let front : rest_after (groups_text (take (longest_zero_run groups).0 groups)) text ≡ Some head = subst (λ r. rest_after (groups_text (take r.0 groups)) text ≡ Some head) is e in
    let both : rest_after (groups_text (take (longest_zero_run groups).0 groups) ++ 58 ∷ 58 ∷ []) text ≡ Some middle =
    append_some (groups_text (take (longest_zero_run groups).0 groups)) (58 ∷ 58 ∷ []) text head front ∙ f in
    ap (λ t. rest_after t text) (printed_long groups many)
    ∙ append_some (groups_text (take (longest_zero_run groups).0 groups) ++ 58 ∷ 58 ∷ []) (groups_text (drop ((longest_zero_run groups).0 + (longest_zero_run groups).1) groups)) text middle both
    ∙ ap (λ r. rest_after (groups_text (drop (r.0 + r.1) groups)) middle) (sym is)

-- an IPv4 address has only one text
pub dotted_is_printed : (text octets : List ℕ) → IsDotted text octets → bytes_eq text (ipv4_text octets) ≡ true
dotted_is_printed text octets h =
    (bytes_eq-Decides text (ipv4_text octets)).1 (h.spelled ∙ sym (ap ipv4_text h.value))
