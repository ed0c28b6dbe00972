-- A text without its first characters.
use Rattle.std.proofs.Common.{◌≡◌, ℕ, zero, suc, ◌+◌, ◌-◌, ◌<◌, ◌≤◌, arith, add-one, List, [], ◌∷◌, ◌++◌, length, take, drop, subst, sym, ap, ◌∙◌, append_assoc, append-nil, drop-drop, length-drop, length-append, take-append-drop, take_at, drop_at, Some, None, cond, le-leb}
use Rattle.std.specs.Char.{encode_utf8}
use Rattle.std.specs.Str.{chars, encode_utf8_all, IsUtf8, IsAscii, IsCharBoundary}
use Rattle.std.proofs.lemmas.List.{nil_from_length}
use Rattle.std.proofs.lemmas.Bool.{lt-leb}
use Rattle.std.proofs.lemmas.Str.{encodes-append, encodes-chars, encodes_same, encodes-IsAscii, chars-IsAscii, chars_past_char, IsUtf8-past_char, IsUtf8-take, IsUtf8-from_ascii, IsCharBoundary-at_seam, IsAscii-take, IsAscii-drop, chars-nil}
use Rattle.kube_functions_strings.specs.Cuts.{IsPast, around_offset}

pub past_none : (text rest : List ℕ) → IsUtf8 text → rest ≡ text → IsPast text 0 rest
past_none text rest u e = record { within = omega arith; whole = sym e; later = ap chars e; utf8 = subst IsUtf8 (sym e) u }

take_one_more : (cs ds : List ℕ) (k c : ℕ) → c ∷ ds ≡ drop k cs → take (suc k) cs ≡ take k cs ++ c ∷ []
take_one_more [] ds zero c h = absurd (cc)
take_one_more [] ds (suc k) c h = absurd (cc)
take_one_more (x ∷ cs) ds zero c h = let e : c ∷ ds ≡ x ∷ cs = h in ap (λ y. y ∷ []) (sym (cc))
take_one_more (x ∷ cs) ds (suc k) c h = ap (λ l. x ∷ l) (take_one_more cs ds k c h)

pub past_more : (text rest next : List ℕ) (k c : ℕ) → IsPast text k rest → rest ≡ encode_utf8 c ++ next → IsPast text (k + 1) next
past_more text rest next k c p e =
    let cs = chars text in
    let read : c ∷ chars next ≡ drop k cs = sym (chars_past_char rest next c p.utf8 e) ∙ p.later in
    let after : chars next ≡ drop (k + 1) cs = ap (drop 1) read ∙ drop-drop 1 k cs in
    let taken : take (k + 1) cs ≡ take k cs ++ c ∷ [] = ap (λ n. take n cs) (add-one k) ∙ take_one_more cs (chars next) k c read in
    let bytes : encode_utf8_all (take (k + 1) cs) ≡ encode_utf8_all (take k cs) ++ encode_utf8 c =
    ap encode_utf8_all taken ∙ encodes-append (take k cs) (c ∷ []) ∙ ap (λ l. encode_utf8_all (take k cs) ++ l) (append-nil (encode_utf8 c)) in
    record {
      within = omega (arith, ap length read, length-drop k cs);
      whole = p.whole ∙ ap (λ l. encode_utf8_all (take k cs) ++ l) e ∙ sym (append_assoc (encode_utf8_all (take k cs)) (encode_utf8 c) next) ∙ ap (λ l. l ++ next) (sym bytes);
      later = after;
      utf8 = IsUtf8-past_char rest next c p.utf8 e;
    }

pub past_end : (text rest : List ℕ) (k n : ℕ) → IsPast text k rest → length rest ≡ 0 → k < n → length (chars text) < n
past_end text rest k n p e lt =
    let none : drop k (chars text) ≡ [] = sym p.later ∙ ap chars (nil_from_length rest e) ∙ chars-nil in
    omega (arith, ap length none, length-drop k (chars text))

-- each character takes one byte
pub past_ascii : (text rest : List ℕ) (k : ℕ) → IsAscii text → k ≤ length text → rest ≡ drop k text → IsPast text k rest
past_ascii text rest k a le e =
    let read : chars text ≡ text = chars-IsAscii text a in
    let bytes : encode_utf8_all (take k (chars text)) ≡ take k text = ap (λ l. encode_utf8_all (take k l)) read ∙ encodes-IsAscii (take k text) (IsAscii-take text k a) in
    let later : IsAscii (drop k text) = IsAscii-drop text k a in
    record {
      within = omega (arith, ap length read);
      whole = sym (take-append-drop k text) ∙ ap (λ l. l ++ drop k text) (sym bytes) ∙ ap (λ l. encode_utf8_all (take k (chars text)) ++ l) (sym e);
      later = ap chars e ∙ chars-IsAscii (drop k text) later ∙ ap (drop k) (sym read);
      utf8 = subst IsUtf8 (sym e) (IsUtf8-from_ascii (drop k text) later);
    }

pub short_ascii : (text : List ℕ) (k : ℕ) → IsAscii text → length text < k → length (chars text) < k
short_ascii text k a lt = omega (arith, ap length (chars-IsAscii text a))

bytes_before : (text rest : List ℕ) (k n : ℕ) → IsPast text k rest → n ≡ length text - length rest → length (encode_utf8_all (take k (chars text))) ≡ n
bytes_before text rest k n p e = omega (arith, ap length p.whole, length-append (encode_utf8_all (take k (chars text))) rest)

pub boundary_past : (text rest : List ℕ) (k n : ℕ) → IsPast text k rest → n ≡ length text - length rest → IsCharBoundary text n
boundary_past text rest k n p e = subst (λ m. IsCharBoundary text m) (bytes_before text rest k n p e) (IsCharBoundary-at_seam text (encode_utf8_all (take k (chars text))) rest p.whole p.utf8)

pub front_utf8 : (text rest front : List ℕ) (k n : ℕ) → IsUtf8 text → IsPast text k rest → n ≡ length text - length rest → front ≡ take n text → IsUtf8 front
front_utf8 text rest front k n u p e is_front = subst IsUtf8 (sym is_front) (IsUtf8-take text n u (boundary_past text rest k n p e))

pub cut_past : (text rest front back : List ℕ) (k n : ℕ) → IsUtf8 text → IsPast text k rest → n ≡ length text - length rest → front ≡ take n text → back ≡ drop n text → Some (chars front, chars back) ≡ around_offset (chars text) k
cut_past text rest front back k n u p e is_front is_back =
    let cs = chars text in
    let count = bytes_before text rest k n p e in
    let utf8 : IsUtf8 front = front_utf8 text rest front k n u p e is_front in
    let before : chars front ≡ take k cs = encodes_same (chars front) (take k cs) (encodes-chars front utf8 ∙ is_front ∙ ap (take n) p.whole ∙ take_at (encode_utf8_all (take k cs)) rest n count) in
    let behind : chars back ≡ drop k cs = ap chars (is_back ∙ ap (drop n) p.whole ∙ drop_at (encode_utf8_all (take k cs)) rest n count) ∙ p.later in
    ap (λ l. Some (l, chars back)) before ∙ ap (λ l. Some (take k cs, l)) behind ∙ sym (ap (λ b. cond b (Some (take k cs, drop k cs)) None) (le-leb k (length cs) p.within))

pub cut_short : (cs : List ℕ) (k : ℕ) → length cs < k → None ≡ around_offset cs k
cut_short cs k lt = sym (ap (λ b. cond b (Some (take k cs, drop k cs)) None) (lt-leb k (length cs) lt))
