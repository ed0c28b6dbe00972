-- A part occurs in a text at a character exactly if its bytes occur at the matching byte offset.
use Rattle.std.proofs.Common.{◌≡◌, ℕ, ◌<◌, ◌≤◌, arith, List, ◌++◌, length, take, drop, true, false, Option, None, Some, Bor, MatchOption, IfSome, refl, sym, ap, ◌∙◌, subst, take-append-drop, drop_at, take_at, take-take, length-drop, length-append, length-take-le}
use Rattle.std.specs.Str.{chars, encode_utf8_all, IsUtf8, IsCharBoundary}
use Rattle.std.specs.Str.Pattern.{LacksTextAt, HasTextAt, FindsText, RFindsText, SplitsAroundMatch}
use Rattle.std.proofs.lemmas.Bool.{false_from_ne_true}
use Rattle.std.proofs.lemmas.Bool.Decides.{Decides-eqb}
use Rattle.std.proofs.lemmas.Slice.Eq.{starts_is}
use Rattle.std.proofs.lemmas.Str.{encodes-append, encodes-chars, chars-append, length-le-encodes, IsUtf8-append, IsUtf8-take, IsUtf8-drop, IsCharBoundary-from_drop}
use Rattle.kube_functions_strings.specs.Cuts.{StandsNowhere, StandsFirst, StandsLast}
use Rattle.kube_functions_strings.specs.Offsets.{stands_at}

-- the number of bytes in the first k characters
abbrev pub offset : List ℕ → ℕ → ℕ
offset s k = length (encode_utf8_all (take k (chars s)))

pub stands_split : (cs part : List ℕ) (k : ℕ) → stands_at cs part k ≡ true → drop k cs ≡ part ++ drop (length part) (drop k cs)
stands_split cs part k h = (starts_is Decides-eqb (drop k cs) part _ refl).0 h

pub stands_between : (cs part before behind : List ℕ) → cs ≡ before ++ (part ++ behind) → stands_at cs part (length before) ≡ true
stands_between cs part before behind e =
    (starts_is Decides-eqb (drop (length before) cs) part _ refl).1 behind (ap (drop (length before)) e ∙ drop_at before (part ++ behind) (length before) refl)

pub seam : (s : List ℕ) (k : ℕ) → IsUtf8 s → encode_utf8_all (take k (chars s)) ++ encode_utf8_all (drop k (chars s)) ≡ s
seam s k u = sym (encodes-append (take k (chars s)) (drop k (chars s))) ∙ ap encode_utf8_all (take-append-drop k (chars s)) ∙ encodes-chars s u

-- if the characters of p occur at an offset, so do its bytes
pub occurs : (s p : List ℕ) (k : ℕ) → IsUtf8 s → IsUtf8 p → stands_at (chars s) (chars p) k ≡ true → LacksTextAt p s (offset s k) → ⊥
occurs s p k u v h lacks =
    let rest = drop (length (chars p)) (drop k (chars s)) in
    let later : encode_utf8_all (drop k (chars s)) ≡ p ++ encode_utf8_all rest =
    ap encode_utf8_all (stands_split (chars s) (chars p) k h) ∙ encodes-append (chars p) rest ∙ ap (λ t. t ++ encode_utf8_all rest) (encodes-chars p v) in
    lacks (encode_utf8_all rest)
    (ap (drop (offset s k)) (sym (seam s k u)) ∙ drop_at (encode_utf8_all (take k (chars s))) (encode_utf8_all (drop k (chars s))) (offset s k) refl ∙ later)

pub stands_not : (s p : List ℕ) (k : ℕ) → IsUtf8 s → IsUtf8 p → LacksTextAt p s (offset s k) → stands_at (chars s) (chars p) k ≡ false
stands_not s p k u v lacks = false_from_ne_true (stands_at (chars s) (chars p) k) (λ h. occurs s p k u v h lacks)

offset-le : (s : List ℕ) (k : ℕ) → IsUtf8 s → offset s k ≤ length s
offset-le s k u = omega (arith, ap length (seam s k u), length-append (encode_utf8_all (take k (chars s))) (encode_utf8_all (drop k (chars s))))

-- more characters take more bytes
offset_more : (s : List ℕ) (j k : ℕ) → j < k → k ≤ length (chars s) → offset s j < offset s k
offset_more s j k lt le =
    let cs = chars s in
    let more = drop j (take k cs) in
    let parts : encode_utf8_all (take k cs) ≡ encode_utf8_all (take j cs) ++ encode_utf8_all more =
    ap encode_utf8_all (sym (take-append-drop j (take k cs))) ∙ encodes-append (take j (take k cs)) more ∙ ap (λ t. encode_utf8_all t ++ encode_utf8_all more) (take-take j k cs (omega arith)) in
    let some : 0 < length more = omega (arith, length-drop j (take k cs), length-take-le k cs le) in
    omega (arith, ap length parts, length-append (encode_utf8_all (take j cs)) (encode_utf8_all more), length-le-encodes more)

-- the text is x, then p, then y, and x is whole characters
record Around (s p x y : List ℕ) : Type 0 where
  first : IsUtf8 x
  whole : chars s ≡ chars x ++ (chars p ++ chars y)
  front : offset s (length (chars x)) ≡ length x

around_text : (s p x y : List ℕ) (i j : ℕ) → IsUtf8 s → IsUtf8 p → HasTextAt p s i j → x ≡ take i s → y ≡ drop j s → i ≤ length s → length x ≡ i → Around s p x y
around_text s p x y i j u v t front back le at =
    let last : IsUtf8 (drop j s) = IsUtf8-drop s j u (subst (λ n. IsCharBoundary s n) (sym t.ends) t.after) in
    let from : IsUtf8 (drop i s) = subst IsUtf8 (sym t.split) (IsUtf8-append p (drop j s) v last) in
    let first : IsUtf8 (take i s) = IsUtf8-take s i u (IsCharBoundary-from_drop s i le from) in
    let ux : IsUtf8 x = subst IsUtf8 (sym front) first in
    let parts : s ≡ x ++ (p ++ y) = sym (take-append-drop i s) ∙ ap (λ l. take i s ++ l) t.split ∙ ap (λ l. l ++ (p ++ drop j s)) (sym front) ∙ ap (λ l. x ++ (p ++ l)) (sym back) in
    let whole : chars s ≡ chars x ++ (chars p ++ chars y) = ap chars parts ∙ chars-append x (p ++ y) ux ∙ ap (λ l. chars x ++ l) (chars-append p y v) in
    record {
      first = ux;
      whole = whole;
      front = ap (λ l. length (encode_utf8_all l)) (ap (take (length (chars x))) whole ∙ take_at (chars x) (chars p ++ chars y) (length (chars x)) refl) ∙ ap length (encodes-chars x ux);
    }

pub stands_nowhere : (s p : List ℕ) → IsUtf8 s → IsUtf8 p → FindsText p s None → StandsNowhere 0 (chars s) (chars p)
stands_nowhere s p u v none k from le = stands_not s p k u v (none (offset s k) (offset-le s k u))

pub stands_first : (s p x y : List ℕ) → IsUtf8 s → IsUtf8 p → SplitsAroundMatch (FindsText p) s x y → StandsFirst 0 (chars s) (chars p) (chars x) (chars y)
stands_first s p x y u v h =
    let a = around_text s p x y h.0 h.1 u v h.2.1 h.3 h.4 (omega (arith, h.5, h.7)) h.6 in
    (a.whole, omega arith, λ k from lt. stands_not s p k u v (h.2.0 (offset s k) (omega (arith, offset_more s k (length (chars x)) lt (omega (arith, ap length a.whole, length-append (chars x) (chars p ++ chars y))), a.front, h.6))))

pub stands_last : (s p x y : List ℕ) → IsUtf8 s → IsUtf8 p → SplitsAroundMatch (RFindsText p) s x y → StandsLast (chars s) (chars p) (chars x) (chars y)
stands_last s p x y u v h =
    let a = around_text s p x y h.0 h.1 u v h.2.1 h.3 h.4 (omega (arith, h.5, h.7)) h.6 in
    (a.whole, λ k lt le. stands_not s p k u v (h.2.0 (offset s k) (omega (arith, offset_more s (length (chars x)) k lt le, a.front, h.6)) (offset-le s k u)))

-- the results of the library's searches, from the left and from the right
pub around_first_found : (s p : List ℕ) (r : Option (Bor (List ℕ) × Bor (List ℕ))) → IsUtf8 s → IsUtf8 p → MatchOption r (FindsText p s None) (λ x. SplitsAroundMatch (FindsText p) s x.0.now x.1.now)
    → MatchOption r (StandsNowhere 0 (chars s) (chars p)) (λ x. StandsFirst 0 (chars s) (chars p) (chars x.0.now) (chars x.1.now))
around_first_found s p None u v h = stands_nowhere s p u v h
around_first_found s p (Some x) u v h = stands_first s p x.0.now x.1.now u v h

pub around_last_found : (s p : List ℕ) (r : Option (Bor (List ℕ) × Bor (List ℕ))) → IsUtf8 s → IsUtf8 p → MatchOption r (RFindsText p s None) (λ x. SplitsAroundMatch (RFindsText p) s x.0.now x.1.now)
    → MatchOption r (StandsNowhere 0 (chars s) (chars p)) (λ x. StandsLast (chars s) (chars p) (chars x.0.now) (chars x.1.now))
around_last_found s p None u v h = stands_nowhere s p u v h
around_last_found s p (Some x) u v h = stands_last s p x.0.now x.1.now u v h

pub first_utf8 : (s p : List ℕ) (r : Option (Bor (List ℕ) × Bor (List ℕ))) → IsUtf8 s → IsUtf8 p → MatchOption r (FindsText p s None) (λ x. SplitsAroundMatch (FindsText p) s x.0.now x.1.now) → IfSome r (λ x. IsUtf8 x.0.now)
first_utf8 s p None u v h = tt
first_utf8 s p (Some x) u v h = (around_text s p x.0.now x.1.now h.0 h.1 u v h.2.1 h.3 h.4 (omega (arith, h.5, h.7)) h.6).first
