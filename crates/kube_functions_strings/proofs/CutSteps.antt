-- A text cut at one separator after another: each cut leaves the pieces of the text after it.
use Rattle.std.proofs.Common.{◌≡◌, ℕ, zero, suc, ◌+◌, ◌-◌, ◌<◌, ◌≤◌, min, arith, add-one, Bor, MatchOption, IfSome, option_map, subst, append_assoc, take-append-drop, length-take-le, List, [], ◌∷◌, ◌++◌, length, map, take, drop, Bool, true, false, cond, Option, Some, None, refl, ap, sym, ◌∙◌, true≢false, take_at, drop_at, drop-drop, length-append, le-leb}
use Rattle.std.specs.Prelude.{slice_range, nat_le, ◌&&◌}
use Rattle.std.specs.List.{range_with_len}
use Rattle.std.specs.Str.{chars, encode_utf8_all, IsUtf8}
use Rattle.std.proofs.lemmas.Str.{encodes-chars}
use Rattle.kube_functions_strings.proofs.Between.{is_around, none_around}
use Rattle.std.proofs.lemmas.Bool.{ltb-true, ltb-false, leb-true, leb-false, lt-leb, and_left, and_right, and_from}
use Rattle.std.proofs.lemmas.List.{take_all, take-map, length_push, map_push}
use Rattle.cel_patterns.specs.Book.{first_of}
use Rattle.kube_functions_strings.specs.Cuts.{has_room, left_of, characters_passed, around_offset, pieces_behind, StandsFirst, StandsNowhere}
use Rattle.kube_functions_strings.specs.Pieces.{is_next, spans_among, around, pieces}
use Rattle.kube_functions_strings.specs.Offsets.{stands_at}
use Rattle.kube_functions_strings.proofs.Occurring.{stands_between}
use Rattle.kube_functions_strings.proofs.Standing.{stands_behind}

-- ---- spans and pieces after an offset

abbrev shifted : ℕ → List (ℕ × ℕ) → List (ℕ × ℕ)
shifted n ps = map (λ p. (n + p.0, n + p.1)) ps

around_shifted : (cs : List ℕ) (n a b : ℕ) (ps : List (ℕ × ℕ)) → b ≡ n + a → around cs b (shifted n ps) ≡ around (drop n cs) a ps
around_shifted cs n a b [] e = ap (λ k. drop k cs ∷ []) e ∙ ap (λ l. l ∷ []) (sym (drop-drop a n cs))
around_shifted cs n a b (p ∷ ps) e =
    let count : (n + p.0) - b ≡ p.0 - a = omega arith in
    let piece : slice_range cs b (n + p.0) ≡ slice_range (drop n cs) a p.0 =
    ap (λ j. take j (drop b cs)) count ∙ ap (λ k. take (p.0 - a) (drop k cs)) e ∙ ap (take (p.0 - a)) (sym (drop-drop a n cs)) in
    ap (λ l. l ∷ around cs (n + p.1) (shifted n ps)) piece ∙ ap (λ ls. slice_range (drop n cs) a p.0 ∷ ls) (around_shifted cs n p.1 (n + p.1) ps refl)

same_order : (b i a k : ℕ) → (b ≤ i → a ≤ k) → (i < b → k < a) → nat_le b i ≡ nat_le a k
same_order b i a k up down = at (nat_le b i) refl
  where
    at : (t : Bool) → nat_le b i ≡ t → nat_le b i ≡ nat_le a k
    at true e = e ∙ sym (le-leb a k (up (leb-true b i e)))
    at false e = e ∙ sym (lt-leb a k (down (leb-false b i e)))

next_shifted : (cs part : List ℕ) (n a b i k : ℕ) → b ≡ n + a → i ≡ n + k → is_next cs part b i ≡ is_next (drop n cs) part a k
next_shifted cs part n a b i k e f =
    let up : b ≤ i → a ≤ k = λ h. omega arith in
    let down : i < b → k < a = λ h. omega arith in
    let order : nat_le b i ≡ nat_le a k = same_order b i a k up down in
    let rest : i - n ≡ k = omega arith in
    ap (λ t. t && stands_at cs part i) order ∙ ap (λ t. nat_le a k && t) (stands_behind cs part n i (omega arith) ∙ ap (stands_at (drop n cs) part) rest)

-- one more offset, if the spans from the next one on are shifted
spans_step : (cs part : List ℕ) (j n a b i k : ℕ) → b ≡ n + a → i ≡ n + k
    → spans_among cs part (i + length part) (range_with_len (i + 1) j) ≡ shifted n (spans_among (drop n cs) part (k + length part) (range_with_len (k + 1) j))
    → spans_among cs part b (range_with_len (i + 1) j) ≡ shifted n (spans_among (drop n cs) part a (range_with_len (k + 1) j))
    → spans_among cs part b (range_with_len i (suc j)) ≡ shifted n (spans_among (drop n cs) part a (range_with_len k (suc j)))
spans_step cs part j n a b i k e f taken skipped = at (is_next (drop n cs) part a k) refl
  where
    at : (t : Bool) → is_next (drop n cs) part a k ≡ t → spans_among cs part b (range_with_len i (suc j)) ≡ shifted n (spans_among (drop n cs) part a (range_with_len k (suc j)))
    at true h =
        let ends : i + length part ≡ n + (k + length part) = omega arith in
        ap (λ t. cond t ((i, i + length part) ∷ spans_among cs part (i + length part) (range_with_len (i + 1) j)) (spans_among cs part b (range_with_len (i + 1) j))) (next_shifted cs part n a b i k e f ∙ h)
        ∙ ap (λ x. (x, i + length part) ∷ spans_among cs part (i + length part) (range_with_len (i + 1) j)) f
        ∙ ap (λ x. (n + k, x) ∷ spans_among cs part (i + length part) (range_with_len (i + 1) j)) ends
        ∙ ap (λ ps. (n + k, n + (k + length part)) ∷ ps) taken
        ∙ sym (ap (λ t. shifted n (cond t ((k, k + length part) ∷ spans_among (drop n cs) part (k + length part) (range_with_len (k + 1) j)) (spans_among (drop n cs) part a (range_with_len (k + 1) j)))) h)
    at false h =
        ap (λ t. cond t ((i, i + length part) ∷ spans_among cs part (i + length part) (range_with_len (i + 1) j)) (spans_among cs part b (range_with_len (i + 1) j))) (next_shifted cs part n a b i k e f ∙ h)
        ∙ skipped
        ∙ sym (ap (λ t. shifted n (cond t ((k, k + length part) ∷ spans_among (drop n cs) part (k + length part) (range_with_len (k + 1) j)) (spans_among (drop n cs) part a (range_with_len (k + 1) j)))) h)

spans_shifted : (cs part : List ℕ) (j n a b i k : ℕ) → b ≡ n + a → i ≡ n + k → spans_among cs part b (range_with_len i j) ≡ shifted n (spans_among (drop n cs) part a (range_with_len k j))
spans_shifted cs part zero n a b i k e f = refl
spans_shifted cs part (suc j) n a b i k e f =
    let ends : i + length part ≡ n + (k + length part) = omega arith in
    let next : i + 1 ≡ n + (k + 1) = omega arith in
    spans_step cs part j n a b i k e f (spans_shifted cs part j n (k + length part) (i + length part) (i + 1) (k + 1) ends next) (spans_shifted cs part j n a b (i + 1) (k + 1) e next)

left_shifted : (limit : Option ℕ) (m n : ℕ) (ps : List (ℕ × ℕ)) → left_of limit m (shifted n ps) ≡ shifted n (left_of limit m ps)
left_shifted None m n ps = refl
left_shifted (Some l) m n ps = take-map (λ p. (n + p.0, n + p.1)) (l - m) ps

-- offsets at which no separator begins are passed over
spans_skip : (cs part : List ℕ) (j r end k m : ℕ) → m ≡ k + j → ((i : ℕ) → k ≤ i → i < m → is_next cs part end i ≡ false) → spans_among cs part end (range_with_len k (j + r)) ≡ spans_among cs part end (range_with_len m r)
spans_skip cs part zero r end k m e none =
    let same : k ≡ m = omega arith in
    let count : 0 + r ≡ r = omega arith in
    ap (λ x. spans_among cs part end (range_with_len k x)) count ∙ ap (λ x. spans_among cs part end (range_with_len x r)) same
spans_skip cs part (suc j) r end k m e none =
    let count : suc j + r ≡ suc (j + r) = omega arith in
    ap (λ x. spans_among cs part end (range_with_len k x)) count
    ∙ ap (λ t. cond t ((k, k + length part) ∷ spans_among cs part (k + length part) (range_with_len (k + 1) (j + r))) (spans_among cs part end (range_with_len (k + 1) (j + r)))) (none k (omega arith) (omega arith))
    ∙ spans_skip cs part j r end (k + 1) m (omega arith) (λ i from lt. none i (omega arith) lt)

-- ---- the limit on separators

left_more : (limit : Option ℕ) (m : ℕ) (p : ℕ × ℕ) (ps : List (ℕ × ℕ)) → has_room limit m ≡ true → left_of limit m (p ∷ ps) ≡ p ∷ left_of limit (m + 1) ps
left_more None m p ps h = refl
left_more (Some n) m p ps h =
    let lt : m < n = ltb-true m n h in
    let e : n - m ≡ suc (n - (m + 1)) = omega arith in
    ap (λ j. take j (p ∷ ps)) e

left_full : (limit : Option ℕ) (m : ℕ) (ps : List (ℕ × ℕ)) → has_room limit m ≡ false → left_of limit m ps ≡ []
left_full None m ps h = absurd (true≢false h)
left_full (Some n) m ps h =
    let le : n ≤ m = ltb-false m n h in
    let e : n - m ≡ 0 = omega arith in
    ap (λ j. take j ps) e

left_none : (limit : Option ℕ) (m : ℕ) (ps : List (ℕ × ℕ)) → ps ≡ [] → left_of limit m ps ≡ []
left_none None m ps h = h
left_none (Some n) m ps h = ap (take (n - m)) h ∙ take_all (n - m) [] (omega arith)

left_start : (limit : Option ℕ) (ps : List (ℕ × ℕ)) → left_of limit 0 ps ≡ first_of limit ps
left_start None ps = refl
left_start (Some n) ps = let e : n - 0 ≡ n = omega arith in ap (λ j. take j ps) e

-- ---- one separator after another

abbrev texts_around : List ℕ → List (ℕ × ℕ) → List (List ℕ)
texts_around cs ps = map encode_utf8_all (around cs 0 ps)

-- the limit is reached
pub cut_full : (cs part : List ℕ) (limit : Option ℕ) (m : ℕ) → has_room limit m ≡ false → pieces_behind cs part limit m ≡ encode_utf8_all cs ∷ []
cut_full cs part limit m h = ap (texts_around cs) (left_full limit m (spans_among cs part 0 (range_with_len (characters_passed part m) (suc (length cs) - characters_passed part m))) h)

passed_start : (part : List ℕ) → characters_passed part 0 ≡ 0
passed_start [] = refl
passed_start (c ∷ part) = refl

-- at the start all pieces are still to come
pub cut_begun : (cs part : List ℕ) (limit : Option ℕ) → pieces_behind cs part limit 0 ≡ pieces cs part limit
cut_begun cs part limit =
    ap (λ n. texts_around cs (left_of limit 0 (spans_among cs part 0 (range_with_len n (suc (length cs) - n))))) (passed_start part)
    ∙ ap (λ n. texts_around cs (left_of limit 0 (spans_among cs part 0 (range_with_len 0 n)))) (let e : suc (length cs) - 0 ≡ suc (length cs) = omega arith in e)
    ∙ ap (texts_around cs) (left_start limit (spans_among cs part 0 (range_with_len 0 (suc (length cs)))))

-- no separator is left
pub cut_ended : (cs part : List ℕ) (limit : Option ℕ) (m : ℕ) → StandsNowhere (characters_passed part m) cs part → pieces_behind cs part limit m ≡ encode_utf8_all cs ∷ []
cut_ended cs part limit m none =
    let n = characters_passed part m in
    let j = suc (length cs) - n in
    let count : j ≡ j + 0 = omega arith in
    let no_spans : spans_among cs part 0 (range_with_len n j) ≡ [] =
    ap (λ x. spans_among cs part 0 (range_with_len n x)) count
    ∙ spans_skip cs part j 0 0 n (n + j) refl (λ i from lt. and_right (nat_le 0 i) (stands_at cs part i) (none i from (omega arith))) in
    ap (texts_around cs) (left_none limit m (spans_among cs part 0 (range_with_len n j)) no_spans)

passed_next : (part : List ℕ) (m : ℕ) → characters_passed part (m + 1) ≡ 1 - length part
passed_next [] m = ap (characters_passed []) (add-one m)
passed_next (c ∷ part) m = omega arith

-- the spans after the first separator
spans_first : (cs part before behind : List ℕ) (n m : ℕ) → StandsFirst n cs part before behind
    → spans_among cs part 0 (range_with_len n (suc (length cs) - n))
    ≡ (length before, length before + length part) ∷ shifted (length before + length part) (spans_among behind part 0 (range_with_len (characters_passed part (m + 1)) (suc (length behind) - characters_passed part (m + 1))))
spans_first cs part before behind n m h =
    let q = length before in
    let e = q + length part in
    let more = characters_passed part (m + 1) in
    let few : more ≡ 1 - length part = passed_next part m in
    let long : length cs ≡ q + (length part + length behind) = omega (arith, ap length h.0, length-append before (part ++ behind), length-append part behind) in
    let rest : drop e cs ≡ behind = ap (drop e) h.0 ∙ sym (drop-drop (length part) q (before ++ (part ++ behind))) ∙ ap (drop (length part)) (drop_at before (part ++ behind) q refl) ∙ drop_at part behind (length part) refl in
    let first : n ≤ q = h.1 in
    let count : suc (length cs) - n ≡ (q - n) + suc (length cs - q) = omega arith in
    let here : is_next cs part 0 q ≡ true = and_from (nat_le 0 q) (stands_at cs part q) (le-leb 0 q (omega arith)) (stands_between cs part before behind h.0) in
    let later : length cs - q ≡ ((e + more) - (q + 1)) + (suc (length behind) - more) = omega arith in
    ap (λ x. spans_among cs part 0 (range_with_len n x)) count
    ∙ spans_skip cs part (q - n) (suc (length cs - q)) 0 n q (omega arith) (λ i from lt. and_right (nat_le 0 i) (stands_at cs part i) (h.2 i from lt))
    ∙ ap (λ t. cond t ((q, e) ∷ spans_among cs part e (range_with_len (q + 1) (length cs - q))) (spans_among cs part 0 (range_with_len (q + 1) (length cs - q)))) here
    ∙ ap (λ x. (q, e) ∷ spans_among cs part e (range_with_len (q + 1) x)) later
    ∙ ap (λ ps. (q, e) ∷ ps)
    (spans_skip cs part ((e + more) - (q + 1)) (suc (length behind) - more) e (q + 1) (e + more) (omega arith) (λ i from lt. and_left (nat_le e i) (stands_at cs part i) (lt-leb e i (omega arith)))
    ∙ spans_shifted cs part (suc (length behind) - more) e 0 e (e + more) more (omega arith) refl
    ∙ ap (λ l. shifted e (spans_among l part 0 (range_with_len more (suc (length behind) - more)))) rest)

-- one more cut, if the limit allows it
pub cut_made : (cs part before behind : List ℕ) (limit : Option ℕ) (m : ℕ) → has_room limit m ≡ true → StandsFirst (characters_passed part m) cs part before behind
    → pieces_behind cs part limit m ≡ encode_utf8_all before ∷ pieces_behind behind part limit (m + 1)
cut_made cs part before behind limit m room h =
    let q = length before in
    let e = q + length part in
    let ps = spans_among behind part 0 (range_with_len (characters_passed part (m + 1)) (suc (length behind) - characters_passed part (m + 1))) in
    let rest : drop e cs ≡ behind = ap (drop e) h.0 ∙ sym (drop-drop (length part) q (before ++ (part ++ behind))) ∙ ap (drop (length part)) (drop_at before (part ++ behind) q refl) ∙ drop_at part behind (length part) refl in
    let count : q - 0 ≡ q = omega arith in
    let front : slice_range cs 0 q ≡ before = ap (λ j. take j cs) count ∙ ap (take q) h.0 ∙ take_at before (part ++ behind) q refl in
    ap (λ l. texts_around cs (left_of limit m l)) (spans_first cs part before behind (characters_passed part m) m h)
    ∙ ap (texts_around cs) (left_more limit m (q, e) (shifted e ps) room)
    ∙ ap (λ t. encode_utf8_all t ∷ map encode_utf8_all (around cs e (left_of limit (m + 1) (shifted e ps)))) front
    ∙ ap (λ l. encode_utf8_all before ∷ map encode_utf8_all (around cs e l)) (left_shifted limit (m + 1) e ps)
    ∙ ap (λ ls. encode_utf8_all before ∷ map encode_utf8_all ls) (around_shifted cs e 0 e (left_of limit (m + 1) ps) (omega arith) ∙ ap (λ l. around l 0 (left_of limit (m + 1) ps)) rest)

-- ---- the next piece of a text

pub piece_next : (text ps : List ℕ) (limit : Option ℕ) (m : ℕ) (r : Option (Bor (List ℕ) × Bor (List ℕ))) → IsUtf8 text → has_room limit m ≡ true
    → MatchOption r (StandsNowhere (characters_passed ps m) (chars text) ps) (λ p. StandsFirst (characters_passed ps m) (chars text) ps (chars p.0.now) (chars p.1.now)) → IfSome r (λ p. IsUtf8 p.0.now)
    → MatchOption r (pieces_behind (chars text) ps limit m ≡ text ∷ []) (λ p. pieces_behind (chars text) ps limit m ≡ p.0.now ∷ pieces_behind (chars p.1.now) ps limit (m + 1))
piece_next text ps limit m None u room h t = cut_ended (chars text) ps limit m h ∙ ap (λ l. l ∷ []) (encodes-chars text u)
piece_next text ps limit m (Some p) u room h t =
    cut_made (chars text) ps (chars p.0.now) (chars p.1.now) limit m room h ∙ ap (λ l. l ∷ pieces_behind (chars p.1.now) ps limit (m + 1)) (encodes-chars p.0.now t)

pub piece_last : (text ps : List ℕ) (limit : Option ℕ) (m : ℕ) → IsUtf8 text → has_room limit m ≡ false → pieces_behind (chars text) ps limit m ≡ text ∷ []
piece_last text ps limit m u full = cut_full (chars text) ps limit m full ∙ ap (λ l. l ∷ []) (encodes-chars text u)

passed_covers : (ps : List ℕ) (m : ℕ) → min m 1 ≤ characters_passed ps m + length ps
passed_covers [] zero = omega arith
passed_covers [] (suc m) = omega arith
passed_covers (c ∷ ps) m = omega arith

pub piece_shorter : (cs ps : List ℕ) (m : ℕ) (r : Option (Bor (List ℕ) × Bor (List ℕ)))
    → MatchOption r (StandsNowhere (characters_passed ps m) cs ps) (λ p. StandsFirst (characters_passed ps m) cs ps (chars p.0.now) (chars p.1.now)) → IfSome r (λ p. length (chars p.1.now) + min m 1 ≤ length cs)
piece_shorter cs ps m None h = tt
piece_shorter cs ps m (Some p) h =
    let first : characters_passed ps m ≤ length (chars p.0.now) = h.1 in
    omega (arith, passed_covers ps m, ap length h.0, length-append (chars p.0.now) (ps ++ chars p.1.now), length-append ps (chars p.1.now))

-- an empty separator occurs one character further on
pub next_of_none : (cs ps : List ℕ) (m : ℕ) (r : Option (Bor (List ℕ) × Bor (List ℕ))) → ps ≡ [] → 0 < m → option_map (λ p. (chars p.0.now, chars p.1.now)) r ≡ around_offset cs 1
    → MatchOption r (StandsNowhere (characters_passed ps m) cs ps) (λ p. StandsFirst (characters_passed ps m) cs ps (chars p.0.now) (chars p.1.now))
next_of_none cs ps m r none some h = subst (λ n. MatchOption r (StandsNowhere n cs ps) (λ p. StandsFirst n cs ps (chars p.0.now) (chars p.1.now))) (sym (once ps m none some)) (at r h)
  where
    once : (ps : List ℕ) (m : ℕ) → ps ≡ [] → 0 < m → characters_passed ps m ≡ 1
    once [] zero e some = absurd (omega arith)
    once [] (suc m) e some = refl
    once (c ∷ ps) m e some = absurd (cc)

    at : (r : Option (Bor (List ℕ) × Bor (List ℕ))) → option_map (λ p. (chars p.0.now, chars p.1.now)) r ≡ around_offset cs 1 → MatchOption r (StandsNowhere 1 cs ps) (λ p. StandsFirst 1 cs ps (chars p.0.now) (chars p.1.now))
    at None e = let short = none_around cs 1 e in λ k from le. absurd (omega (arith, short))
    at (Some p) e =
        let around = is_around cs (chars p.0.now) (chars p.1.now) 1 e in
        let one : length (chars p.0.now) ≡ 1 = ap length around.1 ∙ length-take-le 1 cs around.0 in
        let whole : cs ≡ chars p.0.now ++ (ps ++ chars p.1.now) =
        sym (take-append-drop 1 cs) ∙ ap (λ l. l ++ drop 1 cs) (sym around.1) ∙ ap (λ l. chars p.0.now ++ l) (sym around.2) ∙ ap (λ l. chars p.0.now ++ (l ++ chars p.1.now)) (sym none) in
        (whole, omega arith, λ k from lt. absurd (omega arith))

pub next_of_other : (cs ps : List ℕ) (m : ℕ) (r : Option (Bor (List ℕ) × Bor (List ℕ))) → characters_passed ps m ≡ 0 → MatchOption r (StandsNowhere 0 cs ps) (λ p. StandsFirst 0 cs ps (chars p.0.now) (chars p.1.now))
    → MatchOption r (StandsNowhere (characters_passed ps m) cs ps) (λ p. StandsFirst (characters_passed ps m) cs ps (chars p.0.now) (chars p.1.now))
next_of_other cs ps m r e h = subst (λ n. MatchOption r (StandsNowhere n cs ps) (λ p. StandsFirst n cs ps (chars p.0.now) (chars p.1.now))) (sym e) h

pub passed_some : (ps : List ℕ) (m : ℕ) → 0 < length ps → characters_passed ps m ≡ 0
passed_some [] m some = absurd (omega arith)
passed_some (c ∷ ps) m some = refl

pub passed_first : (ps : List ℕ) (m : ℕ) → m ≡ 0 → characters_passed ps m ≡ 0
passed_first ps m e = ap (characters_passed ps) e ∙ passed_start ps

-- ---- the pieces found so far, and the remaining ones

pub pieces_begun : (cs ps : List ℕ) (limit : Option ℕ) (made : List (Bor (List ℕ))) → made ≡ [] → map (λ s. s.now) made ++ pieces_behind cs ps limit (length made) ≡ pieces cs ps limit
pieces_begun cs ps limit made e = ap (λ ss. map (λ s. s.now) ss ++ pieces_behind cs ps limit (length ss)) e ∙ cut_begun cs ps limit

pub pieces_more : (cs ds ps : List ℕ) (limit : Option ℕ) (old new : List (Bor (List ℕ))) (piece : Bor (List ℕ)) (n : ℕ) → n ≡ length old → new ≡ old ++ piece ∷ []
    → pieces_behind cs ps limit n ≡ piece.now ∷ pieces_behind ds ps limit (n + 1) → map (λ s. s.now) new ++ pieces_behind ds ps limit (length new) ≡ map (λ s. s.now) old ++ pieces_behind cs ps limit (length old)
pieces_more cs ds ps limit old new piece n e pushed cut =
    ap (λ ss. map (λ s. s.now) ss ++ pieces_behind ds ps limit (length ss)) pushed
    ∙ ap (λ k. map (λ s. s.now) (old ++ piece ∷ []) ++ pieces_behind ds ps limit k) (length_push old piece)
    ∙ ap (λ ts. ts ++ pieces_behind ds ps limit (length old + 1)) (map_push (λ s. s.now) old piece)
    ∙ append_assoc (map (λ s. s.now) old) (piece.now ∷ []) (pieces_behind ds ps limit (length old + 1))
    ∙ ap (λ ts. map (λ s. s.now) old ++ ts) (ap (λ k. piece.now ∷ pieces_behind ds ps limit (k + 1)) (sym e) ∙ sym cut ∙ ap (pieces_behind cs ps limit) e)

pub fewer : (a b n m : ℕ) → a + min n 1 ≤ b → m ≡ n + 1 → a + (1 - m) < b + (1 - n)
fewer a b n m h e = omega arith
