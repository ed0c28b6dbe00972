-- A text read one byte at a time.
use Rattle.kubecel_io.specs.Documents.{IsAt, IsFirstRefused, all_read, before, depth_after, documents, ends, is_space, read_document, with_documents, with_piece, mode_after, pieces}
use Rattle.kubecel_io.specs.Faults.{IsFault, IsKindOf}
use Rattle.kubecel_io.specs.declared.cut.Mode.{Mode}
use Rattle.kubecel_io.specs.declared.cut.Mode.TheVariants.{Outside, Within, Escaped}
use Rattle.kubecel_io.specs.declared.documents.Reading.{Reading}
use Rattle.kubecel_io.specs.declared.fault.Fault.{Fault}
use Rattle.kubecel_io.specs.declared.fault.FaultKind.{FaultKind}
use Rattle.serde_json.specs.Data.{Data}
use Rattle.serde_json.specs.View.{view}
use Rattle.std.proofs.Common.{◌≡◌, ℕ, suc, ◌+◌, ◌-◌, ◌<◌, ◌≤◌, ◌⊎◌, inl, inr, List, [], ◌∷◌, ◌++◌, append-nil, append_assoc, drop, drop-cons, get_or, length, length-append, length-drop, map, take, Bool, true, false, if◌then◌else◌, Option, Some, None, option_and_then, Result, Ok, Err, IfErr, IfOk, OnOk, refl, sym, ap, subst, arith, ◌∙◌}
use Rattle.std.proofs.lemmas.List.{drop_at, get_or_at, length-take-le, take_at}
use Rattle.std.proofs.lemmas.Str.{IsCharBoundary-after_ascii, IsUtf8-drop, IsUtf8-take}
use Rattle.std.specs.List.{list_all}
use Rattle.std.specs.Str.{IsCharBoundary, IsUtf8}

-- a byte after which a document ends
pub byte_ends : (m : Mode) (d : ℕ) (p : List ℕ) (x : ℕ) (xs : List ℕ) → ends m d x ≡ true → pieces m d p (x ∷ xs) ≡ with_piece (p ++ x ∷ []) (pieces Outside 0 [] xs)
unfolding pieces
byte_ends m d p x xs e = rw e refl

-- a byte after which the document continues
pub byte_goes : (m : Mode) (d : ℕ) (p : List ℕ) (x : ℕ) (xs : List ℕ) → ends m d x ≡ false
    → pieces m d p (x ∷ xs) ≡ pieces (mode_after m x) (depth_after m d x) (p ++ x ∷ []) xs
unfolding pieces
byte_goes m d p x xs e = rw e refl

pub none_left : (m : Mode) (d : ℕ) (p : List ℕ) → pieces m d p [] ≡ with_piece p []
unfolding pieces
none_left m d p = refl

pub if_both : {E F : Type 0} (P Q R : Type 0) (r : Result (Result (Unit {0}) E) F) → (P → Q → R) → IfOk r (λ s. OnOk s P) → IfOk r (λ s. OnOk s Q) → IfOk r (λ s. OnOk s R)
if_both P Q R (Ok (Ok u)) f p q = f p q
if_both P Q R (Ok (Err e)) f p q = tt
if_both P Q R (Err e) f p q = tt

pub if_refused : {E F : Type 0} (P R : E → Type 0) (r : Result (Result (Unit {0}) E) F) → ((e : E) → P e → R e) → IfOk r (λ s. IfErr s P) → IfOk r (λ s. IfErr s R)
if_refused P R (Ok (Ok u)) f p = tt
if_refused P R (Ok (Err e)) f p = f e p
if_refused P R (Err e) f p = tt

pub none_before : (ds : Option (List Data)) → with_documents [] ds ≡ ds
none_before None = refl
none_before (Some ds) = refl

append_nil : (ds : List Data) → ds ++ [] ≡ ds
append_nil [] = refl
append_nil (d ∷ ds) = ap (λ es. d ∷ es) (append_nil ds)

pub none_behind : (ds : List Data) → with_documents ds (Some []) ≡ Some ds
none_behind ds = ap Some (append_nil ds)

-- ---- the values of concatenated texts

-- the values of some texts, followed by those of others
abbrev joined : Option (List Data) → Option (List Data) → Option (List Data)
joined xs ys = option_and_then (λ ds. with_documents ds ys) xs

joined_before : (d : Option Data) (xs ys : Option (List Data)) → before d (joined xs ys) ≡ joined (before d xs) ys
joined_before None xs ys = refl
joined_before (Some d) None ys = refl
joined_before (Some d) (Some ds) None = refl
joined_before (Some d) (Some ds) (Some es) = refl

joined_none : (xs : Option (List Data)) → joined xs None ≡ None
joined_none None = refl
joined_none (Some ds) = refl

all_behind : (ps qs : List (List ℕ)) → all_read (ps ++ qs) ≡ joined (all_read ps) (all_read qs)
all_behind [] qs = sym (none_before (all_read qs))
all_behind (p ∷ ps) qs = ap (before (read_document p)) (all_behind ps qs) ∙ joined_before (read_document p) (all_read ps) (all_read qs)

-- a text with a first refused document has no list of documents
pub none_read : (text b d e : List ℕ) → IsFirstRefused text b d e → documents text ≡ None
none_read text b d e first =
    let rest = all_read (pieces Outside 0 [] e) in
    ap all_read first.cut ∙ all_behind (pieces Outside 0 [] b) (d ∷ pieces Outside 0 [] e)
    ∙ ap (λ r. joined (documents b) (before r rest)) first.refused ∙ joined_none (documents b)

-- ---- pieces

no_pieces : pieces Outside 0 [] [] ≡ []
unfolding pieces
no_pieces = refl

piece_if : (b : Bool) (p : List ℕ) (qs : List (List ℕ)) → (if b then [] else p ∷ []) ++ qs ≡ (if b then qs else p ∷ qs)
piece_if true p qs = refl
piece_if false p qs = refl

piece_before : (p : List ℕ) (qs : List (List ℕ)) → with_piece p [] ++ qs ≡ with_piece p qs
piece_before p qs = piece_if (list_all is_space p) p qs

piece_kept : (p : List ℕ) (qs : List (List ℕ)) → list_all is_space p ≡ false → with_piece p qs ≡ p ∷ qs
piece_kept p qs filled = rw filled refl

shifted : (p q : List ℕ) (x : ℕ) (xs : List ℕ) → q ≡ p ++ x ∷ [] → p ++ x ∷ xs ≡ q ++ xs
shifted p q x xs e = sym (ap (λ r. r ++ xs) e ∙ append_assoc p (x ∷ []) xs)

-- ---- whole characters

-- a document ends with an ASCII character
pub ends_ascii : (m : Mode) (d : ℕ) (x : ℕ) → ends m d x ≡ true → x < 128
ends_ascii Outside d x e = grind (arith, e)
ends_ascii Within d x e = absurd cc
ends_ascii Escaped d x e = absurd cc

-- a text may be cut after an ASCII character
cut_behind : (p : List ℕ) (x : ℕ) (xs : List ℕ) → x < 128 → IsUtf8 (p ++ x ∷ xs) → IsCharBoundary (p ++ x ∷ xs) (length p + 1)
cut_behind p x xs ascii whole =
    let at : get_or (p ++ x ∷ xs) (length p) 0 ≡ x = get_or_at p x xs 0 (length p) refl in
    let below : length p < length (p ++ x ∷ xs) = rw (length-append p (x ∷ xs)) (omega arith) in
    IsCharBoundary-after_ascii (p ++ x ∷ xs) (length p) whole below (rw at ascii)

-- so both parts consist of whole characters
pub whole_before : (p : List ℕ) (x : ℕ) (xs : List ℕ) → x < 128 → IsUtf8 (p ++ x ∷ xs) → IsUtf8 (p ++ x ∷ [])
whole_before p x xs ascii whole =
    let first : take (length p + 1) (p ++ x ∷ xs) ≡ p ++ x ∷ [] =
    ap (take (length p + 1)) (sym (append_assoc p (x ∷ []) xs)) ∙ take_at (p ++ x ∷ []) xs (length p + 1) (length-append p (x ∷ [])) in
    subst IsUtf8 first (IsUtf8-take (p ++ x ∷ xs) (length p + 1) whole (cut_behind p x xs ascii whole))

pub whole_behind : (p : List ℕ) (x : ℕ) (xs : List ℕ) → x < 128 → IsUtf8 (p ++ x ∷ xs) → IsUtf8 xs
whole_behind p x xs ascii whole =
    let last : drop (length p + 1) (p ++ x ∷ xs) ≡ xs =
    ap (drop (length p + 1)) (sym (append_assoc p (x ∷ []) xs)) ∙ drop_at (p ++ x ∷ []) xs (length p + 1) (length-append p (x ∷ [])) in
    subst IsUtf8 last (IsUtf8-drop (p ++ x ∷ xs) (length p + 1) whole (cut_behind p x xs ascii whole))

-- ---- a reader's place

pub at_begin : (text : List ℕ) (r : Reading) → r.mode ≡ Outside → r.depth ≡ 0 → r.piece.now ≡ [] → r.found.items ≡ [] → IsUtf8 text → IsAt text r text
at_begin text r mode depth piece found whole = record {
  before = [];
  whole = sym (ap (λ p. p ++ text) piece);
  cut = λ xs. rw (mode, depth, piece, no_pieces) refl;
  values = rw (found, no_pieces) refl;
  characters = rw piece whole;
}

-- the document continues after this byte
pub at_goes : (text : List ℕ) (r s : Reading) (x : ℕ) (rest : List ℕ) → ends r.mode r.depth x ≡ false → s.mode ≡ mode_after r.mode x → s.depth ≡ depth_after r.mode r.depth x
    → s.piece.now ≡ r.piece.now ++ x ∷ [] → s.found ≡ r.found → IsAt text r (x ∷ rest) → IsAt text s rest
at_goes text r s x rest goes mode depth piece found at = record {
  before = at.before;
  whole = at.whole ∙ ap (λ ys. at.before ++ ys) (shifted r.piece.now s.piece.now x rest piece);
  cut = λ xs. ap (λ ys. pieces Outside 0 [] (at.before ++ ys)) (sym (shifted r.piece.now s.piece.now x xs piece)) ∙ at.cut (x ∷ xs)
      ∙ ap (λ ps. pieces Outside 0 [] at.before ++ ps) (byte_goes r.mode r.depth r.piece.now x xs goes ∙ sym (rw (mode, depth, piece) refl));
  values = at.values ∙ ap (λ vs. Some (map view vs.items)) (sym found);
  characters = subst IsUtf8 (shifted r.piece.now s.piece.now x rest piece) at.characters;
}

-- the document ends after this byte
cut_off : (text : List ℕ) (r : Reading) (p : List ℕ) (x : ℕ) (rest xs : List ℕ) → ends r.mode r.depth x ≡ true → p ≡ r.piece.now ++ x ∷ [] → (at : IsAt text r (x ∷ rest))
    → pieces Outside 0 [] (at.before ++ (p ++ xs)) ≡ pieces Outside 0 [] at.before ++ with_piece p (pieces Outside 0 [] xs)
cut_off text r p x rest xs ended piece at =
    let next = pieces Outside 0 [] xs in
    ap (λ ys. pieces Outside 0 [] (at.before ++ ys)) (sym (shifted r.piece.now p x xs piece)) ∙ at.cut (x ∷ xs)
    ∙ ap (λ ps. pieces Outside 0 [] at.before ++ ps) (byte_ends r.mode r.depth r.piece.now x xs ended ∙ ap (λ q. with_piece q next) (sym piece))

cut_here : (text : List ℕ) (r : Reading) (p : List ℕ) (x : ℕ) (rest : List ℕ) → ends r.mode r.depth x ≡ true → p ≡ r.piece.now ++ x ∷ [] → (at : IsAt text r (x ∷ rest))
    → pieces Outside 0 [] (at.before ++ p) ≡ pieces Outside 0 [] at.before ++ with_piece p []
cut_here text r p x rest ended piece at =
    ap (λ q. pieces Outside 0 [] (at.before ++ q)) (sym (append-nil p)) ∙ cut_off text r p x rest [] ended piece at
    ∙ ap (λ qs. pieces Outside 0 [] at.before ++ with_piece p qs) no_pieces

-- the document was read, and the next one begins
pub at_ended : (text : List ℕ) (r s : Reading) (p : List ℕ) (x : ℕ) (rest : List ℕ) → ends r.mode r.depth x ≡ true → p ≡ r.piece.now ++ x ∷ []
    → ((rest : List (List ℕ)) → with_documents (map view r.found.items) (all_read (with_piece p rest)) ≡ with_documents (map view s.found.items) (all_read rest))
    → (s.mode ≡ Outside) × (s.depth ≡ 0) × (s.piece.now ≡ []) → IsAt text r (x ∷ rest) → IsAt text s rest
at_ended text r s p x rest ended piece read begun at =
    let ps = pieces Outside 0 [] at.before in
    let here = cut_here text r p x rest ended piece at in record {
      before = at.before ++ p;
      whole = at.whole ∙ ap (λ ys. at.before ++ ys) (shifted r.piece.now p x rest piece) ∙ sym (append_assoc at.before p rest)
          ∙ ap (λ q. (at.before ++ p) ++ (q ++ rest)) (sym begun.2);
      cut = λ xs.
          let next = pieces Outside 0 [] xs in
          ap (λ q. pieces Outside 0 [] ((at.before ++ p) ++ (q ++ xs))) begun.2 ∙ ap (pieces Outside 0 []) (append_assoc at.before p xs)
          ∙ cut_off text r p x rest xs ended piece at ∙ ap (λ qs. ps ++ qs) (sym (piece_before p next)) ∙ sym (append_assoc ps (with_piece p []) next)
          ∙ ap (λ qs. qs ++ next) (sym here) ∙ ap (λ qs. pieces Outside 0 [] (at.before ++ p) ++ qs) (sym (rw (begun.0, begun.1, begun.2) refl));
      values = ap all_read here ∙ all_behind ps (with_piece p []) ∙ ap (λ vs. joined vs (all_read (with_piece p []))) at.values
          ∙ read [] ∙ none_behind (map view s.found.items);
      characters = subst (λ q. IsUtf8 (q ++ rest)) (sym begun.2) (whole_behind r.piece.now x rest (ends_ascii r.mode r.depth x ended) at.characters);
    }

-- the document is refused
pub at_refused : (text : List ℕ) (r : Reading) (p : List ℕ) (x : ℕ) (rest : List ℕ) (kind : FaultKind) → ends r.mode r.depth x ≡ true → p ≡ r.piece.now ++ x ∷ []
    → (list_all is_space p ≡ false) × (IsUtf8 p → (read_document p ≡ None) × (IsKindOf p kind)) → IsAt text r (x ∷ rest)
    → (b : List ℕ) × IsFirstRefused text b p rest × (IsKindOf p kind)
at_refused text r p x rest kind ended piece refused at =
    let whole = at.whole ∙ ap (λ ys. at.before ++ ys) (shifted r.piece.now p x rest piece) in
    let characters = whole_before r.piece.now x rest (ends_ascii r.mode r.depth x ended) at.characters in
    let why = refused.1 (subst IsUtf8 (sym piece) characters) in (
      at.before,
      record {
        whole = whole;
        cut = ap (pieces Outside 0 []) whole ∙ cut_off text r p x rest rest ended piece at
            ∙ ap (λ ps. pieces Outside 0 [] at.before ++ ps) (piece_kept p (pieces Outside 0 [] rest) refused.0);
        read_before = rw at.values refl;
        refused = why.0;
      },
      why.1,
    )

-- the text is at its end
cut_last : (text : List ℕ) (r : Reading) → (at : IsAt text r []) → pieces Outside 0 [] text ≡ pieces Outside 0 [] at.before ++ with_piece r.piece.now []
cut_last text r at =
    ap (pieces Outside 0 []) at.whole ∙ at.cut [] ∙ ap (λ ps. pieces Outside 0 [] at.before ++ ps) (none_left r.mode r.depth r.piece.now)

pub at_end : (text : List ℕ) (r s : Reading)
    → ((rest : List (List ℕ)) → with_documents (map view r.found.items) (all_read (with_piece r.piece.now rest)) ≡ with_documents (map view s.found.items) (all_read rest))
    → IsAt text r [] → documents text ≡ Some (map view s.found.items)
at_end text r s read at =
    let last = with_piece r.piece.now [] in
    ap all_read (cut_last text r at) ∙ all_behind (pieces Outside 0 [] at.before) last ∙ ap (λ vs. joined vs (all_read last)) at.values
    ∙ read [] ∙ none_behind (map view s.found.items)

pub at_end_refused : (text : List ℕ) (r : Reading) (kind : FaultKind)
    → (list_all is_space r.piece.now ≡ false) × (IsUtf8 r.piece.now → (read_document r.piece.now ≡ None) × (IsKindOf r.piece.now kind))
    → IsAt text r [] → (b : List ℕ) × IsFirstRefused text b r.piece.now [] × (IsKindOf r.piece.now kind)
at_end_refused text r kind refused at =
    let p = r.piece.now in
    let why = refused.1 (subst IsUtf8 (append-nil p) at.characters) in
    let ps = pieces Outside 0 [] at.before in (
      at.before,
      record {
        whole = at.whole;
        cut = cut_last text r at ∙ ap (λ qs. ps ++ qs) (piece_kept p [] refused.0) ∙ ap (λ qs. ps ++ p ∷ qs) (sym no_pieces);
        read_before = rw at.values refl;
        refused = why.0;
      },
      why.1,
    )

-- taking the next byte
pub at_next : (text bytes : List ℕ) (r : Reading) (i : ℕ) → i < length bytes → IsAt text r (drop i bytes) → IsAt text r (get_or bytes i 0 ∷ drop (i + 1) bytes)
at_next text bytes r i below at =
    let one : suc i ≡ i + 1 = omega arith in
    subst (IsAt text r) (drop-cons bytes i 0 below ∙ ap (λ n. get_or bytes i 0 ∷ drop n bytes) one) at

-- the piece after this byte is again the end of what was read
pub piece_next : (bytes p : List ℕ) (i n : ℕ) → n ≤ i → i < length bytes → (p ≡ take (i + 1 - (i - n)) (drop (i - n) bytes)) ⊎ (p ≡ [])
    → (length p ≤ i + 1) × (p ≡ take (length p) (drop (i + 1 - length p) bytes))
piece_next bytes p i n within below (inr e) = rw e (omega arith, refl)
piece_next bytes p i n within below (inl e) =
    let count : i + 1 - (i - n) ≤ length (drop (i - n) bytes) = omega (arith, length-drop (i - n) bytes) in
    let long : length p ≡ i + 1 - (i - n) = ap length e ∙ length-take-le (i + 1 - (i - n)) (drop (i - n) bytes) count in
    let from : i + 1 - length p ≡ i - n = omega (arith, long) in
    (omega (arith, long), e ∙ ap (λ m. take m (drop (i - n) bytes)) (sym long) ∙ ap (λ m. take (length p) (drop m bytes)) (sym from))

-- the offset where a refused document ends
pub ends_at : (text bytes b d : List ℕ) (n : ℕ) → IsFirstRefused text b d (drop n bytes) → n ≤ length bytes → length bytes ≡ length text → length b + length d ≡ n
ends_at text bytes b d n first below same =
    let long : length text ≡ length b + (length d + length (drop n bytes)) =
    ap length first.whole ∙ length-append b (d ++ drop n bytes) ∙ ap (λ m. length b + m) (length-append d (drop n bytes)) in
    omega (arith, long, length-drop n bytes, below, same)

pub ends_last : (text b d : List ℕ) → IsFirstRefused text b d [] → length b + length d ≡ length text
ends_last text b d first = sym (ap length first.whole ∙ length-append b (d ++ []) ∙ ap (λ xs. length b + length xs) (append-nil d))

-- the fault of a text is that of its bytes
pub same_fault : (text bytes b piece slice behind : List ℕ) (n : ℕ) (kind : FaultKind) (f : Fault) → IsFirstRefused text b piece behind → bytes ≡ text → slice ≡ piece
    → IsKindOf piece kind → length b + length piece ≡ n
    → ((c e : List ℕ) → IsFirstRefused bytes c slice e → IsKindOf slice kind → length c + length slice ≡ n → IsFault bytes f) → IsFault text f
same_fault text bytes b piece slice behind n kind f first same part why ends fault =
    let again = subst (λ t. IsFirstRefused t b slice behind) (sym same) (subst (λ d. IsFirstRefused text b d behind) (sym part) first) in
    subst (λ t. IsFault t f) same (fault b behind again (subst (λ d. IsKindOf d kind) (sym part) why) (subst (λ d. length b + length d ≡ n) (sym part) ends))
