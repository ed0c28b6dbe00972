-- How far a text is read.
use Rattle.std.proofs.Common.{◌≡◌, ◌∙◌, ℕ, ◌+◌, ◌-◌, ◌<◌, ◌≤◌, refl, sym, ap, subst, arith, inl, inr, Option, Some, None, Result, Ok, Err, List, [], ◌∷◌, ◌++◌, append-nil, length, drop, length-drop, drop-drop}
use Rattle.std.proofs.lemmas.List.Sums.{prefix_len-le-length}
use Rattle.cel_syntax_lexer.specs.Token.{token_of}
use Rattle.cel_syntax_lexer.specs.Tokens.{is_in_line}
use Rattle.cel_syntax_lexer.specs.declared.token.Token.{Token}
use Rattle.cel_syntax_lexer.proofs.First.{takes_some}
use Rattle.kube_server_lexer.specs.Pieces.{IsFirst}
use Rattle.kube_server_lexer.specs.declared.lexer.Piece.TheVariants as piece
use Rattle.kube_server_syntax.specs.Machine.{State, start, step, steps, end, tree_at_end}
use Rattle.kube_server_syntax.specs.Placed.{Placed}
use Rattle.kube_server_syntax.specs.Tree.{tree}
use Rattle.kube_server_syntax.proofs.Sound.{sound}
use Rattle.kube_server_parser.specs.Answers.{Fails, FailsAtEnd, Ends, Reads}
use Rattle.kube_server_parser.specs.Expects.{expected}
use Rattle.kube_server_parser.specs.Results.{Finishes, Steps}
use Rattle.kube_server_parser.specs.Texts as texts
use Rattle.kube_server_parser.specs.Texts.{CutsTo, GoesWrong, placed_at, error_at, no_token_at}
use Rattle.kube_server_parser.specs.Views.{mode_view, frames_of}
use Rattle.kube_server_parser.specs.declared.frame.Frame.{Frame}
use Rattle.kube_server_parser.specs.declared.mode.Mode.{Mode}
use Rattle.kube_server_parser.specs.declared.mode.Mode.TheVariants as mode
use Rattle.kube_server_parser.specs.declared.parser.Failure.{Failure}
use Rattle.kube_server_parser.specs.declared.parser.Failure.TheVariants as failure
use Rattle.kube_server_parser.specs.declared.part.Part.{Part}
use Rattle.kube_server_parser.specs.declared.stop.Stop.{Stop}
use Rattle.kube_server_parser.specs.declared.stop.Stop.TheVariants as stop
use Rattle.kube_server_parser.specs.declared.syntax_error.Problem.TheVariants as problem
use Rattle.kube_server_parser.specs.declared.syntax_error.SyntaxError.{SyntaxError}
use Rattle.kube_server_parser.proofs.Bounds.{part_within, state_within}
use Rattle.kube_server_parser.proofs.Cuts.{cut_more, cut_whole, steps_snoc}

-- The machine is in this state behind the first n bytes.
pub record Reading (z : List ℕ) (n : ℕ) (x : Mode) (fs : List Frame) : Type 0 where
  pub tokens : List Placed
  pub cuts : CutsTo 0 z tokens n (drop n z)
  pub taken : steps tokens start ≡ Some (mode_view x, frames_of fs)
  pub inside : n ≤ length z

drop_none : (z : List ℕ) → z ≡ drop 0 z
drop_none [] = refl
drop_none (b ∷ z) = refl

pub starts : (z : List ℕ) → Reading z 0 mode.Needs []
starts z = record { tokens = []; cuts = subst (λ y. CutsTo 0 z [] 0 y) (drop_none z) texts.here; taken = refl; inside = omega arith }

-- ---- blanks

pub blank_fits : (y : List ℕ) (k : ℕ) → IsFirst y (piece.Blank k) → k ≤ length y
blank_fits y k (inl h) = let g = prefix_len-le-length is_in_line y in let e = h.1 in omega arith
blank_fits [] k (inr h) = absurd (cc)
blank_fits (b ∷ y) k (inr h) = let e = h.1 in omega arith

pub blank_room : (z : List ℕ) (n k : ℕ) → n ≤ length z → IsFirst (drop n z) (piece.Blank k) → n + k ≤ length z
blank_room z n k i h = let g = blank_fits (drop n z) k h in let e = length-drop n z in omega arith

blank_cut : (n k : ℕ) (y : List ℕ) → IsFirst y (piece.Blank k) → CutsTo n y [] (n + k) (drop k y)
blank_cut n k y (inl h) = subst (λ i. CutsTo n y [] (n + i) (drop i y)) (sym h.1) (texts.comment h.0 texts.here)
blank_cut n k [] (inr h) = absurd (cc)
blank_cut n k (b ∷ y) (inr h) =
    subst (λ i. CutsTo n (b ∷ y) [] (n + i) (drop i (b ∷ y))) (sym h.1)
    (texts.space h.0 (subst (λ w. CutsTo (n + 1) y [] (n + 1) w) (drop_none y) texts.here))

pub blank : (z : List ℕ) (n k : ℕ) (x : Mode) (fs : List Frame) → Reading z n x fs → IsFirst (drop n z) (piece.Blank k) → Reading z (n + k) x fs
blank z n k x fs r h = record {
  tokens = r.tokens;
  cuts = subst (λ ts. CutsTo 0 z ts (n + k) (drop (n + k) z)) (append-nil r.tokens)
      (subst (λ y. CutsTo 0 z (r.tokens ++ []) (n + k) y) (drop-drop k n z) (cut_more r.cuts (blank_cut n k (drop n z) h)));
  taken = r.taken;
  inside = let g = blank_fits (drop n z) k h in let e = length-drop n z in let i = r.inside in omega arith;
}

-- ---- tokens

pub token_moves : (y : List ℕ) (k : ℕ) (t : Token) → IsFirst y (piece.Of t k) → 0 < k
token_moves y k t h = takes_some y k (token_of t) h.1

pub token_fits : (y : List ℕ) (k : ℕ) (t : Token) → IsFirst y (piece.Of t k) → k ≤ length y
token_fits y k t h = let l = h.1 in l.within

pub token : (z : List ℕ) (n k : ℕ) (t : Token) (x u : Mode) (fs gs : List Frame) → Reading z n x fs → IsFirst (drop n z) (piece.Of t k)
    → step (mode_view x) (frames_of fs) (placed_at n k (token_of t)) ≡ Some (mode_view u, frames_of gs) → Reading z (n + k) u gs
token z n k t x u fs gs r h e = record {
  tokens = r.tokens ++ placed_at n k (token_of t) ∷ [];
  cuts = subst (λ y. CutsTo 0 z (r.tokens ++ placed_at n k (token_of t) ∷ []) (n + k) y) (drop-drop k n z)
      (cut_more r.cuts (texts.token h.0.0 h.1 texts.here));
  taken = steps_snoc r.tokens (mode_view x, frames_of fs) (placed_at n k (token_of t)) r.taken ∙ e;
  inside = let g = token_fits (drop n z) k t h in let e = length-drop n z in let i = r.inside in omega arith;
}

reached : (z : List ℕ) (n : ℕ) (x : Mode) (fs : List Frame) → (r : Reading z n x fs) → texts.Reaches r.tokens (mode_view x, frames_of fs)
reached z n x fs r = (r.taken, state_within x fs)

stays_some : (o : Option State) → ((o ≡ None) → ⊥) → (s : State) × (o ≡ Some s)
stays_some None h = absurd (h refl)
stays_some (Some s) h = (s, refl)

pub wrong : (z : List ℕ) (n k : ℕ) (t : Token) (x : Mode) (fs gs : List Frame) (s : Stop) (f : Failure) → Reading z n x fs → IsFirst (drop n z) (piece.Of t k)
    → Steps (step (mode_view x) (frames_of fs) (placed_at n k (token_of t))) (expected (mode_view x) (frames_of fs)) (Err s) gs
    → Fails s (record { token = t; place = record { begin = n; end = n + k } }) f → Reads z (Err f)
wrong z n k t x fs gs stop.Memory f r h st e = subst (λ g. Reads z (Err g)) (sym e) tt
wrong z n k t x fs gs stop.TooDeep f r h st e =
    let a = stays_some (step (mode_view x) (frames_of fs) (placed_at n k (token_of t))) st.0 in
    subst (λ g. Reads z (Err g)) (sym e) (texts.deep_token r.cuts (reached z n x fs r) h.0 h.1 a.1 (st.1 a.0 a.1))
wrong z n k t x fs gs (stop.Unexpected i) f r h st e =
    subst (λ g. Reads z (Err g)) (sym e)
    (subst (λ j. GoesWrong z (error_at n (n + k) (texts.wrong_token_at j (token_of t)))) (sym st.1)
    (texts.wrong_token r.cuts (reached z n x fs r) h.0 h.1 st.0))

pub unknown : (z : List ℕ) (n : ℕ) (x : Mode) (fs : List Frame) → Reading z n x fs → n < length z → IsFirst (drop n z) piece.Unknown
    → GoesWrong z (error_at n n (no_token_at (drop n z)))
unknown z n x fs r some h =
    texts.no_token r.cuts (reached z n x fs r) (let e = length-drop n z in omega arith) h.0 h.1

-- ---- the end

all_dropped : (z : List ℕ) (n : ℕ) → length z ≤ n → drop n z ≡ []
all_dropped z n h = empty (drop n z) (let e = length-drop n z in omega arith)
  where
    empty : (y : List ℕ) → length y ≡ 0 → y ≡ []
    empty [] e = refl
    empty (b ∷ y) e = absurd (omega arith)

at_end : (z : List ℕ) (n : ℕ) (x : Mode) (fs : List Frame) → (r : Reading z n x fs) → length z ≤ n → CutsTo 0 z r.tokens n []
at_end z n x fs r h = subst (λ y. CutsTo 0 z r.tokens n y) (all_dropped z n h) r.cuts

pub finish : (z : List ℕ) (n : ℕ) (x : Mode) (fs : List Frame) (a : Result Part Failure) → Reading z n x fs → length z ≤ n → Ends fs x n a → Reads z a
finish z n x fs (Ok p) r h e =
    (r.tokens, cut_whole (at_end z n x fs r h), sound r.tokens (tree p.node) (ap tree_at_end r.taken ∙ e), part_within p)
finish z n x fs (Err failure.Memory) r h e = tt
finish z n x fs (Err (failure.Wrong w)) r h (s, f, g) = by s f g
  where
    same : {a b : SyntaxError} → failure.Wrong a ≡ failure.Wrong b → a ≡ b
    same e = cc

    by : (s : Stop) → FailsAtEnd s n (failure.Wrong w) → Finishes (end (mode_view x) (frames_of fs)) (expected (mode_view x) (frames_of fs)) (Err s) → GoesWrong z w
    by stop.Memory f g = absurd (cc)
    by stop.TooDeep f g = subst (λ v. GoesWrong z v) (sym (same f)) (texts.deep_end (at_end z n x fs r h) (reached z n x fs r) g.1 g.2)
    by (stop.Unexpected i) f g =
        subst (λ v. GoesWrong z v) (sym (same f))
        (subst (λ j. GoesWrong z (error_at n n (problem.Unfinished j))) (sym g.1) (texts.unfinished (at_end z n x fs r h) (reached z n x fs r) g.0))
