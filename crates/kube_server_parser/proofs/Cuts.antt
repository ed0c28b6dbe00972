-- A text that goes wrong derives no tree.
use Rattle.std.proofs.Common.{◌≡◌, ◌∙◌, ℕ, ◌+◌, ◌<◌, ◌≤◌, refl, sym, ap, subst, arith, true, false, Option, Some, None, List, [], ◌∷◌, ◌++◌, append-nil, append_assoc, length, drop, take}
use Rattle.std.specs.List.{prefix_len}
use Rattle.cel_syntax_lexer.specs.Token.{Token}
use Rattle.cel_syntax_lexer.specs.Tokens.{is_white_space, is_in_line, token_of_bytes, Longest, begins_comment}
use Rattle.cel_syntax_lexer.proofs.First.{some_none, no_token_at_end}
use Rattle.cel_syntax_lexer.proofs.Cut.{no_space_token, space_is_no_comment, only_one}
use Rattle.kube_server_lexer.specs.Pieces.{IsInk, NoToken}
use Rattle.kube_server_syntax.specs.Grammar.{Expression, level}
use Rattle.kube_server_syntax.specs.Machine.{State, start, step, steps, end, goes, tree_at_end}
use Rattle.kube_server_syntax.specs.Placed as placed
use Rattle.kube_server_syntax.specs.Placed.{Placed, PlacedCuts}
use Rattle.kube_server_syntax.specs.Tree.{Tree}
use Rattle.kube_server_syntax.proofs.Complete.{complete, one_tree as tokens_derive_one, steps_append, wrong_token as no_tree_goes_on}
use Rattle.kube_server_syntax.proofs.Depth.{as_deep}
use Rattle.kube_server_parser.specs.Texts as texts
use Rattle.kube_server_parser.specs.Texts.{CutsTo, GoesWrong, TextDerives, placed_at}
use Rattle.kube_server_parser.specs.declared.syntax_error.SyntaxError.{SyntaxError}
use Rattle.kube_server_parser.proofs.Bounds.{within_more}

-- ---- how a text splits

space_cut : {n b : ℕ} {z : List ℕ} {us : List Placed} → is_white_space b ≡ true → PlacedCuts n (b ∷ z) us → PlacedCuts (n + 1) z us
space_cut s (placed.space h d) = d
space_cut {n} {b} {z} s (placed.comment h d) = let no = space_is_no_comment b z s in absurd (cc)
space_cut s (placed.token h l d) = absurd (no_space_token s l)

comment_cut : {n : ℕ} {z : List ℕ} {us : List Placed} → begins_comment z ≡ true → PlacedCuts n z us
    → PlacedCuts (n + prefix_len is_in_line z) (drop (prefix_len is_in_line z) z) us
comment_cut c placed.done = absurd (cc)
comment_cut c (placed.space {b = b} {z = z} h d) = let no = space_is_no_comment b z h in absurd (cc)
comment_cut c (placed.comment h d) = d
comment_cut c (placed.token h l d) = absurd (cc)

same_some : {A : Type 0} {a b : A} → Some a ≡ Some b → a ≡ b
same_some e = cc

token_cut : {n k : ℕ} {z : List ℕ} {t : Token} {us : List Placed} → begins_comment z ≡ false → Longest z k t → PlacedCuts n z us
    → (vs : List Placed) × (us ≡ placed_at n k t ∷ vs) × PlacedCuts (n + k) (drop k z) vs
token_cut nc l placed.done = absurd (no_token_at_end l)
token_cut nc l (placed.space s d) = absurd (no_space_token s l)
token_cut nc l (placed.comment h d) = absurd (cc)
token_cut {n} {k} {z} {t} nc l (placed.token {k = j} {t = u} {ts = ts} h other d) =
    let same : k ≡ j = only_one l other in
    let e : t ≡ u = same_some (sym l.token ∙ ap (λ i. token_of_bytes (take i z)) same ∙ other.token) in
    (ts, ap (λ i. placed_at n i u ∷ ts) (sym same) ∙ ap (λ x. placed_at n k x ∷ ts) (sym e), subst (λ i. PlacedCuts (n + i) (drop i z) ts) (sym same) d)

end_cut : {n : ℕ} {us : List Placed} → PlacedCuts n [] us → us ≡ []
end_cut placed.done = refl
end_cut (placed.comment h d) = absurd (cc)
end_cut (placed.token h l d) = absurd (no_token_at_end l)

-- the tokens of a text begin with those that were read
pub cut_after : {n m : ℕ} {z y : List ℕ} {ts us : List Placed} → CutsTo n z ts m y → PlacedCuts n z us
    → (vs : List Placed) × (us ≡ ts ++ vs) × PlacedCuts m y vs
cut_after {us = us} texts.here d = (us, refl, d)
cut_after (texts.space s c) d = cut_after c (space_cut s d)
cut_after (texts.comment h c) d = cut_after c (comment_cut h d)
cut_after (texts.token {n = n} {k = k} {t = t} nc l c) d =
    let r = token_cut nc l d in
    let q = cut_after c r.2 in
    (q.0, r.1 ∙ ap (λ x. placed_at n k t ∷ x) q.1, q.2)

pub cut_more : {n m l : ℕ} {z y x : List ℕ} {ts us : List Placed} → CutsTo n z ts m y → CutsTo m y us l x → CutsTo n z (ts ++ us) l x
cut_more texts.here d = d
cut_more (texts.space s c) d = texts.space s (cut_more c d)
cut_more (texts.comment h c) d = texts.comment h (cut_more c d)
cut_more (texts.token nc l c) d = texts.token nc l (cut_more c d)

pub cut_whole : {n m : ℕ} {z : List ℕ} {ts : List Placed} → CutsTo n z ts m [] → PlacedCuts n z ts
cut_whole {z = z} c = whole c refl
  where
    whole : {n m : ℕ} {z y : List ℕ} {ts : List Placed} → CutsTo n z ts m y → y ≡ [] → PlacedCuts n z ts
    whole {n} texts.here e = subst (λ x. PlacedCuts n x []) (sym e) placed.done
    whole (texts.space s c) e = placed.space s (whole c e)
    whole (texts.comment h c) e = placed.comment h (whole c e)
    whole (texts.token nc l c) e = placed.token nc l (whole c e)

-- ---- no tree

no_piece : {n : ℕ} {y : List ℕ} {vs : List Placed} → 0 < length y → IsInk y → NoToken y → PlacedCuts n y vs → ⊥
no_piece h ink none placed.done = omega arith
no_piece h ink none (placed.space s d) = let w = ink.1 in cc
no_piece h ink none (placed.comment c d) = let w = ink.0 in cc
no_piece h ink none (placed.token nc l d) = none _ _ l

snoc_append : {A : Type 0} (xs : List A) (x : A) (ys : List A) → (xs ++ x ∷ []) ++ ys ≡ xs ++ x ∷ ys
snoc_append xs x ys = append_assoc xs (x ∷ []) ys

pub steps_snoc : (ts : List Placed) (s : State) (k : Placed) → steps ts start ≡ Some s → steps (ts ++ k ∷ []) start ≡ step s.0 s.1 k
steps_snoc ts s k e = steps_append ts (k ∷ []) start ∙ ap (λ o. goes o (steps (k ∷ []))) e ∙ last (step s.0 s.1 k)
  where
    last : (o : Option State) → goes o (steps []) ≡ o
    last None = refl
    last (Some r) = refl

whole_read : (ts us : List Placed) (s : State) (t : Tree) → steps ts start ≡ Some s → us ≡ ts ++ [] → Expression us [] t → end s.0 s.1 ≡ Some t
whole_read ts us s t e h d =
    sym (ap (λ o. tree_at_end o) e) ∙ ap (λ x. tree_at_end (steps x start)) (sym (h ∙ append-nil ts)) ∙ complete us t d

pub no_tree : (z : List ℕ) (e : SyntaxError) (t : Tree) → GoesWrong z e → TextDerives z t → ⊥
no_tree z e t (texts.no_token c r some ink none) d = no_piece some ink none (cut_after c d.1).2
no_tree z e t (texts.wrong_token {n = n} {k = k} {t = u} {ts = ts} {s = s} c r ink l stops) d =
    let q = cut_after c d.1 in
    let p = token_cut ink.0 l q.2 in
    no_tree_goes_on ts p.0 s (placed_at n k u) t r.0 stops
    (subst (λ us. Expression us [] t) (q.1 ∙ ap (λ vs. ts ++ vs) p.1) d.2)
no_tree z e t (texts.deep_token {n = n} {k = k} {t = u} {ts = ts} {s = s} {r = a} c r ink l goes_on deep) d =
    let q = cut_after c d.1 in
    let p = token_cut ink.0 l q.2 in
    deep (within_more (level t) 250 a.0 a.1 d.3
    (as_deep (ts ++ placed_at n k u ∷ []) p.0 a t (steps_snoc ts s (placed_at n k u) r.0 ∙ goes_on)
    (subst (λ us. Expression us [] t) (q.1 ∙ ap (λ vs. ts ++ vs) p.1 ∙ sym (snoc_append ts (placed_at n k u) p.0)) d.2)))
no_tree z e t (texts.unfinished {ts = ts} {s = s} c r nothing) d =
    let q = cut_after c d.1 in
    some_none (sym (whole_read ts d.0 s t r.0 (q.1 ∙ ap (λ vs. ts ++ vs) (end_cut q.2)) d.2) ∙ nothing)
no_tree z e t (texts.deep_end {t = u} {ts = ts} {s = s} c r whole deep) d =
    let q = cut_after c d.1 in
    let same : u ≡ t = same_some (sym whole ∙ whole_read ts d.0 s t r.0 (q.1 ∙ ap (λ vs. ts ++ vs) (end_cut q.2)) d.2) in
    let le : level t ≤ 250 = d.3 in
    let gt : 250 < level t = subst (λ v. 250 < level v) same deep in
    omega arith

-- A text derives at most one tree.
pub one_tree : (z : List ℕ) (t u : Tree) → TextDerives z t → TextDerives z u → t ≡ u
one_tree z t u d e = tokens_derive_one d.0 t u d.2 (subst (λ ts. Expression ts [] u) (cuts_once e.1 d.1) e.2)
  where
    cuts_once : {n : ℕ} {z : List ℕ} {ts us : List Placed} → PlacedCuts n z ts → PlacedCuts n z us → ts ≡ us
    cuts_once placed.done e = sym (end_cut e)
    cuts_once (placed.space s d) e = cuts_once d (space_cut s e)
    cuts_once (placed.comment c d) e = cuts_once d (comment_cut c e)
    cuts_once (placed.token {n = n} {k = k} {t = t} nc l d) e =
        let r = token_cut nc l e in ap (λ x. placed_at n k t ∷ x) (cuts_once d r.2) ∙ sym r.1
