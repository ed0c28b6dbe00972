use Rattle.std.proofs.Common.{◌≡◌, ◌≢◌, ◌∙◌, ℕ, ◌-◌, ◌≤◌, ◌++◌, List, length, take, drop, replicate, bytes_eq, nat_eq, false, true≢false, sym, ap, arith}
use Rattle.std.specs.Bool.{one_answer}
use Rattle.std.proofs.lemmas.Bool.Decides.{Decides-eqb}
use Rattle.std.proofs.lemmas.Slice.Eq.{bytes_eq-Decides}
use Rattle.std.proofs.lemmas.List.{length-take-le, take-append-drop}
use Rattle.std.specs.Cmp.Lexicographic.{same_text, other_text}
use Rattle.cel_value.proofs.string.ShortText.is_same.Goals as goal

module _ (xs ys : List ℕ) (m n : ℕ) (m_fits : m ≤ length xs) (n_fits : n ≤ length ys) (xs_end : drop m xs ≡ replicate (14 - m) 0) (ys_end : drop n ys ≡ replicate (14 - n) 0) where
  same_length : take m xs ≡ take n ys → m ≡ n
  same_length e = sym (length-take-le m xs m_fits) ∙ ap length e ∙ length-take-le n ys n_fits

  -- two short texts are equal only if all their bytes are
  same_bytes : take m xs ≡ take n ys → xs ≡ ys
  same_bytes e =
      sym (take-append-drop m xs)
      ∙ (λ i. e i ++ (xs_end ∙ ap (λ k. replicate (14 - k) 0) (same_length e) ∙ sym ys_end) i)
      ∙ take-append-drop n ys

  -- of the same bytes, the lengths decide
  by_length : xs ≡ ys → nat_eq m n ≡ bytes_eq (take m xs) (take n ys)
  by_length e =
      one_answer (nat_eq m n) (bytes_eq (take m xs) (take n ys))
      (Decides-eqb m n)
      ((λ h. same_length ((bytes_eq-Decides (take m xs) (take n ys)).0 h)), (λ l. (bytes_eq-Decides (take m xs) (take n ys)).1 (λ i. take (l i) (e i))))

  other_bytes : (xs ≢ ys) → false ≡ bytes_eq (take m xs) (take n ys)
  other_bytes ne =
      one_answer false (bytes_eq (take m xs) (take n ys))
      ((λ f. absurd (true≢false (sym f))), (λ e. absurd (ne e)))
      ((λ h. same_bytes ((bytes_eq-Decides (take m xs) (take n ys)).0 h)), (λ e. absurd (ne e)))

pub returns-then-are_same : goal.returns-then-are_same
returns-then-are_same c =
    let a = c.self in
    let b = c.other in
    by_length a.inside.bytes b.inside.bytes a.inside.len b.inside.len (omega (arith, a.told, a.invariant.0)) (omega (arith, b.told, b.invariant.0)) a.invariant.2 b.invariant.2 (same_text _ _ c.if-are_same.ensures)
    ∙ (λ i. bytes_eq (a.view_is i) (b.view_is i))

pub returns-else-are_same : goal.returns-else-are_same
returns-else-are_same c =
    let a = c.self in
    let b = c.other in
    c.if-are_same.false
    ∙ other_bytes a.inside.bytes b.inside.bytes a.inside.len b.inside.len (omega (arith, a.told, a.invariant.0)) (omega (arith, b.told, b.invariant.0)) a.invariant.2 b.invariant.2 (other_text _ _ c.if-are_same.ensures)
    ∙ (λ i. bytes_eq (a.view_is i) (b.view_is i))
