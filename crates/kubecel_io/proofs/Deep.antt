-- How deep the values of a document nest.
use Rattle.kubecel_io.specs.Documents.{depth_after, mode_after}
use Rattle.kubecel_io.specs.Faults.{passes_depth}
use Rattle.kubecel_io.specs.declared.cut.Mode.{Mode}
use Rattle.std.proofs.Common.{◌≡◌, ℕ, ◌+◌, ◌<◌, ◌≤◌, ◌||◌, List, ◌∷◌, get_or, drop, length, nat_lt, true, false, refl, sym, ap, ◌∙◌}
use Rattle.std.proofs.lemmas.List.{at_drop_all, at_drop_more}

first : (m : Mode) (d x : ℕ) (xs : List ℕ) → passes_depth m d (x ∷ xs) ≡ (nat_lt 127 (depth_after m d x) || passes_depth (mode_after m x) (depth_after m d x) xs)
unfolding passes_depth
first m d x xs = refl

next : (m : Mode) (d : ℕ) (bytes : List ℕ) (i : ℕ) → i < length bytes
    → passes_depth m d (drop i bytes)
    ≡ (nat_lt 127 (depth_after m d (get_or bytes i 0)) || passes_depth (mode_after m (get_or bytes i 0)) (depth_after m d (get_or bytes i 0)) (drop (i + 1) bytes))
next m d bytes i below = at_drop_more (passes_depth m d) bytes i 0 below ∙ first m d (get_or bytes i 0) (drop (i + 1) bytes)

-- a bracket past the limit
pub passed_here : (m : Mode) (d : ℕ) (bytes : List ℕ) (i e : ℕ) → i < length bytes → e ≡ depth_after m d (get_or bytes i 0) → nat_lt 127 e ≡ true → passes_depth m d (drop i bytes) ≡ true
passed_here m d bytes i e below same past =
    let x = get_or bytes i 0 in
    next m d bytes i below ∙ ap (λ n. nat_lt 127 n || passes_depth (mode_after m x) (depth_after m d x) (drop (i + 1) bytes)) (sym same)
    ∙ ap (λ b. b || passes_depth (mode_after m x) (depth_after m d x) (drop (i + 1) bytes)) past

-- a byte within the limit
pub not_here : (m n : Mode) (d : ℕ) (bytes : List ℕ) (i e : ℕ) → i < length bytes → e ≡ depth_after m d (get_or bytes i 0) → n ≡ mode_after m (get_or bytes i 0) → nat_lt 127 e ≡ false
    → passes_depth m d (drop i bytes) ≡ passes_depth n e (drop (i + 1) bytes)
not_here m n d bytes i e below same mode within =
    let x = get_or bytes i 0 in
    next m d bytes i below
    ∙ ap (λ k. nat_lt 127 k || passes_depth (mode_after m x) k (drop (i + 1) bytes)) (sym same)
    ∙ ap (λ b. b || passes_depth (mode_after m x) e (drop (i + 1) bytes)) within
    ∙ ap (λ k. passes_depth k e (drop (i + 1) bytes)) (sym mode)

-- no byte is left
pub nowhere : (m : Mode) (d : ℕ) (bytes : List ℕ) (i : ℕ) → length bytes ≤ i → passes_depth m d (drop i bytes) ≡ false
unfolding passes_depth
nowhere m d bytes i past = at_drop_all (passes_depth m d) bytes i past
