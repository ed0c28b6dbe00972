-- The number of findings of a list of things.
use Rattle.kubecel_report.specs.Items.{item_view}
use Rattle.kubecel_report.specs.Safe.{total}
use Rattle.kubecel_report.specs.declared.item.Item.{Item}
use Rattle.std.proofs.Common.{◌≡◌, ℕ, ◌+◌, ◌-◌, ◌^◌, ◌<◌, ◌≤◌, List, length, get_or, drop, map, min, ap, ◌∙◌, sym, arith}
use Rattle.std.proofs.Math.Nat.{zero-add}
use Rattle.std.proofs.lemmas.List.{at_drop_all, at_drop_more}

at_most : (m s v r : ℕ) → min (s + (v + r)) m ≡ min (min (s + v) m + r) m
at_most m s v r = omega arith

at_most_itself : (m s : ℕ) → s ≤ m → min (s + 0) m ≡ s
at_most_itself m s within = omega (arith, within)

-- the sum of the numbers from the i-th thing on, where those before have the sum s
unfoldable pub left : List Item → ℕ → ℕ → ℕ
left xs i s = min (s + total (λ j. length j.findings) (map item_view (drop i xs))) (2 ^ 64 - 1)

pub one_more_counted : (xs : List Item) (i : ℕ) (x : Item) (s v m : ℕ) → i < length xs → x ≡ get_or xs i x → v ≡ length (item_view x).findings → m ≡ min (s + v) (2 ^ 64 - 1)
    → left xs i s ≡ left xs (i + 1) m
unfolding left
one_more_counted xs i x s v m below is same most =
    let rest = total (λ j. length j.findings) (map item_view (drop (i + 1) xs)) in
    ap (λ n. min (s + n) (2 ^ 64 - 1))
    (at_drop_more (λ ys. total (λ j. length j.findings) (map item_view ys)) xs i x below ∙ ap (λ y. length (item_view y).findings + rest) (sym is) ∙ ap (λ n. n + rest) (sym same))
    ∙ at_most (2 ^ 64 - 1) s v rest ∙ ap (λ n. min (n + rest) (2 ^ 64 - 1)) (sym most)

pub none_left_to_count : (xs : List Item) (i s : ℕ) → length xs ≤ i → s ≤ 2 ^ 64 - 1 → left xs i s ≡ s
unfolding left
none_left_to_count xs i s past within =
    ap (λ n. min (s + n) (2 ^ 64 - 1)) (at_drop_all (λ ys. total (λ j. length j.findings) (map item_view ys)) xs i past) ∙ at_most_itself (2 ^ 64 - 1) s within

-- all are left at the begin
pub from_begin : (xs : List Item) → left xs 0 0 ≡ min (total (λ j. length j.findings) (map item_view xs)) (2 ^ 64 - 1)
unfolding left
from_begin xs = ap (λ n. min n (2 ^ 64 - 1)) (zero-add (total (λ j. length j.findings) (map item_view xs)))
