-- The exit status of a list of things.
use Rattle.kubecel_report.specs.Items.{item_view, items_status, verdict_status}
use Rattle.kubecel_report.specs.declared.item.Item.{Item}
use Rattle.std.proofs.Common.{◌≡◌, ℕ, ◌+◌, ◌<◌, ◌≤◌, List, length, get_or, drop, map, max, ap, ◌∙◌, sym, arith}
use Rattle.std.proofs.lemmas.List.{at_drop_all, at_drop_more}

three : (a b c : ℕ) → max a (max b c) ≡ max (max a b) c
three a b c = omega arith

no_less : (a : ℕ) → max a 0 ≡ a
no_less a = omega arith

pub one_more : (xs : List Item) (i : ℕ) (x : Item) (s v m : ℕ) → i < length xs → x ≡ get_or xs i x → v ≡ verdict_status x.verdict → m ≡ max s v
    → max s (items_status (map item_view (drop i xs))) ≡ max m (items_status (map item_view (drop (i + 1) xs)))
unfolding items_status
one_more xs i x s v m below is same most =
    let rest = items_status (map item_view (drop (i + 1) xs)) in
    ap (max s) (at_drop_more (λ ys. items_status (map item_view ys)) xs i x below ∙ ap (λ y. max (verdict_status y.verdict) rest) (sym is) ∙ ap (λ n. max n rest) (sym same))
    ∙ three s v rest ∙ ap (λ n. max n rest) (sym most)

pub none_left : (xs : List Item) (i s : ℕ) → length xs ≤ i → max s (items_status (map item_view (drop i xs))) ≡ s
unfolding items_status
none_left xs i s past = ap (max s) (at_drop_all (λ ys. items_status (map item_view ys)) xs i past) ∙ no_less s
