-- The order of keys of one kind.
use Rattle.std.proofs.Common.{◌≡◌, ℕ, List, nat_eq, refl, sym, ap, ◌∙◌}
use Rattle.std.specs.declared.cmp.Ordering.{Ordering}
use Rattle.std.specs.declared.cmp.Ordering.TheVariants.{Less, Equal, Greater}
use Rattle.std.specs.Ordering.{ordering_then, eq_by_cmp}
use Rattle.std.specs.Cmp.Lexicographic.{pointwise, texts_ties}
use Rattle.cel_value.specs.Data.{text_key}
use Rattle.cel_value.specs.Keys.{key_view, key_order}
use Rattle.cel_value.specs.declared.key.Key.{Key}
use Rattle.cel_value.specs.declared.key.Key.TheVariants as key

pub then_equal : (o : Ordering) → ordering_then o Equal ≡ o
then_equal Less = refl
then_equal Equal = refl
then_equal Greater = refl

pub texts_equal : (k l : Key) (a b : List ℕ) → k ≡ key.String a → l ≡ key.String b → pointwise nat_eq a b ≡ eq_by_cmp key_order (key_view k) (key_view l)
texts_equal k l a b p q = texts_ties a b ∙ sym (ap (λ k. eq_by_cmp key_order (key_view k) (key_view l)) p ∙ ap (λ l. eq_by_cmp key_order (text_key a) (key_view l)) q)
