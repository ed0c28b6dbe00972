-- Trusted by the headline.
-- Keys as contracts see them, and the order of keys.
use Rattle.std.specs.Prelude.{ℕ, ℤ, pos, List, [], true, false}
use Rattle.std.specs.declared.cmp.Ordering.{Ordering}
use Rattle.std.specs.Ordering.{nat_cmp, int_cmp, on, then_cmp, eq_by_cmp, match_ordering}
use Rattle.std.specs.Cmp.{IsTotalOrder, IsEquivalence}
use Rattle.std.specs.Cmp.Lexicographic.{slice_cmp}
use Rattle.std.proofs.lemmas.Cmp.{nat_cmp_total, int_cmp_total, nat_list_cmp_total, on_total, then_total, on_equiv, eq_by_cmp_equiv}
use Rattle.cel_value.specs.Data.{KeyData, bool_key, int_key, uint_key, text_key, Data, Entries, no_entries, entry}
use Rattle.cel_value.specs.declared.key.Key.{Key}
use Rattle.cel_value.specs.declared.key.Key.TheVariants as key

abbrev pub key_view : Key → KeyData
key_view (key.Bool b) = bool_key b
key_view (key.Int n) = int_key n
key_view (key.Uint n) = uint_key n
key_view (key.String s) = text_key s

-- bools, then numbers, then strings
abbrev pub key_class : KeyData → ℕ
key_class (bool_key b) = 0
key_class (int_key n) = 1
key_class (uint_key n) = 1
key_class (text_key s) = 2

abbrev pub key_number : KeyData → ℤ
key_number (bool_key false) = pos 0
key_number (bool_key true) = pos 1
key_number (int_key n) = n
key_number (uint_key n) = pos n
key_number (text_key s) = pos 0

abbrev pub key_text : KeyData → List ℕ
key_text (bool_key b) = []
key_text (int_key n) = []
key_text (uint_key n) = []
key_text (text_key s) = s

abbrev pub key_order : KeyData → KeyData → Ordering
key_order =
    then_cmp (on key_class nat_cmp) (then_cmp (on key_number int_cmp) (on key_text (slice_cmp nat_cmp)))

pub key_order_total : IsTotalOrder key_order
key_order_total = then_total (on_total key_class nat_cmp_total)
    (then_total (on_total key_number int_cmp_total) (on_total key_text nat_list_cmp_total))

abbrev pub key_cmp : Key → Key → Ordering
key_cmp a b = key_order (key_view a) (key_view b)

pub key_total : IsTotalOrder (λ (a : Key) (b : Key). key_order (key_view a) (key_view b))
key_total = on_total key_view key_order_total

pub key_equiv : IsEquivalence (λ (a : Key) (b : Key). eq_by_cmp key_order (key_view a) (key_view b))
key_equiv = on_equiv key_view (eq_by_cmp_equiv key_order_total)

-- the entries with d at the key k; an existing key is kept as it is
abbrev pub put : KeyData → Data → Entries → Entries
put k d no_entries = entry k d no_entries
put k d (entry l e es) =
    match_ordering (key_order k l) (entry k d (entry l e es)) (entry l d es) (entry l e (put k d es))
