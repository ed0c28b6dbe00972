-- Look-ups in bound entries.
use Rattle.std.proofs.Common.{◌≡◌, ℕ, List, Some, option_map, false, Ordering, Less, Equal, Greater, nat_cmp, refl, sym, ap, ◌∙◌, if◌then◌else◌}
use Rattle.std.specs.Cmp.Lexicographic.{slice_cmp}
use Rattle.std.specs.Ordering.{eq_by_cmp, is_eq, match_ordering}
use Rattle.std.proofs.lemmas.Bool.{false_from_ne_true, true≢false}
use Rattle.std.proofs.lemmas.Cmp.{tied_itself, eq_by_cmp_equiv}
use Rattle.std.proofs.lemmas.Map.Text.{is_eq-slice_cmp}
use Rattle.std.proofs.lemmas.Slice.Eq.{bytes_eq-Decides}
use Rattle.serde_json.specs.Data as json_data
use Rattle.serde_json.specs.Find.{get_member}
use Rattle.cel_value.specs.Data.{KeyData, text_key, Data, Entries, no_entries, entry}
use Rattle.cel_value.specs.Find.{find}
use Rattle.cel_value.specs.Keys.{key_order, key_order_total, put}
use Rattle.kube_schema_values.specs.Escape.{escape}
use Rattle.kube_schema_values.specs.Plain.{plain, plain_entries}
use Rattle.kube_schema_values.proofs.Inverse.{escape-injective}

-- ---- entries after a put

found_at : (o : Ordering) (k l : KeyData) (d e : Data) (es : Entries) → key_order k l ≡ o → find k (put k d es) ≡ Some d
    → find k (match_ordering o (entry k d (entry l e es)) (entry l d es) (entry l e (put k d es))) ≡ Some d
found_at Less k l d e es is later = rw (tied_itself key_order_total k) refl
found_at Equal k l d e es is later = rw is refl
found_at Greater k l d e es is later = rw is later

pub find-put : (k : KeyData) (d : Data) (es : Entries) → find k (put k d es) ≡ Some d
find-put k d no_entries = rw (tied_itself key_order_total k) refl
find-put k d (entry l e es) = found_at _ k l d e es refl (find-put k d es)

apart : (q k l : KeyData) → key_order k l ≡ Equal → eq_by_cmp key_order q k ≡ false → eq_by_cmp key_order q l ≡ false
apart q k l same other =
    let keys = eq_by_cmp_equiv key_order_total in
    keys.symm q l ∙ sym (keys.congr k l q (ap is_eq same)) ∙ keys.symm k q ∙ other

other_at : (o : Ordering) (q k l : KeyData) (d e : Data) (es : Entries) → key_order k l ≡ o → eq_by_cmp key_order q k ≡ false → find q (put k d es) ≡ find q es
    → find q (match_ordering o (entry k d (entry l e es)) (entry l d es) (entry l e (put k d es))) ≡ find q (entry l e es)
other_at Less q k l d e es is other later = rw other refl
other_at Equal q k l d e es is other later = rw (apart q k l is other) refl
other_at Greater q k l d e es is other later = ap (λ r. if eq_by_cmp key_order q l then Some e else r) later

pub find-put_other : (q k : KeyData) (d : Data) (es : Entries) → eq_by_cmp key_order q k ≡ false → find q (put k d es) ≡ find q es
find-put_other q k d no_entries other = rw other refl
find-put_other q k d (entry l e es) other = other_at _ q k l d e es refl other (find-put_other q k d es other)

-- ---- names

same_name : (k l : List ℕ) → slice_cmp nat_cmp k l ≡ Equal → k ≡ l
same_name k l h = (bytes_eq-Decides k l).0 (sym (is_eq-slice_cmp k l) ∙ ap is_eq h)

-- different names have different keys
two_keys : (k l : List ℕ) → (k ≡ l → ⊥) → eq_by_cmp key_order (text_key (escape k)) (text_key (escape l)) ≡ false
two_keys k l other = is_eq-slice_cmp (escape k) (escape l) ∙ false_from_ne_true _ (λ h. other (escape-injective k l ((bytes_eq-Decides (escape k) (escape l)).0 h)))

differ_by : (o : Ordering) (k l : List ℕ) → slice_cmp nat_cmp k l ≡ o → is_eq o ≡ false → k ≡ l → ⊥
differ_by o k l is unequal e = true≢false (sym ((bytes_eq-Decides k l).1 e) ∙ sym (is_eq-slice_cmp k l) ∙ ap is_eq is ∙ unequal)

found_member_at : (o : Ordering) (k l : List ℕ) (d : json_data.Data) (ms : json_data.Members) → slice_cmp nat_cmp k l ≡ o → find (text_key (escape k)) (plain_entries ms) ≡ option_map plain (get_member k ms)
    → find (text_key (escape k)) (put (text_key (escape l)) (plain d) (plain_entries ms)) ≡ option_map plain (match_ordering o (get_member k ms) (Some d) (get_member k ms))
found_member_at Less k l d ms is later = find-put_other (text_key (escape k)) (text_key (escape l)) (plain d) (plain_entries ms) (two_keys k l (differ_by Less k l is refl)) ∙ later
found_member_at Equal k l d ms is later = let e : k ≡ l = same_name k l is in rw e (find-put (text_key (escape l)) (plain d) (plain_entries ms))
found_member_at Greater k l d ms is later = find-put_other (text_key (escape k)) (text_key (escape l)) (plain d) (plain_entries ms) (two_keys k l (differ_by Greater k l is refl)) ∙ later

-- at each escaped name stands the member of that name, bound
pub found_member : (k : List ℕ) (ms : json_data.Members) → find (text_key (escape k)) (plain_entries ms) ≡ option_map plain (get_member k ms)
unfolding plain_entries
found_member k json_data.no_members = refl
found_member k (json_data.member l d ms) = found_member_at _ k l d ms refl (found_member k ms)
