-- Look-ups in the entries of a bound object.
use Rattle.std.proofs.Common.{◌≡◌, ℕ, List, Bool, true, false, Some, option_map, Ordering, Less, Equal, Greater, nat_cmp, refl, sym, ap, ◌∙◌}
use Rattle.std.specs.Cmp.Lexicographic.{slice_cmp}
use Rattle.std.specs.Ordering.{eq_by_cmp, is_eq, match_ordering}
use Rattle.std.proofs.lemmas.Bool.{false_from_ne_true, true≢false}
use Rattle.std.proofs.lemmas.Map.Text.{is_eq-slice_cmp}
use Rattle.std.proofs.lemmas.Slice.Eq.{bytes_eq-Decides}
use Rattle.serde_json.specs.Data as json
use Rattle.serde_json.specs.Find.{get_member}
use Rattle.cel_value.specs.Data.{text_key, Data}
use Rattle.cel_value.specs.Find.{find}
use Rattle.cel_value.specs.Keys.{key_order, put}
use Rattle.kube_schema_values.specs.Conversion.{ConversionAccessors, entries_by, key_in, member_key, member_by, members_by}
use Rattle.kube_schema_values.proofs.Found.{find-put, find-put_other}
use Rattle.kube_schema_values.proofs.Inverse.{escape-injective}

same_name : (k l : List ℕ) → slice_cmp nat_cmp k l ≡ Equal → k ≡ l
same_name k l h = (bytes_eq-Decides k l).0 (sym (is_eq-slice_cmp k l) ∙ ap is_eq h)

differ_by : (o : Ordering) (k l : List ℕ) → slice_cmp nat_cmp k l ≡ o → is_eq o ≡ false → k ≡ l → ⊥
differ_by o k l is unequal e = true≢false (sym ((bytes_eq-Decides k l).1 e) ∙ sym (is_eq-slice_cmp k l) ∙ ap is_eq is ∙ unequal)

-- with keys that differ for different names
module _ (key : List ℕ → List ℕ) (apart : (a b : List ℕ) → key a ≡ key b → a ≡ b) (f : List ℕ → json.Data → Data) where
  pub two_keys : (k l : List ℕ) → (k ≡ l → ⊥) → eq_by_cmp key_order (text_key (key k)) (text_key (key l)) ≡ false
  two_keys k l other = is_eq-slice_cmp (key k) (key l) ∙ false_from_ne_true _ (λ h. other (apart k l ((bytes_eq-Decides (key k) (key l)).0 h)))

  found_at : (o : Ordering) (k l : List ℕ) (d : json.Data) (ms : json.Members) → slice_cmp nat_cmp k l ≡ o → find (text_key (key k)) (entries_by key f ms) ≡ option_map (f k) (get_member k ms)
      → find (text_key (key k)) (put (text_key (key l)) (f l d) (entries_by key f ms)) ≡ option_map (f k) (match_ordering o (get_member k ms) (Some d) (get_member k ms))
  found_at Less k l d ms is later = find-put_other (text_key (key k)) (text_key (key l)) (f l d) (entries_by key f ms) (two_keys k l (differ_by Less k l is refl)) ∙ later
  found_at Equal k l d ms is later = let e : k ≡ l = same_name k l is in rw e (find-put (text_key (key l)) (f l d) (entries_by key f ms))
  found_at Greater k l d ms is later = find-put_other (text_key (key k)) (text_key (key l)) (f l d) (entries_by key f ms) (two_keys k l (differ_by Greater k l is refl)) ∙ later

  found : (k : List ℕ) (ms : json.Members) → find (text_key (key k)) (entries_by key f ms) ≡ option_map (f k) (get_member k ms)
  found k json.no_members = refl
  found k (json.member l d ms) = found_at _ k l d ms refl (found k ms)

-- different members have different keys
pub keys_apart : (keeps : Bool) (a b : List ℕ) → key_in keeps a ≡ key_in keeps b → a ≡ b
keys_apart true a b e = e
keys_apart false a b e = escape-injective a b e

-- at the key of each name stands the member of that name, bound
pub found_member : {S : Type 0} (accessors : ConversionAccessors S) (f : S → json.Data → Data) (s : S) (k : List ℕ) (ms : json.Members)
    → find (text_key (member_key accessors s k)) (members_by accessors f s ms) ≡ option_map (member_by accessors f s k) (get_member k ms)
found_member accessors f s k ms = found (member_key accessors s) (keys_apart (accessors.is_map s)) (member_by accessors f s) k ms
