-- Look-ups in the entries of a bound object, with the fields that were added because it lacks them.
use Rattle.std.proofs.Common.{◌≡◌, ℕ, List, [], Bool, true, false, if◌then◌else◌, is_some, Option, Some, None, option_map, codes, refl, sym, ap, ◌∙◌, subst}
use Rattle.std.specs.Ordering.{eq_by_cmp}
use Rattle.std.specs.Str.{bytes_eq}
use Rattle.std.proofs.lemmas.Bool.{true≢false}
use Rattle.std.proofs.lemmas.Slice.Eq.{bytes_eq-Decides}
use Rattle.serde_json.specs.Data as json
use Rattle.serde_json.specs.Find.{get_member}
use Rattle.cel_value.specs.Data.{Data, Entries, map_of, no_entries, text, text_key}
use Rattle.cel_value.specs.Find.{find}
use Rattle.cel_value.specs.Keys.{key_order, put}
use Rattle.kube_schema_values.specs.Conversion.{ConversionAccessors, key_in, member_by, member_key, members_by, object_by, or_else, put_absent, with_resource_fields}
use Rattle.kube_schema_values.specs.Fields.{field_besides}
use Rattle.kube_schema_values.proofs.FoundMembers.{found_member, keys_apart, two_keys}
use Rattle.kube_schema_values.proofs.Found.{find-put, find-put_other}
use Rattle.kube_schema_values.specs.Escape.{escape, escaped_text, is_reserved}

either_way : (o : Option Data) (a b : Option Data) → is_some o ≡ true → or_else o a ≡ or_else o b
either_way None a b h = absurd (true≢false (sym h))
either_way (Some x) a b h = refl

or_else_none : (o : Option Data) → o ≡ or_else o None
or_else_none None = refl
or_else_none (Some x) = refl

mapped : (f : json.Data → Data) (o : Option json.Data) → is_some (option_map f o) ≡ is_some o
mapped f None = refl
mapped f (Some x) = refl

absent_or : (f : json.Data → Data) (o : Option json.Data) (a : Option Data) → is_some o ≡ false → a ≡ or_else (option_map f o) a
absent_or f None a h = refl
absent_or f (Some x) a h = absurd (true≢false h)

-- with keys that differ for different names
module _ (key : List ℕ → List ℕ) (apart : (a b : List ℕ) → key a ≡ key b → a ≡ b) (f : List ℕ → json.Data → Data) (ms : json.Members) where
  own : List ℕ → Option Data
  own name = option_map (f name) (get_member name ms)

  put_at : (there same : Bool) (k : List ℕ) (v : Data) (before : Option Data) (es : Entries) (name : List ℕ)
      → key k ≡ k → is_some (get_member k ms) ≡ there → bytes_eq name k ≡ same → find (text_key (key name)) es ≡ or_else (own name) before
      → find (text_key (key name)) (if there then es else put (text_key k) v es) ≡ or_else (own name) (if same then Some v else before)
  unfolding own
  put_at true true k v before es name stays is e h =
      let names : name ≡ k = (bytes_eq-Decides name k).0 e in
      let some : is_some (option_map (f name) (get_member name ms)) ≡ true = mapped (f name) (get_member name ms) ∙ ap (λ n. is_some (get_member n ms)) names ∙ is in
      h ∙ either_way (option_map (f name) (get_member name ms)) before (Some v) some
  put_at true false k v before es name stays is e h = h
  put_at false true k v before es name stays is e h =
      let names : name ≡ k = (bytes_eq-Decides name k).0 e in
      let none : is_some (get_member name ms) ≡ false = ap (λ n. is_some (get_member n ms)) names ∙ is in
      ap (λ n. find (text_key n) (put (text_key k) v es)) (ap key names ∙ stays) ∙ find-put (text_key k) v es ∙ absent_or (f name) (get_member name ms) (Some v) none
  put_at false false k v before es name stays is e h =
      let other = λ (names : name ≡ k). true≢false (sym ((bytes_eq-Decides name k).1 names) ∙ e) in
      let far : eq_by_cmp key_order (text_key (key name)) (text_key k) ≡ false = subst (λ n. eq_by_cmp key_order (text_key (key name)) (text_key n) ≡ false) stays (two_keys key apart f name k other) in
      find-put_other (text_key (key name)) (text_key k) v es far ∙ h

  found_after : (k : List ℕ) (v : Data) (before : List ℕ → Option Data) (es : Entries) → key k ≡ k
      → ((name : List ℕ) → find (text_key (key name)) es ≡ or_else (own name) (before name))
      → (name : List ℕ) → find (text_key (key name)) (put_absent ms k v es) ≡ or_else (own name) (if bytes_eq name k then Some v else before name)
  found_after k v before es stays h name = put_at (is_some (get_member k ms)) (bytes_eq name k) k v (before name) es name stays refl refl (h name)

  found_fields : (es : Entries) → key (codes "apiVersion") ≡ codes "apiVersion" → key (codes "kind") ≡ codes "kind" → key (codes "metadata") ≡ codes "metadata"
      → ((name : List ℕ) → find (text_key (key name)) es ≡ own name)
      → (name : List ℕ) → find (text_key (key name)) (with_resource_fields ms es) ≡ or_else (own name) (field_besides true name)
  unfolding with_resource_fields field_besides
  found_fields es version kind metadata h =
      found_after (codes "metadata") (map_of no_entries) _ _ metadata
      (found_after (codes "kind") (text []) _ _ kind
      (found_after (codes "apiVersion") (text []) (λ name. None) es version (λ name. h name ∙ or_else_none (own name))))

-- the names of these fields are their own escapes
version_stays : (keeps : Bool) → key_in keeps (codes "apiVersion") ≡ codes "apiVersion"
unfolding escape escaped_text is_reserved
version_stays true = refl
version_stays false = refl

kind_stays : (keeps : Bool) → key_in keeps (codes "kind") ≡ codes "kind"
unfolding escape escaped_text is_reserved
kind_stays true = refl
kind_stays false = refl

metadata_stays : (keeps : Bool) → key_in keeps (codes "metadata") ≡ codes "metadata"
unfolding escape escaped_text is_reserved
metadata_stays true = refl
metadata_stays false = refl

module _ {S : Type 0} (accessors : ConversionAccessors S) (f : S → json.Data → Data) (s : S) (ms : json.Members) where
  found_by : (embedded : Bool) (name : List ℕ)
      → find (text_key (member_key accessors s name)) (if embedded then with_resource_fields ms (members_by accessors f s ms) else members_by accessors f s ms)
      ≡ or_else (option_map (member_by accessors f s name) (get_member name ms)) (field_besides embedded name)
  unfolding field_besides own
  found_by true name =
      let keeps = accessors.is_map s in
      found_fields (member_key accessors s) (keys_apart keeps) (member_by accessors f s) ms (members_by accessors f s ms) (version_stays keeps) (kind_stays keeps) (metadata_stays keeps)
      (λ name. found_member accessors f s name ms) name
  found_by false name = found_member accessors f s name ms ∙ or_else_none (option_map (member_by accessors f s name) (get_member name ms))

  -- at the key of each name stands the object's own member, bound, else the added field
  pub found_in_object : (name : List ℕ) → find (text_key (member_key accessors s name)) (object_by accessors f s ms)
      ≡ or_else (option_map (member_by accessors f s name) (get_member name ms)) (field_besides (accessors.is_embedded s) name)
  unfolding object_by
  found_in_object name = found_by (accessors.is_embedded s) name
