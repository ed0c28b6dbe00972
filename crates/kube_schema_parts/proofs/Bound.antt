-- A bound object or list is alike to its converted parts, in what is demanded of it.
use Rattle.std.proofs.Common.{◌≡◌, ℕ, zero, suc, Box, ◌+◌, ◌<◌, List, [], ◌∷◌, ◌++◌, map, length, take, get_or, Bool, true, false, not, Bor, Option, Some, None, is_some, option_copied, option_map, refl, sym, ap, ◌∙◌, subst, true≢false, arith}
use Rattle.std.proofs.lemmas.Map.Text.{is_eq-slice_cmp}
use Rattle.std.proofs.lemmas.Slice.Eq.{bytes_eq-Decides}
use Rattle.std.proofs.lemmas.List.{map-append, take_more}
use Rattle.std.proofs.lemmas.List.Elements.{All-get_or}
use Rattle.std.specs.Prelude.{slice_get, zip}
use Rattle.std.specs.Option.{option_map_or}
use Rattle.std.specs.Ordering.{eq_by_cmp}
use Rattle.std.specs.Str.{bytes_eq}
use Rattle.std.specs.declared.alloc.Global.{Global}
use Rattle.serde_json.specs.Data as json
use Rattle.serde_json.specs.Find.{get_member}
use Rattle.serde_json.specs.View.{view as json_view, items_view as json_items_view}
use Rattle.serde_json.specs.declared.value.Value.{Value as Json}
use Rattle.cel_demand.specs.Alike.{Alike, OptionsAlike, ListsAlike, MembersAlike}
use Rattle.cel_demand.specs.Demand.{part_of, part_step, members_view}
use Rattle.cel_demand.specs.declared.demand.Demand.{Demand, Demand-F, fold-roll-Demand}
use Rattle.cel_demand.specs.declared.demand.Demand.TheVariants as demand
use Rattle.cel_demand.specs.Part.{Part, nothing, whole, each_item, some_members, Members, no_members, member}
use Rattle.cel_demand.specs.Places.{Entry, name_of}
use Rattle.cel_value.specs.Data.{Data, Entries, no_entries, list, map_of, text_key}
use Rattle.cel_value.specs.Find.{find}
use Rattle.cel_value.specs.Keys.{key_order, put}
use Rattle.cel_value.specs.View.{view, entries_view, items_of}
use Rattle.cel_value.specs.declared.key.Key.{Key}
use Rattle.cel_value.specs.declared.key.Key.TheVariants as key
use Rattle.cel_value.specs.declared.value.Value.{Value}
use Rattle.kube_schema_values.proofs.Bounds.{bound_past, bound_within, items_by_is}
use Rattle.kube_schema_values.proofs.Fields.{found_in_object}
use Rattle.kube_schema_values.proofs.Found.{find-put, find-put_other, found_member}
use Rattle.kube_schema_values.proofs.Plains.{plain_items_is}
use Rattle.kube_schema_values.specs.Conversion.{ConversionAccessors, items_by, key_in, member_by, or_else, to_cel, to_cel_by}
use Rattle.kube_schema_values.specs.Escape.{escape}
use Rattle.kube_schema_values.specs.Fields.{field_besides}
use Rattle.kube_schema_values.specs.Plain.{plain}
use Rattle.kube_schema_parts.specs.Parts.{AreOwnNames, AreParts, entries_at, is_embedded_at, items_node, key_at, name_keys, node_of_member, scalar_of, value_at}

-- ---- look-ups

pub none_seen : (o : Option Value) → is_some o ≡ false → option_map view o ≡ None
none_seen None h = refl
none_seen (Some v) h = absurd (true≢false h)

pub copied : (r : Option (Bor Json)) → option_map (λ v. json_view v.now) r ≡ option_map json_view (option_copied r)
copied None = refl
copied (Some v) = refl

-- ---- views of demands

pub nothing_part : part_of demand.Nothing ≡ nothing
nothing_part = ap part_of (sym demand.rolls-Nothing) ∙ fold-roll-Demand Part part_step Demand-F.Nothing

pub whole_part : part_of demand.Whole ≡ whole
whole_part = ap part_of (sym demand.rolls-Whole) ∙ fold-roll-Demand Part part_step Demand-F.Whole

pub items_part : (b : Box Demand Global) → part_of (demand.Items b) ≡ each_item (part_of b.value)
items_part b = ap part_of (sym (demand.rolls-Items b)) ∙ fold-roll-Demand Part part_step (Demand-F.Items b)

pub members_part : (ms : _) → part_of (demand.Members ms) ≡ some_members (members_view ms.items)
members_part ms = ap part_of (sym (demand.rolls-Members ms)) ∙ fold-roll-Demand Part part_step (Demand-F.Members ms)

pub alike_by : (d : Demand) (p : Part) (v w : Data) → part_of d ≡ p → Alike p v w → Alike (part_of d) v w
alike_by d p v w e h = subst (λ q. Alike q v w) (sym e) h

-- ---- lists

pub lists_last : {A : Type 0} (R : A → A → Type 0) (vs ws : List A) (v w : A) → ListsAlike R vs ws → R v w → ListsAlike R (vs ++ v ∷ []) (ws ++ w ∷ [])
lists_last R [] [] v w h k = (k, tt)
lists_last R [] (y ∷ ws) v w h k = absurd h
lists_last R (x ∷ vs) [] v w h k = absurd h
lists_last R (x ∷ vs) (y ∷ ws) v w h k = (h.0, lists_last R vs ws v w h.1 k)

-- ---- members

pub members_last : (es : List Entry) (e : Entry) (g h : List ℕ → Option Data) → MembersAlike (members_view es) g h → OptionsAlike (Alike (part_of e.1)) (g (name_of e)) (h (name_of e)) → MembersAlike (members_view (es ++ e ∷ [])) g h
members_last [] e g h a k = (k, tt)
members_last (d ∷ ds) e g h a k = (a.0, members_last ds e g h a.1 k)

-- different names are different keys
other_key : (x n : List ℕ) → bytes_eq x n ≡ false → eq_by_cmp key_order (text_key x) (text_key n) ≡ false
other_key x n e = is_eq-slice_cmp x n ∙ e

-- one more entry, at a key that so far only the second entries have
module _ (n : List ℕ) (v w : Data) (es fs : Entries) (new : find (text_key n) es ≡ None) (there : find (text_key n) fs ≡ Some w) where
  at_name : (b : Bool) (x : List ℕ) (p : Part) → bytes_eq x n ≡ b → OptionsAlike (Alike p) (find (text_key x) es) (find (text_key x) fs) → OptionsAlike (Alike p) (find (text_key x) (put (text_key n) v es)) (find (text_key x) fs)
  at_name true x p e h =
      let same : x ≡ n = (bytes_eq-Decides x n).0 e in
      let none : find (text_key x) es ≡ None = ap (λ y. find (text_key y) es) same ∙ new in
      let some : find (text_key x) fs ≡ Some w = ap (λ y. find (text_key y) fs) same ∙ there in
      absurd (subst (λ o. OptionsAlike (Alike p) None o) some (subst (λ o. OptionsAlike (Alike p) o (find (text_key x) fs)) none h))
  at_name false x p e h = subst (λ o. OptionsAlike (Alike p) o (find (text_key x) fs)) (sym (find-put_other (text_key x) (text_key n) v es (other_key x n e))) h

  pub put_alike : (ms : Members) → MembersAlike ms (λ x. find (text_key x) es) (λ x. find (text_key x) fs) → MembersAlike ms (λ x. find (text_key x) (put (text_key n) v es)) (λ x. find (text_key x) fs)
  put_alike no_members h = tt
  put_alike (member x p ms) h = (at_name (bytes_eq x n) x p refl h.0, put_alike ms h.1)

  still_none : (b : Bool) (x : List ℕ) → bytes_eq x n ≡ b → find (text_key x) fs ≡ None → find (text_key x) es ≡ None → find (text_key x) (put (text_key n) v es) ≡ None
  still_none true x e h k =
      let same : x ≡ n = (bytes_eq-Decides x n).0 e in
      absurd (true≢false (ap is_some (sym there ∙ ap (λ y. find (text_key y) fs) (sym same) ∙ h)))
  still_none false x e h k = find-put_other (text_key x) (text_key n) v es (other_key x n e) ∙ k

  pub put_within : ((x : List ℕ) → find (text_key x) fs ≡ None → find (text_key x) es ≡ None) → (x : List ℕ) → find (text_key x) fs ≡ None → find (text_key x) (put (text_key n) v es) ≡ None
  put_within within x h = still_none (bytes_eq x n) x refl h (within x h)

  pub put_here : (p : Part) → Alike p v w → OptionsAlike (Alike p) (find (text_key n) (put (text_key n) v es)) (find (text_key n) fs)
  put_here p h = subst (λ o. OptionsAlike (Alike p) (find (text_key n) (put (text_key n) v es)) o) (sym there) (subst (λ o. OptionsAlike (Alike p) o (Some w)) (sym (find-put (text_key n) v es)) h)

-- neither has the entry
pub neither : (p : Part) (o q : Option Data) → o ≡ None → q ≡ None → OptionsAlike (Alike p) o q
neither p o q h k = subst (λ z. OptionsAlike (Alike p) z q) (sym h) (subst (λ z. OptionsAlike (Alike p) None z) (sym k) tt)

-- ---- the entries of a bound object

or_else_none : (o : Option Data) → o ≡ or_else o None
or_else_none None = refl
or_else_none (Some x) = refl

pub own_key : (keeps : Bool) (n : List ℕ) → escape n ≡ n → key_in keeps n ≡ n
own_key true n own = refl
own_key false n own = own

module _ {S : Type 0} (accessors : ConversionAccessors S) (l : ℕ) (o : Option S) (ms : json.Members) (n : List ℕ) where
  found_by : (o : Option S) → find (text_key (key_at accessors o n)) (entries_at accessors l o ms)
      ≡ or_else (option_map (value_at accessors l (node_of_member accessors o n)) (get_member n ms)) (field_besides (is_embedded_at accessors o) n)
  unfolding member_by field_besides
  found_by None = found_member n ms ∙ or_else_none (option_map plain (get_member n ms))
  found_by (Some s) = found_in_object accessors (to_cel accessors l) s ms n

  module _ (key : key_at accessors o n ≡ n) where
    pub member_there : (d : json.Data) → Some d ≡ get_member n ms → find (text_key n) (entries_at accessors l o ms) ≡ Some (value_at accessors l (node_of_member accessors o n) d)
    member_there d e = ap (λ k. find (text_key k) (entries_at accessors l o ms)) (sym key) ∙ found_by o
        ∙ ap (λ m. or_else (option_map (value_at accessors l (node_of_member accessors o n)) m) (field_besides (is_embedded_at accessors o) n)) (sym e)

    pub member_absent : None ≡ get_member n ms → is_embedded_at accessors o ≡ false → find (text_key n) (entries_at accessors l o ms) ≡ None
    unfolding field_besides
    member_absent e alone = ap (λ k. find (text_key k) (entries_at accessors l o ms)) (sym key) ∙ found_by o
        ∙ (λ i. or_else (option_map (value_at accessors l (node_of_member accessors o n)) (sym e i)) (field_besides (alone i) n))

-- ---- one more member

pub part_put : (done : List Entry) (m : Entry) (v w : Data) (es fs more : Entries) → find (text_key (name_of m)) es ≡ None → find (text_key (name_of m)) fs ≡ Some w → Alike (part_of m.1) v w → more ≡ put (text_key (name_of m)) v es
    → AreParts (members_view done) es fs → AreParts (members_view (done ++ m ∷ [])) more fs
part_put done m v w es fs more new there alike is k =
    let n = name_of m in
    subst (λ z. AreParts (members_view (done ++ m ∷ [])) z fs) (sym is) (
      members_last done m (λ x. find (text_key x) (put (text_key n) v es)) (λ x. find (text_key x) fs) (put_alike n v w es fs new there (members_view done) k.0) (put_here n v w es fs new there (part_of m.1) alike),
      put_within n v w es fs new there k.1,
    )

pub part_missing : (done : List Entry) (m : Entry) (es fs : Entries) → find (text_key (name_of m)) fs ≡ None → AreParts (members_view done) es fs → AreParts (members_view (done ++ m ∷ [])) es fs
part_missing done m es fs none k =
    let n = name_of m in (
      members_last done m (λ x. find (text_key x) es) (λ x. find (text_key x) fs) k.0 (neither (part_of m.1) (find (text_key n) es) (find (text_key n) fs) (k.1 n none) none),
      k.1,
    )

-- the names of members, as keys, are as many, and each is that of the member at its index
pub names_length : (es : List Entry) → length (name_keys es) ≡ length es
names_length [] = refl
names_length (e ∷ es) = ap suc (names_length es)

pub name_at : (es : List Entry) (i : ℕ) (m : Entry) → i < length es → m ≡ get_or es i m → slice_get (name_keys es) i ≡ Some (key.String (name_of m))
name_at [] i m lt is = absurd (omega (arith, lt))
name_at (e ∷ es) zero m lt is = ap (λ x. Some (key.String (name_of x))) (sym is)
name_at (e ∷ es) (suc i) m lt is = name_at es i m (omega (arith, lt)) is

pub names_more : (es : List Entry) (i : ℕ) (m : Entry) (ks : List Key) (k : Key) → i < length es → m ≡ get_or es i m → ks ≡ name_keys (take i es) → k ≡ key.String (name_of m) → ks ++ k ∷ [] ≡ name_keys (take (i + 1) es)
names_more es i m ks k lt is before here =
    let next : take (i + 1) es ≡ take i es ++ m ∷ [] = take_more es i m lt ∙ ap (λ y. take i es ++ y ∷ []) (sym is) in
    (λ j. before j ++ here j ∷ []) ∙ sym (map-append (λ e. key.String (name_of e)) (take i es) (m ∷ [])) ∙ ap name_keys (sym next)

none_shared : (ks : List Key) → entries_view (zip {K = Key} {X = Value} ks []) ≡ no_entries
none_shared [] = refl
none_shared (k ∷ ks) = refl

pub no_shared : (ks : List Key) (vs : List Value) → vs ≡ [] → entries_view (zip ks vs) ≡ no_entries
no_shared ks vs e = ap (λ xs. entries_view (zip ks xs)) e ∙ none_shared ks

-- the name of a member is its own escape, if those of all are
pub own_at : (es : List Entry) (i : ℕ) (m : Entry) → i < length es → m ≡ get_or es i m → AreOwnNames es → escape (name_of m) ≡ name_of m
own_at es i m lt is own = subst (λ x. escape (name_of x) ≡ name_of x) (sym is) (All-get_or (λ e. escape (name_of e) ≡ name_of e) es i m lt own)

pub no_parts : (es fs : Entries) → es ≡ no_entries → AreParts no_members es fs
no_parts es fs e = (tt, λ x h. ap (find (text_key x)) e)

pub not_true : (b : Bool) → not b ≡ true → b ≡ false
not_true false h = refl
not_true true h = absurd (true≢false (sym h))

-- ---- one more item

pub items_more : (R : Data → Data → Type 0) (parts : List Value) (part : Value) (f : Json → Data) (items : List Json) (i : ℕ) (x : Json) → i < length items → x ≡ get_or items i x
    → ListsAlike R (map view parts) (map f (take i items)) → R (view part) (f x) → ListsAlike R (map view (parts ++ part ∷ [])) (map f (take (i + 1) items))
items_more R parts part f items i x lt is h k =
    let next : map f (take (i + 1) items) ≡ map f (take i items) ++ f x ∷ [] = ap (map f) (take_more items i x lt ∙ ap (λ y. take i items ++ y ∷ []) (sym is)) ∙ map-append f (take i items) (x ∷ []) in
    subst (λ ys. ListsAlike R (map view (parts ++ part ∷ [])) ys) (sym next)
    (subst (λ vs. ListsAlike R vs (map f (take i items) ++ f x ∷ [])) (sym (map-append view parts (part ∷ []))) (lists_last R (map view parts) (map f (take i items)) (view part) (f x) h k))

-- ---- the conversion of lists and objects

plain_list : (vs : List Json) → plain (json.array (json_items_view vs)) ≡ list (items_of (map (λ v. plain (json_view v)) vs))
unfolding plain
plain_list vs = ap list (plain_items_is vs)

module _ {S : Type 0} (accessors : ConversionAccessors S) where
  items_bound : (n : ℕ) (i : Option S) (vs : List Json) → option_map_or (λ p. list (items_by (to_cel accessors n p) (json_items_view vs))) i (plain (json.array (json_items_view vs)))
      ≡ list (items_of (map (λ v. value_at accessors n i (json_view v)) vs))
  items_bound n None vs = plain_list vs
  items_bound n (Some p) vs = ap list (items_by_is (to_cel accessors n p) vs)

  pub list_bound : (k n : ℕ) (o : Option S) (d : json.Data) (vs : List Json) → k ≡ suc n → d ≡ json.array (json_items_view vs)
      → value_at accessors k o d ≡ list (items_of (map (λ v. value_at accessors n (items_node accessors o) (json_view v)) vs))
  unfolding to_cel_by
  list_bound k n None d vs e is = ap plain is ∙ plain_list vs
  list_bound k n (Some s) d vs e is = bound_within accessors k n s d e ∙ ap (to_cel_by accessors (to_cel accessors n) s) is ∙ items_bound n (accessors.items s) vs

  pub object_bound : (k n : ℕ) (o : Option S) (d : json.Data) (ms : json.Members) → k ≡ suc n → d ≡ json.object ms → value_at accessors k o d ≡ map_of (entries_at accessors n o ms)
  unfolding to_cel_by plain
  object_bound k n None d ms e is = ap plain is
  object_bound k n (Some s) d ms e is = bound_within accessors k n s d e ∙ ap (to_cel_by accessors (to_cel accessors n) s) is

-- ---- the conversion of scalars

scalar_plain : (d : json.Data) (v : Data) → Some v ≡ scalar_of d → v ≡ plain d
unfolding plain
scalar_plain json.null v e = cc
scalar_plain (json.boolean b) v e = cc
scalar_plain (json.number n) v e = cc
scalar_plain (json.string s) v e = cc
scalar_plain (json.array ds) v e = cc
scalar_plain (json.object ms) v e = cc

module _ {S : Type 0} (accessors : ConversionAccessors S) where
  scalar_within : (n : ℕ) (s : S) (d : json.Data) (v : Data) → Some v ≡ scalar_of d → v ≡ to_cel_by accessors (to_cel accessors n) s d
  unfolding to_cel_by
  scalar_within n s json.null v e = cc
  scalar_within n s (json.boolean b) v e = cc
  scalar_within n s (json.number m) v e = cc
  scalar_within n s (json.string t) v e = cc
  scalar_within n s (json.array ds) v e = cc
  scalar_within n s (json.object ms) v e = cc

  scalar_by : (k : ℕ) (s : S) (d : json.Data) (v : Data) → Some v ≡ scalar_of d → v ≡ to_cel accessors k s d
  scalar_by zero s d v e = scalar_plain d v e ∙ sym (bound_past accessors zero s d refl)
  scalar_by (suc n) s d v e = scalar_within n s d v e ∙ sym (bound_within accessors (suc n) n s d refl)

  pub scalar_bound : (k : ℕ) (o : Option S) (d : json.Data) (v : Data) → Some v ≡ scalar_of d → v ≡ value_at accessors k o d
  scalar_bound k None d v e = scalar_plain d v e
  scalar_bound k (Some s) d v e = scalar_by k s d v e
