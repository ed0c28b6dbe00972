-- The schemas that are read are those that some walk visits.
use Rattle.std.proofs.Common.{◌≡◌, ◌≤◌, ◌<◌, ◌+◌, ◌⊎◌, ℕ, zero, suc, List, [], ◌∷◌, ◌++◌, length, Bool, true, false, Option, Some, None, is_some, cond, option_map, option_and_then, Ordering, Less, Equal, Greater, refl, sym, ap, ◌∙◌, subst, inl, inr, arith, codes, Contains}
use Rattle.std.proofs.lemmas.Cmp.{nat_list_cmp_total, tied_itself}
use Rattle.std.proofs.lemmas.List.{length-append}
use Rattle.std.specs.Ordering.{match_ordering}
use Rattle.kube_schema_rules.proofs.Ordered.{IsIn, Contains-from_in, in_from_Contains, in_left, in_right}
use Rattle.kube_schema_rules.proofs.Sorted.{key_cmp, same_key}
use Rattle.kube_schema.specs.BranchKind.{BranchKind}
use Rattle.kube_schema.specs.BranchKind.TheVariants.{AllOf, OneOf, AnyOf}
use Rattle.kube_schema.specs.RulesRaw.{declared_property, raw_steps, undeclared_property}
use Rattle.kube_schema.specs.Step.{Step, property, item, additional_property, branch, keyword}
use Rattle.kube_schema.specs.Visit.{Root, Visit, further, goes, member_path, root_visit, unless_there, visit}
use Rattle.kube_schema.specs.Walk.{leads}
use Rattle.kube_schema.specs.View.{branches, items_or_none}
use Rattle.kube_schema.specs.DefaultsAccessors.{members_or_none}
use Rattle.kube_manifests_review.specs.Locations.{SchemaLocation, branch_locations, item_locations, locations_of, locations_within, maybe_locations, named_locations, named_schemas, names_locations, passed_over, unread_within}
use Rattle.kube_manifests_documents.specs.Pointers.{index_pointer, key_pointer, keyword_pointer}
use Rattle.kube_manifests_review.specs.Visited.{IsVisited, KeysOnce, KeysOnceInItems, KeysOnceInMembers, pointer_after, pointer_behind}
use Rattle.serde_json.specs.Data.{Data, null, boolean, number, string, array, object, Items, no_items, item as item_and, Members, no_members, member}
use Rattle.serde_json.specs.Find.{at, as_array, as_object, get, get_item, get_member}

abbrev Locate : Type 0
Locate = List ℕ → Data → List SchemaLocation

-- ---- what a walk visits is read

node_of_further : (r : Option Root) (n : ℕ) (path : List ℕ) (node : Option Data) (value old : Option Data) (u : Visit Data) → further r n path node value old ≡ Some u → node ≡ Some u.node
node_of_further r n path None value old u e = cc
node_of_further r n path (Some s) None old u e = cc
node_of_further r n path (Some s) (Some d) old u e = let same : visit s d old r path (n + 1) ≡ u = cc in ap (λ x. Some x.node) same

unless_second : (a b : Option Data) (d : Data) → unless_there a b ≡ Some d → b ≡ Some d
unless_second None b d e = e
unless_second (Some a) b d e = cc

members_in : (f : Locate) (q k : List ℕ) (ms : Members) (d : Data) (x : SchemaLocation) → get_member k ms ≡ Some d → IsIn x (f (key_pointer q k) d) → IsIn x (named_locations f q ms)
members_in f q k no_members d x e h = cc
members_in f q k (member l c ms) d x e h = by (key_cmp k l) refl e (λ g. members_in f q k ms d x g h)
  where
    by : (o : Ordering) → key_cmp k l ≡ o → match_ordering o (get_member k ms) (Some c) (get_member k ms) ≡ Some d → (get_member k ms ≡ Some d → IsIn x (named_locations f q ms)) → IsIn x (named_locations f q (member l c ms))
    by Less t g r = in_right x (f (key_pointer q l) c) (named_locations f q ms) (r g)
    by Equal t g r =
        let same : c ≡ d = cc in
        in_left x (f (key_pointer q l) c) (named_locations f q ms) (subst (λ j. IsIn x (f (key_pointer q j) c)) (same_key k l t) (subst (λ y. IsIn x (f (key_pointer q k) y)) (sym same) h))
    by Greater t g r = in_right x (f (key_pointer q l) c) (named_locations f q ms) (r g)

names_in : (f : Locate) (q k : List ℕ) (o : Option Data) (d : Data) (x : SchemaLocation) → option_and_then (get k) o ≡ Some d → IsIn x (f (key_pointer q k) d)
    → IsIn x (named_locations f q (members_or_none (option_and_then as_object o)))
names_in f q k None d x e h = cc
names_in f q k (Some null) d x e h = cc
names_in f q k (Some (boolean b)) d x e h = cc
names_in f q k (Some (number n)) d x e h = cc
names_in f q k (Some (string s)) d x e h = cc
names_in f q k (Some (array ds)) d x e h = cc
names_in f q k (Some (object ms)) d x e h = members_in f q k ms d x e h

maybe_in : (f : Locate) (q : List ℕ) (o : Option Data) (d : Data) (x : SchemaLocation) → o ≡ Some d → IsIn x (f q d) → IsIn x (maybe_locations f q o)
maybe_in f q None d x e h = cc
maybe_in f q (Some c) d x e h = let same : c ≡ d = cc in subst (λ y. IsIn x (f q y)) (sym same) h

items_in : (f : Locate) (q : List ℕ) (j i n : ℕ) (ds : Items) (d : Data) (x : SchemaLocation) → n ≡ j + i → get_item i ds ≡ Some d → IsIn x (f (index_pointer q n) d) → IsIn x (item_locations f q j ds)
items_in f q j i n no_items d x a e h = cc
items_in f q j zero n (item_and c ds) d x a e h =
    let same : c ≡ d = cc in
    let here : n ≡ j = omega (arith, a) in
    in_left x (f (index_pointer q j) c) (item_locations f q (suc j) ds) (subst (λ m. IsIn x (f (index_pointer q m) c)) here (subst (λ y. IsIn x (f (index_pointer q n) y)) (sym same) h))
items_in f q j (suc i) n (item_and c ds) d x a e h =
    let next : n ≡ suc j + i = omega (arith, a) in
    in_right x (f (index_pointer q j) c) (item_locations f q (suc j) ds) (items_in f q (suc j) i n ds d x next e h)

list_in : (f : Locate) (q : List ℕ) (i : ℕ) (o : Option Data) (d : Data) (x : SchemaLocation) → option_and_then (at i) o ≡ Some d → IsIn x (f (index_pointer q i) d)
    → IsIn x (item_locations f q 0 (items_or_none (option_and_then as_array o)))
list_in f q i None d x e h = cc
list_in f q i (Some null) d x e h = cc
list_in f q i (Some (boolean b)) d x e h = cc
list_in f q i (Some (number n)) d x e h = cc
list_in f q i (Some (string s)) d x e h = cc
list_in f q i (Some (object ms)) d x e h = cc
list_in f q i (Some (array ds)) d x e h = items_in f q 0 i i ds d x (omega arith) e h

-- the schemas of the branches of one keyword, among all that are read within a schema
branch_in : (f : Locate) (p : List ℕ) (s : Data) (kind : BranchKind) (x : SchemaLocation) → IsIn x (branch_locations f p (keyword kind) s)
    → IsIn x (branch_locations f p (codes "allOf") s ++ (branch_locations f p (codes "oneOf") s ++ branch_locations f p (codes "anyOf") s))
branch_in f p s AllOf x h = in_left x (branch_locations f p (codes "allOf") s) (branch_locations f p (codes "oneOf") s ++ branch_locations f p (codes "anyOf") s) h
branch_in f p s OneOf x h =
    in_right x (branch_locations f p (codes "allOf") s) (branch_locations f p (codes "oneOf") s ++ branch_locations f p (codes "anyOf") s)
    (in_left x (branch_locations f p (codes "oneOf") s) (branch_locations f p (codes "anyOf") s) h)
branch_in f p s AnyOf x h =
    in_right x (branch_locations f p (codes "allOf") s) (branch_locations f p (codes "oneOf") s ++ branch_locations f p (codes "anyOf") s)
    (in_right x (branch_locations f p (codes "oneOf") s) (branch_locations f p (codes "anyOf") s) h)

-- a schema that one step leads to is read
step_in : (f : Locate) (q : Step) (p : List ℕ) (v u : Visit Data) (x : SchemaLocation) → goes raw_steps q v ≡ Some u → IsIn x (f (pointer_after p q) u.node) → IsIn x (locations_within f p v.node)
unfolding goes raw_steps declared_property locations_within named_schemas branches
step_in f (property k) p v u x e h =
    in_left x (names_locations f p (codes "properties") v.node) _
    (names_in f (keyword_pointer p (codes "properties")) k (get (codes "properties") v.node) u.node x (node_of_further None v.depth _ (declared_property k v.node) _ _ u e) h)
step_in f (item i) p v u x e h =
    in_right x (names_locations f p (codes "properties") v.node) _
    (in_left x (maybe_locations f (keyword_pointer p (codes "items")) (get (codes "items") v.node)) _
    (maybe_in f (keyword_pointer p (codes "items")) (get (codes "items") v.node) u.node x (node_of_further None v.depth _ (get (codes "items") v.node) _ _ u e) h))
step_in f (additional_property k) p v u x e h =
    in_right x (names_locations f p (codes "properties") v.node) _
    (in_right x (maybe_locations f (keyword_pointer p (codes "items")) (get (codes "items") v.node)) _
    (in_left x (maybe_locations f (keyword_pointer p (codes "additionalProperties")) (undeclared_property v.node)) _
    (maybe_in f (keyword_pointer p (codes "additionalProperties")) (undeclared_property v.node) u.node x
    (unless_second (declared_property k v.node) (undeclared_property v.node) u.node (node_of_further None v.depth _ (unless_there (declared_property k v.node) (undeclared_property v.node)) _ _ u e)) h)))
step_in f (branch kind i) p v u x e h =
    in_right x (names_locations f p (codes "properties") v.node) _
    (in_right x (maybe_locations f (keyword_pointer p (codes "items")) (get (codes "items") v.node)) _
    (in_right x (maybe_locations f (keyword_pointer p (codes "additionalProperties")) (undeclared_property v.node)) _
    (branch_in f p v.node kind x
    (list_in f (keyword_pointer p (keyword kind)) i (get (keyword kind) v.node) u.node x (node_of_further v.root v.depth v.path (option_and_then (at i) (get (keyword kind) v.node)) (Some v.value) v.old u e) h))))

abbrev read_at : List ℕ → Data → SchemaLocation
read_at p s = record { pointer = p; schema = s; is_read = true }

visited_in : (n : ℕ) (p : List ℕ) (steps : List Step) (v w : Visit Data) → length steps ≤ n → leads (goes raw_steps) steps v ≡ Some w
    → IsIn (read_at (pointer_behind p steps) w.node) (locations_of (suc n) true p v.node)
unfolding locations_of leads pointer_behind
visited_in n p [] v w h e = let same : v ≡ w = cc in inl (ap (λ u. read_at p u.node) same)
visited_in zero p (q ∷ qs) v w h e = let no : ⊥ = omega (arith, h) in absurd no
visited_in (suc m) p (q ∷ qs) v w h e =
    let short : length qs ≤ m = omega (arith, h) in
    by (goes raw_steps q v) refl e (λ u g. visited_in m (pointer_after p q) qs u w short g)
  where
    by : (o : Option (Visit Data)) → goes raw_steps q v ≡ o → option_and_then (leads (goes raw_steps) qs) o ≡ Some w
        → ((u : Visit Data) → leads (goes raw_steps) qs u ≡ Some w → IsIn (read_at (pointer_behind (pointer_after p q) qs) w.node) (locations_of (suc m) true (pointer_after p q) u.node))
        → IsIn (read_at (pointer_behind (pointer_after p q) qs) w.node) (locations_of (suc (suc m)) true p v.node)
    by None f g r = cc
    by (Some u) f g r =
        inr (in_left (read_at (pointer_behind (pointer_after p q) qs) w.node) (locations_within (locations_of (suc m) true) p v.node) _
        (step_in (locations_of (suc m) true) q p v u (read_at (pointer_behind (pointer_after p q) qs) w.node) f (r u g)))

pub visited_are_read : (schema value : Data) (old : Option Data) (root : Option Root) (p : List ℕ) (steps : List Step) (w : Visit Data) → length steps ≤ 64
    → leads (goes raw_steps) steps (root_visit schema value old root) ≡ Some w
    → Contains (locations_of 65 true p schema) (record { pointer = pointer_behind p steps; schema = w.node; is_read = true })
visited_are_read schema value old root p steps w h e =
    Contains-from_in (read_at (pointer_behind p steps) w.node) (locations_of 65 true p schema) (visited_in 64 p steps (root_visit schema value old root) w h e)

-- ---- what is read is visited by some walk

in_parts : (x : SchemaLocation) (xs ys : List SchemaLocation) → IsIn x (xs ++ ys) → IsIn x xs ⊎ IsIn x ys
in_parts x [] ys h = inr h
in_parts x (z ∷ xs) ys (inl e) = inl (inl e)
in_parts x (z ∷ xs) ys (inr h) = elim (in_parts x xs ys h) [ inl a ↦ inl (inr a) | inr b ↦ inr b ]

not_in_either : (x : SchemaLocation) (xs ys : List SchemaLocation) → (IsIn x xs → ⊥) → (IsIn x ys → ⊥) → IsIn x (xs ++ ys) → ⊥
not_in_either x xs ys a b h = elim (in_parts x xs ys h) [ inl g ↦ a g | inr g ↦ b g ]

-- if f has it nowhere, no list made by f has it
module _ (f : Locate) (x : SchemaLocation) (nowhere : (q : List ℕ) (d : Data) → IsIn x (f q d) → ⊥) where
  no_names : (q : List ℕ) (ms : Members) → IsIn x (named_locations f q ms) → ⊥
  no_names q no_members h = h
  no_names q (member k d ms) h = not_in_either x (f (key_pointer q k) d) (named_locations f q ms) (nowhere (key_pointer q k) d) (no_names q ms) h

  no_maybe : (q : List ℕ) (o : Option Data) → IsIn x (maybe_locations f q o) → ⊥
  no_maybe q None h = h
  no_maybe q (Some d) h = nowhere q d h

  no_list : (q : List ℕ) (j : ℕ) (ds : Items) → IsIn x (item_locations f q j ds) → ⊥
  no_list q j no_items h = h
  no_list q j (item_and d ds) h = not_in_either x (f (index_pointer q j) d) (item_locations f q (suc j) ds) (nowhere (index_pointer q j) d) (no_list q (suc j) ds) h

  no_within : (p : List ℕ) (s : Data) → IsIn x (locations_within f p s) → ⊥
  unfolding locations_within
  no_within p s =
      not_in_either x (names_locations f p (codes "properties") s) _ (no_names _ _)
      (not_in_either x (maybe_locations f (keyword_pointer p (codes "items")) (get (codes "items") s)) _ (no_maybe _ _)
      (not_in_either x (maybe_locations f (keyword_pointer p (codes "additionalProperties")) (undeclared_property s)) _ (no_maybe _ _)
      (not_in_either x (branch_locations f p (codes "allOf") s) _ (no_list _ 0 _)
      (not_in_either x (branch_locations f p (codes "oneOf") s) (branch_locations f p (codes "anyOf") s) (no_list _ 0 _) (no_list _ 0 _)))))

  no_unread : (p : List ℕ) (s : Data) → IsIn x (unread_within f p s) → ⊥
  unfolding unread_within
  no_unread p s =
      not_in_either x (maybe_locations f (keyword_pointer p (codes "additionalProperties")) (passed_over s)) _ (no_maybe _ _)
      (not_in_either x (maybe_locations f (keyword_pointer p (codes "not")) (get (codes "not") s)) _ (no_maybe _ _)
      (not_in_either x (maybe_locations f (keyword_pointer p (codes "additionalItems")) (get (codes "additionalItems") s)) _ (no_maybe _ _)
      (not_in_either x (branch_locations f p (codes "items") s) _ (no_list _ 0 _)
      (not_in_either x (names_locations f p (codes "patternProperties") s) _ (no_names _ _)
      (not_in_either x (names_locations f p (codes "definitions") s) (names_locations f p (codes "dependencies") s) (no_names _ _) (no_names _ _))))))

-- nothing within a schema that isn't read is read
none_read : (n : ℕ) (p : List ℕ) (s : Data) (x : SchemaLocation) → x.is_read ≡ true → IsIn x (locations_of n false p s) → ⊥
unfolding locations_of
none_read zero p s x r h = h
none_read (suc n) p s x r (inl e) = let same : false ≡ true = ap (λ l. l.is_read) e ∙ r in cc
none_read (suc n) p s x r (inr h) =
    not_in_either x (locations_within (locations_of n false) p s) (unread_within (locations_of n false) p s)
    (no_within (locations_of n false) x (λ q d g. none_read n q d x r g) p s) (no_unread (locations_of n false) x (λ q d g. none_read n q d x r g) p s) h

-- a key that no member has
above : Members → List ℕ
above no_members = []
above (member k d ms) = 0 ∷ (k ++ above ms)

not_there : (z : List ℕ) (ms : Members) → length (above ms) ≤ length z → get_member z ms ≡ None
unfolding above
not_there z no_members h = refl
not_there z (member k d ms) h =
    let long = length-append k (above ms) in
    by (key_cmp z k) refl (not_there z ms (omega (arith, h, long)))
  where
    by : (o : Ordering) → key_cmp z k ≡ o → get_member z ms ≡ None → match_ordering o (get_member z ms) (Some d) (get_member z ms) ≡ None
    by Less e r = r
    by Equal e r =
        let long = length-append k (above ms) in
        let same = ap length (same_key z k e) in
        let no : ⊥ = omega (arith, h, long, same) in
        absurd no
    by Greater e r = r

-- a key that `properties` doesn't declare
undeclared_key : Option Data → List ℕ
undeclared_key None = []
undeclared_key (Some null) = []
undeclared_key (Some (boolean b)) = []
undeclared_key (Some (number n)) = []
undeclared_key (Some (string s)) = []
undeclared_key (Some (array ds)) = []
undeclared_key (Some (object ms)) = above ms

is_undeclared : (o : Option Data) → option_and_then (get (undeclared_key o)) o ≡ None
unfolding undeclared_key
is_undeclared None = refl
is_undeclared (Some null) = refl
is_undeclared (Some (boolean b)) = refl
is_undeclared (Some (number n)) = refl
is_undeclared (Some (string s)) = refl
is_undeclared (Some (array ds)) = refl
is_undeclared (Some (object ms)) = not_there (above ms) ms (omega arith)

found_itself : (k : List ℕ) (d : Data) → get k (object (member k d no_members)) ≡ Some d
found_itself k d = ap (λ o. match_ordering o None (Some d) None) (tied_itself nat_list_cmp_total k)

-- ---- one step

-- the step leads from a schema, with the outer value, to a schema, with the inner value
abbrev LeadsOn : Data → Step → Data → Data → Data → Type 0
LeadsOn s q d outer inner = (v : Visit Data) → v.node ≡ s → v.value ≡ outer → (u : Visit Data) × (goes raw_steps q v ≡ Some u) × (u.node ≡ d) × (u.value ≡ inner)

-- some step leads on to a schema that has x by f, whatever value is wanted there
abbrev Found : Locate → List ℕ → Data → SchemaLocation → Type 0
Found f p s x = (q : Step) × (d : Data) × IsIn x (f (pointer_after p q) d) × KeysOnce d × ((inner : Data) → (outer : Data) × LeadsOn s q d outer inner)

goes_there : (r : Option Root) (n : ℕ) (path : List ℕ) (node : Option Data) (value old : Option Data) (s d : Data) → node ≡ Some s → value ≡ Some d
    → (u : Visit Data) × (further r n path node value old ≡ Some u) × (u.node ≡ s) × (u.value ≡ d)
goes_there r n path there value old s d e g = (visit s d old r path (n + 1), rw (e, g) refl, refl, refl)

by_property : (s : Data) (k : List ℕ) (d inner : Data) → declared_property k s ≡ Some d → LeadsOn s (property k) d (object (member k inner no_members)) inner
unfolding goes raw_steps
by_property s k d inner e v a b =
    goes_there None v.depth (member_path v.path k) (declared_property k v.node) (get k v.value) _ d inner (ap (declared_property k) a ∙ e) (ap (get k) b ∙ found_itself k inner)

by_item : (s d inner : Data) → get (codes "items") s ≡ Some d → LeadsOn s (item 0) d (array (item_and inner no_items)) inner
unfolding goes raw_steps
by_item s d inner e v a b = goes_there None v.depth _ (get (codes "items") v.node) (at 0 v.value) _ d inner (ap (get (codes "items")) a ∙ e) (ap (at 0) b)

by_additional : (s : Data) (k : List ℕ) (d inner : Data) → declared_property k s ≡ None → undeclared_property s ≡ Some d → LeadsOn s (additional_property k) d (object (member k inner no_members)) inner
unfolding goes raw_steps
by_additional s k d inner none e v a b =
    goes_there None v.depth (member_path v.path k) (unless_there (declared_property k v.node) (undeclared_property v.node)) (get k v.value) _ d inner
    (ap (λ t. unless_there (declared_property k t) (undeclared_property t)) a ∙ ap (λ o. unless_there o (undeclared_property s)) none ∙ e) (ap (get k) b ∙ found_itself k inner)

by_branch : (s : Data) (kind : BranchKind) (i : ℕ) (d inner : Data) → option_and_then (at i) (get (keyword kind) s) ≡ Some d → LeadsOn s (branch kind i) d inner inner
unfolding goes raw_steps
by_branch s kind i d inner e v a b =
    goes_there v.root v.depth v.path (option_and_then (at i) (get (keyword kind) v.node)) (Some v.value) v.old d inner
    (ap (λ t. option_and_then (at i) (get (keyword kind) t)) a ∙ e) (ap (λ x. Some x) b)

-- ---- keys once, within

once_member : (k : List ℕ) (ms : Members) (d : Data) → KeysOnceInMembers ms → get_member k ms ≡ Some d → KeysOnce d
once_member k no_members d h e = cc
once_member k (member l c ms) d h e = by (key_cmp k l) e (λ g. once_member k ms d h.2 g)
  where
    by : (o : Ordering) → match_ordering o (get_member k ms) (Some c) (get_member k ms) ≡ Some d → (get_member k ms ≡ Some d → KeysOnce d) → KeysOnce d
    by Less g r = r g
    by Equal g r = let same : c ≡ d = cc in subst KeysOnce same h.1
    by Greater g r = r g

once_get : (k : List ℕ) (s d : Data) → KeysOnce s → get k s ≡ Some d → KeysOnce d
once_get k null d h e = cc
once_get k (boolean b) d h e = cc
once_get k (number n) d h e = cc
once_get k (string t) d h e = cc
once_get k (array ds) d h e = cc
once_get k (object ms) d h e = once_member k ms d h e

once_item : (i : ℕ) (ds : Items) (d : Data) → KeysOnceInItems ds → get_item i ds ≡ Some d → KeysOnce d
once_item i no_items d h e = cc
once_item zero (item_and c ds) d h e = let same : c ≡ d = cc in subst KeysOnce same h.0
once_item (suc i) (item_and c ds) d h e = once_item i ds d h.1 e

-- ---- the schema that a location was found in

-- a member that has it, which is the one that is found by its key
from_names : (f : Locate) (q : List ℕ) (ms : Members) (x : SchemaLocation) → KeysOnceInMembers ms → IsIn x (named_locations f q ms)
    → (k : List ℕ) × (d : Data) × (get_member k ms ≡ Some d) × IsIn x (f (key_pointer q k) d)
from_names f q no_members x once h = absurd h
from_names f q (member l c ms) x once h =
    elim (in_parts x (f (key_pointer q l) c) (named_locations f q ms) h) [ inl a ↦ (l, c, found_here, a) | inr b ↦ later (from_names f q ms x once.2 b) ]
  where
    found_here : match_ordering (key_cmp l l) (get_member l ms) (Some c) (get_member l ms) ≡ Some c
    found_here = ap (λ o. match_ordering o (get_member l ms) (Some c) (get_member l ms)) (tied_itself nat_list_cmp_total l)

    behind : (k : List ℕ) (d : Data) (o : Ordering) → key_cmp k l ≡ o → get_member k ms ≡ Some d → match_ordering o (get_member k ms) (Some c) (get_member k ms) ≡ Some d
    behind k d Less t g = g
    behind k d Equal t g = let no : None ≡ Some d = sym once.0 ∙ ap (λ j. get_member j ms) (sym (same_key k l t)) ∙ g in cc
    behind k d Greater t g = g

    later : (k : List ℕ) × (d : Data) × (get_member k ms ≡ Some d) × IsIn x (f (key_pointer q k) d)
        → (k : List ℕ) × (d : Data) × (get_member k (member l c ms) ≡ Some d) × IsIn x (f (key_pointer q k) d)
    later r = (r.0, r.1, behind r.0 r.1 (key_cmp r.0 l) refl r.2, r.3)

from_maybe : (f : Locate) (q : List ℕ) (o : Option Data) (x : SchemaLocation) → IsIn x (maybe_locations f q o) → (d : Data) × (o ≡ Some d) × IsIn x (f q d)
from_maybe f q None x h = absurd h
from_maybe f q (Some d) x h = (d, refl, h)

from_items : (f : Locate) (q : List ℕ) (j : ℕ) (ds : Items) (x : SchemaLocation) → IsIn x (item_locations f q j ds) → (i : ℕ) × (d : Data) × (get_item i ds ≡ Some d) × IsIn x (f (index_pointer q (j + i)) d)
from_items f q j no_items x h = absurd h
from_items f q j (item_and c ds) x h =
    elim (in_parts x (f (index_pointer q j) c) (item_locations f q (suc j) ds) h) [ inl a ↦ (0, c, refl, subst (λ m. IsIn x (f (index_pointer q m) c)) here a) | inr b ↦ later (from_items f q (suc j) ds x b) ]
  where
    here : j ≡ j + 0
    here = omega arith

    later : (i : ℕ) × (d : Data) × (get_item i ds ≡ Some d) × IsIn x (f (index_pointer q (suc j + i)) d) → (i : ℕ) × (d : Data) × (get_item i (item_and c ds) ≡ Some d) × IsIn x (f (index_pointer q (j + i)) d)
    later r = let same : suc j + r.0 ≡ j + suc r.0 = omega arith in (suc r.0, r.1, r.2, subst (λ m. IsIn x (f (index_pointer q m) r.1)) same r.3)

-- the members of `properties`
found_named : (f : Locate) (p : List ℕ) (s : Data) (x : SchemaLocation) → KeysOnce s → IsIn x (names_locations f p (codes "properties") s) → Found f p s x
unfolding declared_property named_schemas
found_named f p s x once h = by (get (codes "properties") s) refl h
  where
    q : List ℕ
    q = keyword_pointer p (codes "properties")

    by : (o : Option Data) → get (codes "properties") s ≡ o → IsIn x (named_locations f q (members_or_none (option_and_then as_object o))) → Found f p s x
    by None e g = absurd g
    by (Some null) e g = absurd g
    by (Some (boolean b)) e g = absurd g
    by (Some (number n)) e g = absurd g
    by (Some (string t)) e g = absurd g
    by (Some (array ds)) e g = absurd g
    by (Some (object ms)) e g =
        let once_in : KeysOnceInMembers ms = once_get (codes "properties") s (object ms) once e in
        let r = from_names f q ms x once_in g in
        let declared : declared_property r.0 s ≡ Some r.1 = ap (option_and_then (get r.0)) e ∙ r.2 in
        (property r.0, r.1, r.3, once_member r.0 ms r.1 once_in r.2, λ inner. (object (member r.0 inner no_members), by_property s r.0 r.1 inner declared))

found_items : (f : Locate) (p : List ℕ) (s : Data) (x : SchemaLocation) → KeysOnce s → IsIn x (maybe_locations f (keyword_pointer p (codes "items")) (get (codes "items") s)) → Found f p s x
found_items f p s x once h =
    let r = from_maybe f (keyword_pointer p (codes "items")) (get (codes "items") s) x h in
    (item 0, r.0, r.2, once_get (codes "items") s r.0 once r.1, λ inner. (array (item_and inner no_items), by_item s r.0 inner r.1))

once_undeclared : (s d : Data) → KeysOnce s → undeclared_property s ≡ Some d → KeysOnce d
unfolding undeclared_property
once_undeclared s d once e = by _ (get (codes "additionalProperties") s) refl e
  where
    object_only : (c : Data) (b : Bool) → cond b (Some c) None ≡ Some d → c ≡ d
    object_only c true e = cc
    object_only c false e = cc

    by : (b : Bool) (o : Option Data) → get (codes "additionalProperties") s ≡ o → cond b None (option_and_then (λ schema. cond (is_some (as_object schema)) (Some schema) None) o) ≡ Some d → KeysOnce d
    by true o g e = cc
    by false None g e = cc
    by false (Some c) g e = subst KeysOnce (object_only c (is_some (as_object c)) e) (once_get (codes "additionalProperties") s c once g)

found_undeclared : (f : Locate) (p : List ℕ) (s : Data) (x : SchemaLocation) → KeysOnce s → IsIn x (maybe_locations f (keyword_pointer p (codes "additionalProperties")) (undeclared_property s)) → Found f p s x
unfolding declared_property
found_undeclared f p s x once h =
    let r = from_maybe f (keyword_pointer p (codes "additionalProperties")) (undeclared_property s) x h in
    let k = undeclared_key (get (codes "properties") s) in
    (additional_property k, r.0, r.2, once_undeclared s r.0 once r.1, λ inner. (object (member k inner no_members), by_additional s k r.0 inner (is_undeclared (get (codes "properties") s)) r.1))

found_branch : (f : Locate) (p : List ℕ) (s : Data) (kind : BranchKind) (x : SchemaLocation) → KeysOnce s → IsIn x (branch_locations f p (keyword kind) s) → Found f p s x
unfolding branches
found_branch f p s kind x once h = by (get (keyword kind) s) refl h
  where
    q : List ℕ
    q = keyword_pointer p (keyword kind)

    by : (o : Option Data) → get (keyword kind) s ≡ o → IsIn x (item_locations f q 0 (items_or_none (option_and_then as_array o))) → Found f p s x
    by None e g = absurd g
    by (Some null) e g = absurd g
    by (Some (boolean b)) e g = absurd g
    by (Some (number n)) e g = absurd g
    by (Some (string t)) e g = absurd g
    by (Some (object ms)) e g = absurd g
    by (Some (array ds)) e g =
        let r = from_items f q 0 ds x g in
        let same : 0 + r.0 ≡ r.0 = omega arith in
        let there : option_and_then (at r.0) (get (keyword kind) s) ≡ Some r.1 = ap (option_and_then (at r.0)) e ∙ r.2 in
        (branch kind r.0, r.1, subst (λ m. IsIn x (f (index_pointer q m) r.1)) same r.3, once_item r.0 ds r.1 (once_get (keyword kind) s (array ds) once e) r.2, λ inner. (inner, by_branch s kind r.0 r.1 inner there))

found_within : (f : Locate) (p : List ℕ) (s : Data) (x : SchemaLocation) → KeysOnce s → IsIn x (locations_within f p s) → Found f p s x
unfolding locations_within
found_within f p s x once h = by (in_parts x (names_locations f p (codes "properties") s) _ h)
  where
    any_of : IsIn x (branch_locations f p (codes "oneOf") s) ⊎ IsIn x (branch_locations f p (codes "anyOf") s) → Found f p s x
    any_of (inl a) = found_branch f p s OneOf x once a
    any_of (inr b) = found_branch f p s AnyOf x once b

    all_of : IsIn x (branch_locations f p (codes "allOf") s) ⊎ IsIn x (branch_locations f p (codes "oneOf") s ++ branch_locations f p (codes "anyOf") s) → Found f p s x
    all_of (inl a) = found_branch f p s AllOf x once a
    all_of (inr b) = any_of (in_parts x (branch_locations f p (codes "oneOf") s) (branch_locations f p (codes "anyOf") s) b)

    others : IsIn x (maybe_locations f (keyword_pointer p (codes "additionalProperties")) (undeclared_property s))
        ⊎ IsIn x (branch_locations f p (codes "allOf") s ++ (branch_locations f p (codes "oneOf") s ++ branch_locations f p (codes "anyOf") s)) → Found f p s x
    others (inl a) = found_undeclared f p s x once a
    others (inr b) = all_of (in_parts x (branch_locations f p (codes "allOf") s) _ b)

    items : IsIn x (maybe_locations f (keyword_pointer p (codes "items")) (get (codes "items") s))
        ⊎ IsIn x (maybe_locations f (keyword_pointer p (codes "additionalProperties")) (undeclared_property s)
        ++ (branch_locations f p (codes "allOf") s ++ (branch_locations f p (codes "oneOf") s ++ branch_locations f p (codes "anyOf") s))) → Found f p s x
    items (inl a) = found_items f p s x once a
    items (inr b) = others (in_parts x (maybe_locations f (keyword_pointer p (codes "additionalProperties")) (undeclared_property s)) _ b)

    by : IsIn x (names_locations f p (codes "properties") s)
        ⊎ IsIn x (maybe_locations f (keyword_pointer p (codes "items")) (get (codes "items") s)
        ++ (maybe_locations f (keyword_pointer p (codes "additionalProperties")) (undeclared_property s)
        ++ (branch_locations f p (codes "allOf") s ++ (branch_locations f p (codes "oneOf") s ++ branch_locations f p (codes "anyOf") s)))) → Found f p s x
    by (inl a) = found_named f p s x once a
    by (inr b) = items (in_parts x (maybe_locations f (keyword_pointer p (codes "items")) (get (codes "items") s)) _ b)

-- ---- many steps

-- some steps, fewer than n, lead from the schema to that of the location, from some value
abbrev Reached : ℕ → List ℕ → Data → SchemaLocation → Type 0
Reached n p s x = (value : Data) × (steps : List Step) × (length steps < n) × (pointer_behind p steps ≡ x.pointer)
    × ((v : Visit Data) → v.node ≡ s → v.value ≡ value → (w : Visit Data) × (leads (goes raw_steps) steps v ≡ Some w) × (w.node ≡ x.schema))

further_on : (n : ℕ) (p : List ℕ) (s : Data) (x : SchemaLocation) (q : Step) (d : Data) → ((inner : Data) → (outer : Data) × LeadsOn s q d outer inner) → Reached n (pointer_after p q) d x → Reached (suc n) p s x
unfolding leads pointer_behind
further_on n p s x q d on r =
    let more = on r.0 in
    let short : length (q ∷ r.1) < suc n = let h = r.2 in omega (arith, h) in (
      more.0,
      q ∷ r.1,
      short,
      r.3,
      λ v a b.
          let u = more.1 v a b in
          let w = r.4 u.0 u.2 u.3 in
          (w.0, ap (option_and_then (leads (goes raw_steps) r.1)) u.1 ∙ w.1, w.2),
    )

reached : (n : ℕ) (p : List ℕ) (s : Data) (x : SchemaLocation) → KeysOnce s → x.is_read ≡ true → IsIn x (locations_of n true p s) → Reached n p s x
unfolding locations_of leads pointer_behind
reached zero p s x once r h = absurd h
reached (suc n) p s x once r (inl e) = (null, [], omega arith, ap (λ l. l.pointer) e, λ v a b. (v, refl, a ∙ ap (λ l. l.schema) e))
reached (suc n) p s x once r (inr h) =
    by (in_parts x (locations_within (locations_of n true) p s) (unread_within (locations_of n false) p s) h) (λ q d g o. reached n q d x o r g)
  where
    by : IsIn x (locations_within (locations_of n true) p s) ⊎ IsIn x (unread_within (locations_of n false) p s)
        → ((q : List ℕ) (d : Data) → IsIn x (locations_of n true q d) → KeysOnce d → Reached n q d x) → Reached (suc n) p s x
    by (inl a) rec =
        let f = found_within (locations_of n true) p s x once a in
        further_on n p s x f.0 f.1 f.4 (rec (pointer_after p f.0) f.1 f.2 f.3)
    by (inr b) rec = absurd (no_unread (locations_of n false) x (λ q d g. none_read n q d x r g) p s b)

pub read_are_visited : (schema : Data) → KeysOnce schema → (p : List ℕ) (x : SchemaLocation) → Contains (locations_of 65 true p schema) x → x.is_read ≡ true → IsVisited 64 p schema x
read_are_visited schema once p x h r =
    let g = reached 65 p schema x once r (in_from_Contains x (locations_of 65 true p schema) h) in
    let w = g.4 (root_visit schema g.0 None None) refl refl in
    let short : length g.1 ≤ 64 = let k = g.2 in omega (arith, k) in
    record { value = g.0; steps = g.1; short = short; visit = w.0; led = w.1; schema_is = w.2; pointer_is = g.3 }
