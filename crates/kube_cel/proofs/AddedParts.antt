-- The parts of a schema to which rules were added at one node.
use Rattle.std.proofs.Common.{◌≡◌, ◌==◌, ◌&&◌, ℕ, List, [], ◌∷◌, Bool, true, false, if◌then◌else◌, Option, Some, None, option_map, option_and_then, is_some, refl, sym, ap, ◌∙◌, codes}
use Rattle.std.specs.Str.{bytes_eq}
use Rattle.serde_json.specs.Data.{Data, null, boolean, number, string, array, object, Items}
use Rattle.serde_json.specs.Find.{as_bool, as_object, at, get}
use Rattle.kube_schema.specs.BranchKind.{BranchKind}
use Rattle.kube_schema.specs.BranchKind.TheVariants.{AllOf, OneOf, AnyOf}
use Rattle.kube_schema.specs.Inside.{count_at}
use Rattle.kube_schema.specs.Step as step
use Rattle.kube_schema.specs.Step.{keyword}
use Rattle.kube_schema.specs.DefaultsAccessors.{keys_in as names_in, members_or_none}
use Rattle.kube_cel.specs.Added.{NodeStep, to_property, to_items, to_additional, to_branch, keyword_of, left_after, with_items, with_rules, with_key, with_index, within}
use Rattle.kube_cel.proofs.Changed.{where_true, get_changed, at_changed, names_stay, length_stays}

-- ---- values with one part changed

pub same_option : (o : Option Data) → option_map (λ d. d) o ≡ o
same_option None = refl
same_option (Some d) = refl

as_it_was : (h : Data → Option Data) (o : Option Data) → option_and_then h (option_map (λ d. d) o) ≡ option_map (λ d. d) (option_and_then h o)
as_it_was h None = refl
as_it_was h (Some d) = sym (same_option (h d))

object_stays : (k : List ℕ) (f : Data → Data) (d : Data) → is_some (as_object (with_key k f d)) ≡ is_some (as_object d)
object_stays k f null = refl
object_stays k f (boolean b) = refl
object_stays k f (number n) = refl
object_stays k f (string s) = refl
object_stays k f (array ds) = refl
object_stays k f (object ms) = refl

bool_stays : (k : List ℕ) (f : Data → Data) (d : Data) → as_bool (with_key k f d) ≡ as_bool d
bool_stays k f null = refl
bool_stays k f (boolean b) = refl
bool_stays k f (number n) = refl
bool_stays k f (string s) = refl
bool_stays k f (array ds) = refl
bool_stays k f (object ms) = refl

pub names_at_stay : (k : List ℕ) (f : Data → Data) (o : Option Data) → names_in (members_or_none (option_and_then as_object (option_map (with_key k f) o))) ≡ names_in (members_or_none (option_and_then as_object o))
names_at_stay k f None = refl
names_at_stay k f (Some null) = refl
names_at_stay k f (Some (boolean b)) = refl
names_at_stay k f (Some (number n)) = refl
names_at_stay k f (Some (string s)) = refl
names_at_stay k f (Some (array ds)) = refl
names_at_stay k f (Some (object ms)) = names_stay k f ms

pub count_at_stays : (i : ℕ) (f : Data → Data) (o : Option Data) → count_at (option_map (with_index i f) o) ≡ count_at o
unfolding count_at
count_at_stays i f None = refl
count_at_stays i f (Some null) = refl
count_at_stays i f (Some (boolean b)) = refl
count_at_stays i f (Some (number n)) = refl
count_at_stays i f (Some (string s)) = refl
count_at_stays i f (Some (array ds)) = length_stays i f ds
count_at_stays i f (Some (object ms)) = refl

-- ---- a schema with more rules

-- an object under `additionalProperties`
abbrev pub if_object : Data → Option Data
if_object d = if is_some (as_object d) then Some d else None

module _ (more : Items) where
  -- the schema with the rules added if these steps remain, else as it was
  abbrev pub added : Option (List NodeStep) → Data → Data
  added None d = d
  added (Some ts) d = with_rules more ts d

  -- the keyword at which the schema is changed, and how
  abbrev pub changed_key : List NodeStep → List ℕ
  changed_key [] = codes "x-kubernetes-validations"
  changed_key (t ∷ ts) = keyword_of t

  abbrev pub change : List NodeStep → Data → Data
  change [] = with_items more
  change (t ∷ ts) = within t (with_rules more ts)

  pub at_key : (l : List ℕ) (ts : List NodeStep) (d : Data) → get l (with_rules more ts d) ≡ option_map (where_true (bytes_eq (changed_key ts) l) (change ts)) (get l d)
  at_key l [] d = get_changed (codes "x-kubernetes-validations") l (with_items more) d
  at_key l (t ∷ ts) d = get_changed (keyword_of t) l (within t (with_rules more ts)) d

  chosen : (b : Bool) (ts : List NodeStep) (o : Option Data) → option_map (where_true b (with_rules more ts)) o ≡ option_map (added (if b then Some ts else None)) o
  chosen true ts o = refl
  chosen false ts o = refl

  -- at another keyword
  other : (l : List ℕ) (h : Data → Option Data) (ts : List NodeStep) (d : Data) → bytes_eq (changed_key ts) l ≡ false → option_and_then h (get l (with_rules more ts d)) ≡ option_map (λ d. d) (option_and_then h (get l d))
  other l h ts d e =
      ap (option_and_then h) (at_key l ts d)
      ∙ ap (λ b. option_and_then h (option_map (where_true b (change ts)) (get l d))) e
      ∙ as_it_was h (get l d)

  -- ---- one step down

  pub property_added : (l : List ℕ) (r : Option (List NodeStep)) (d : Data)
      → option_and_then (get l) (get (codes "properties") (added r d)) ≡ option_map (added (option_and_then (left_after (step.property l)) r)) (option_and_then (get l) (get (codes "properties") d))
  property_added l None d = sym (same_option (option_and_then (get l) (get (codes "properties") d)))
  property_added l (Some []) d = other (codes "properties") (get l) [] d refl
  property_added l (Some (to_property k ∷ ts)) d = ap (option_and_then (get l)) (at_key (codes "properties") (to_property k ∷ ts) d) ∙ by (get (codes "properties") d)
    where
      by : (o : Option Data) → option_and_then (get l) (option_map (with_key k (with_rules more ts)) o) ≡ option_map (added (if bytes_eq k l then Some ts else None)) (option_and_then (get l) o)
      by None = refl
      by (Some x) = get_changed k l (with_rules more ts) x ∙ chosen (bytes_eq k l) ts (get l x)
  property_added l (Some (to_items ∷ ts)) d = other (codes "properties") (get l) (to_items ∷ ts) d refl
  property_added l (Some (to_additional ∷ ts)) d = other (codes "properties") (get l) (to_additional ∷ ts) d refl
  property_added l (Some (to_branch AllOf i ∷ ts)) d = other (codes "properties") (get l) (to_branch AllOf i ∷ ts) d refl
  property_added l (Some (to_branch OneOf i ∷ ts)) d = other (codes "properties") (get l) (to_branch OneOf i ∷ ts) d refl
  property_added l (Some (to_branch AnyOf i ∷ ts)) d = other (codes "properties") (get l) (to_branch AnyOf i ∷ ts) d refl

  pub items_added : (i : ℕ) (r : Option (List NodeStep)) (d : Data) → get (codes "items") (added r d) ≡ option_map (added (option_and_then (left_after (step.item i)) r)) (get (codes "items") d)
  items_added i None d = sym (same_option (get (codes "items") d))
  items_added i (Some []) d = at_key (codes "items") [] d
  items_added i (Some (to_property k ∷ ts)) d = at_key (codes "items") (to_property k ∷ ts) d
  items_added i (Some (to_items ∷ ts)) d = at_key (codes "items") (to_items ∷ ts) d
  items_added i (Some (to_additional ∷ ts)) d = at_key (codes "items") (to_additional ∷ ts) d
  items_added i (Some (to_branch AllOf j ∷ ts)) d = at_key (codes "items") (to_branch AllOf j ∷ ts) d
  items_added i (Some (to_branch OneOf j ∷ ts)) d = at_key (codes "items") (to_branch OneOf j ∷ ts) d
  items_added i (Some (to_branch AnyOf j ∷ ts)) d = at_key (codes "items") (to_branch AnyOf j ∷ ts) d

  objects_stay : (ts : List NodeStep) (d : Data) → is_some (as_object (with_rules more ts d)) ≡ is_some (as_object d)
  objects_stay [] d = object_stays (codes "x-kubernetes-validations") (with_items more) d
  objects_stay (t ∷ ts) d = object_stays (keyword_of t) (within t (with_rules more ts)) d

  pub bools_stay : (ts : List NodeStep) (d : Data) → as_bool (with_rules more ts d) ≡ as_bool d
  bools_stay [] d = bool_stays (codes "x-kubernetes-validations") (with_items more) d
  bools_stay (t ∷ ts) d = bool_stays (keyword_of t) (within t (with_rules more ts)) d

  pub additional_added : (k : List ℕ) (r : Option (List NodeStep)) (d : Data)
      → option_and_then if_object (get (codes "additionalProperties") (added r d)) ≡ option_map (added (option_and_then (left_after (step.additional_property k)) r)) (option_and_then if_object (get (codes "additionalProperties") d))
  additional_added k None d = sym (same_option (option_and_then if_object (get (codes "additionalProperties") d)))
  additional_added k (Some []) d = other (codes "additionalProperties") if_object [] d refl
  additional_added k (Some (to_property l ∷ ts)) d = other (codes "additionalProperties") if_object (to_property l ∷ ts) d refl
  additional_added k (Some (to_items ∷ ts)) d = other (codes "additionalProperties") if_object (to_items ∷ ts) d refl
  additional_added k (Some (to_additional ∷ ts)) d = ap (option_and_then if_object) (at_key (codes "additionalProperties") (to_additional ∷ ts) d) ∙ by (get (codes "additionalProperties") d)
    where
      either : (b : Bool) (x : Data) → (if b then Some (with_rules more ts x) else None) ≡ option_map (with_rules more ts) (if b then Some x else None)
      either true x = refl
      either false x = refl

      by : (o : Option Data) → option_and_then if_object (option_map (with_rules more ts) o) ≡ option_map (with_rules more ts) (option_and_then if_object o)
      by None = refl
      by (Some x) = ap (λ b. if b then Some (with_rules more ts x) else None) (objects_stay ts x) ∙ either (is_some (as_object x)) x
  additional_added k (Some (to_branch AllOf i ∷ ts)) d = other (codes "additionalProperties") if_object (to_branch AllOf i ∷ ts) d refl
  additional_added k (Some (to_branch OneOf i ∷ ts)) d = other (codes "additionalProperties") if_object (to_branch OneOf i ∷ ts) d refl
  additional_added k (Some (to_branch AnyOf i ∷ ts)) d = other (codes "additionalProperties") if_object (to_branch AnyOf i ∷ ts) d refl

  indexed : (i j : ℕ) (ts : List NodeStep) (o : Option Data)
      → option_and_then (at j) (option_map (with_index i (with_rules more ts)) o) ≡ option_map (added (if bytes_eq (i ∷ []) (j ∷ []) then Some ts else None)) (option_and_then (at j) o)
  indexed i j ts None = refl
  indexed i j ts (Some x) = at_changed i j (with_rules more ts) x ∙ chosen (i == j) ts (at j x) ∙ ap (λ b. option_map (added (if b then Some ts else None)) (at j x)) (by (i == j))
    where
      by : (b : Bool) → b ≡ (b && true)
      by true = refl
      by false = refl

  pub branch_added : (kind : BranchKind) (j : ℕ) (r : Option (List NodeStep)) (d : Data)
      → option_and_then (at j) (get (keyword kind) (added r d)) ≡ option_map (added (option_and_then (left_after (step.branch kind j)) r)) (option_and_then (at j) (get (keyword kind) d))
  branch_added kind j None d = sym (same_option (option_and_then (at j) (get (keyword kind) d)))
  branch_added AllOf j (Some []) d = other (codes "allOf") (at j) [] d refl
  branch_added OneOf j (Some []) d = other (codes "oneOf") (at j) [] d refl
  branch_added AnyOf j (Some []) d = other (codes "anyOf") (at j) [] d refl
  branch_added AllOf j (Some (to_property k ∷ ts)) d = other (codes "allOf") (at j) (to_property k ∷ ts) d refl
  branch_added OneOf j (Some (to_property k ∷ ts)) d = other (codes "oneOf") (at j) (to_property k ∷ ts) d refl
  branch_added AnyOf j (Some (to_property k ∷ ts)) d = other (codes "anyOf") (at j) (to_property k ∷ ts) d refl
  branch_added AllOf j (Some (to_items ∷ ts)) d = other (codes "allOf") (at j) (to_items ∷ ts) d refl
  branch_added OneOf j (Some (to_items ∷ ts)) d = other (codes "oneOf") (at j) (to_items ∷ ts) d refl
  branch_added AnyOf j (Some (to_items ∷ ts)) d = other (codes "anyOf") (at j) (to_items ∷ ts) d refl
  branch_added AllOf j (Some (to_additional ∷ ts)) d = other (codes "allOf") (at j) (to_additional ∷ ts) d refl
  branch_added OneOf j (Some (to_additional ∷ ts)) d = other (codes "oneOf") (at j) (to_additional ∷ ts) d refl
  branch_added AnyOf j (Some (to_additional ∷ ts)) d = other (codes "anyOf") (at j) (to_additional ∷ ts) d refl
  branch_added AllOf j (Some (to_branch AllOf i ∷ ts)) d = ap (option_and_then (at j)) (at_key (codes "allOf") (to_branch AllOf i ∷ ts) d) ∙ indexed i j ts (get (codes "allOf") d)
  branch_added OneOf j (Some (to_branch AllOf i ∷ ts)) d = other (codes "oneOf") (at j) (to_branch AllOf i ∷ ts) d refl
  branch_added AnyOf j (Some (to_branch AllOf i ∷ ts)) d = other (codes "anyOf") (at j) (to_branch AllOf i ∷ ts) d refl
  branch_added AllOf j (Some (to_branch OneOf i ∷ ts)) d = other (codes "allOf") (at j) (to_branch OneOf i ∷ ts) d refl
  branch_added OneOf j (Some (to_branch OneOf i ∷ ts)) d = ap (option_and_then (at j)) (at_key (codes "oneOf") (to_branch OneOf i ∷ ts) d) ∙ indexed i j ts (get (codes "oneOf") d)
  branch_added AnyOf j (Some (to_branch OneOf i ∷ ts)) d = other (codes "anyOf") (at j) (to_branch OneOf i ∷ ts) d refl
  branch_added AllOf j (Some (to_branch AnyOf i ∷ ts)) d = other (codes "allOf") (at j) (to_branch AnyOf i ∷ ts) d refl
  branch_added OneOf j (Some (to_branch AnyOf i ∷ ts)) d = other (codes "oneOf") (at j) (to_branch AnyOf i ∷ ts) d refl
  branch_added AnyOf j (Some (to_branch AnyOf i ∷ ts)) d = ap (option_and_then (at j)) (at_key (codes "anyOf") (to_branch AnyOf i ∷ ts) d) ∙ indexed i j ts (get (codes "anyOf") d)
