-- The keywords that stay the same when rules are added to a node of a schema.
use Rattle.std.proofs.Common.{◌≡◌, ℕ, List, [], ◌∷◌, Bool, true, false, if◌then◌else◌, Option, Some, None, option_map, option_and_then, unwrap_or, refl, ap, ◌∙◌, codes}
use Rattle.std.specs.List.{AllByRecursion}
use Rattle.std.specs.Option.{option_map_or}
use Rattle.std.specs.Str.{bytes_eq}
use Rattle.serde_json.specs.Data.{Data, Items}
use Rattle.serde_json.specs.Find.{as_bool, as_object, get}
use Rattle.kube_schema.specs.BranchKind.{BranchKind}
use Rattle.kube_schema.specs.BranchKind.TheVariants.{AllOf, OneOf, AnyOf}
use Rattle.kube_schema.specs.Inside.{count_at}
use Rattle.kube_schema.specs.RulesRaw.{undeclared_property}
use Rattle.kube_schema.specs.Step as step
use Rattle.kube_schema.specs.Step.{keyword}
use Rattle.kube_schema.specs.DefaultsAccessors.{keys_in as names_in, members_or_none}
use Rattle.kube_cel.specs.Added.{NodeStep, to_property, to_items, to_additional, to_branch, left_after, with_rules}
use Rattle.kube_cel.proofs.Changed.{where_true}
use Rattle.kube_cel.proofs.AddedParts.{added, additional_added, at_key, bools_stay, change, changed_key, count_at_stays, if_object, names_at_stay, same_option}

-- ---- keywords that are never changed

abbrev kept_keywords : List (List ℕ)
kept_keywords = codes "default" ∷ codes "format" ∷ codes "x-kubernetes-int-or-string" ∷ codes "x-kubernetes-embedded-resource" ∷ codes "x-kubernetes-preserve-unknown-fields" ∷ []

-- it isn't one of them
abbrev IsOther : List ℕ → Type 0
IsOther k = AllByRecursion (λ l. bytes_eq k l ≡ false) kept_keywords

module _ (more : Items) where
  is_other : (ts : List NodeStep) → IsOther (changed_key more ts)
  is_other [] = (refl, (refl, (refl, (refl, (refl, tt)))))
  is_other (to_property k ∷ ts) = (refl, (refl, (refl, (refl, (refl, tt)))))
  is_other (to_items ∷ ts) = (refl, (refl, (refl, (refl, (refl, tt)))))
  is_other (to_additional ∷ ts) = (refl, (refl, (refl, (refl, (refl, tt)))))
  is_other (to_branch AllOf i ∷ ts) = (refl, (refl, (refl, (refl, (refl, tt)))))
  is_other (to_branch OneOf i ∷ ts) = (refl, (refl, (refl, (refl, (refl, tt)))))
  is_other (to_branch AnyOf i ∷ ts) = (refl, (refl, (refl, (refl, (refl, tt)))))

  pub same_at : (l : List ℕ) (ts : List NodeStep) (d : Data) → bytes_eq (changed_key more ts) l ≡ false → get l (with_rules more ts d) ≡ get l d
  same_at l ts d e = at_key more l ts d ∙ ap (λ b. option_map (where_true b (change more ts)) (get l d)) e ∙ same_option (get l d)

  pub default_stays : (r : Option (List NodeStep)) (d : Data) → get (codes "default") (added more r d) ≡ get (codes "default") d
  default_stays None d = refl
  default_stays (Some ts) d = same_at (codes "default") ts d (is_other ts).0

  pub format_stays : (r : Option (List NodeStep)) (d : Data) → get (codes "format") (added more r d) ≡ get (codes "format") d
  format_stays None d = refl
  format_stays (Some ts) d = same_at (codes "format") ts d (is_other ts).1.0

  pub int_or_string_stays : (r : Option (List NodeStep)) (d : Data) → get (codes "x-kubernetes-int-or-string") (added more r d) ≡ get (codes "x-kubernetes-int-or-string") d
  int_or_string_stays None d = refl
  int_or_string_stays (Some ts) d = same_at (codes "x-kubernetes-int-or-string") ts d (is_other ts).1.1.0

  pub embedded_stays : (r : Option (List NodeStep)) (d : Data) → get (codes "x-kubernetes-embedded-resource") (added more r d) ≡ get (codes "x-kubernetes-embedded-resource") d
  embedded_stays None d = refl
  embedded_stays (Some ts) d = same_at (codes "x-kubernetes-embedded-resource") ts d (is_other ts).1.1.1.0

  pub preserving_stays : (r : Option (List NodeStep)) (d : Data) → get (codes "x-kubernetes-preserve-unknown-fields") (added more r d) ≡ get (codes "x-kubernetes-preserve-unknown-fields") d
  preserving_stays None d = refl
  preserving_stays (Some ts) d = same_at (codes "x-kubernetes-preserve-unknown-fields") ts d (is_other ts).1.1.1.1.0

  -- ---- what is read of keywords that may be changed

  -- what is read of them is the same away from the changed keyword
  elsewhere : {A : Type 0} (see : Option Data → A) (l : List ℕ) (ts : List NodeStep) (d : Data) → bytes_eq (changed_key more ts) l ≡ false → see (get l (with_rules more ts d)) ≡ see (get l d)
  elsewhere see l ts d e = ap see (same_at l ts d e)

  abbrev names_at : Option Data → List (List ℕ)
  names_at o = names_in (members_or_none (option_and_then as_object o))

  pub names_added : (r : Option (List NodeStep)) (d : Data) → names_at (get (codes "properties") (added more r d)) ≡ names_at (get (codes "properties") d)
  names_added None d = refl
  names_added (Some []) d = elsewhere names_at (codes "properties") [] d refl
  names_added (Some (to_property k ∷ ts)) d = ap names_at (at_key more (codes "properties") (to_property k ∷ ts) d) ∙ names_at_stay k (with_rules more ts) (get (codes "properties") d)
  names_added (Some (to_items ∷ ts)) d = elsewhere names_at (codes "properties") (to_items ∷ ts) d refl
  names_added (Some (to_additional ∷ ts)) d = elsewhere names_at (codes "properties") (to_additional ∷ ts) d refl
  names_added (Some (to_branch AllOf i ∷ ts)) d = elsewhere names_at (codes "properties") (to_branch AllOf i ∷ ts) d refl
  names_added (Some (to_branch OneOf i ∷ ts)) d = elsewhere names_at (codes "properties") (to_branch OneOf i ∷ ts) d refl
  names_added (Some (to_branch AnyOf i ∷ ts)) d = elsewhere names_at (codes "properties") (to_branch AnyOf i ∷ ts) d refl

  branch_at : (kind other : BranchKind) (i : ℕ) (ts : List NodeStep) (d : Data) → count_at (get (keyword kind) (with_rules more (to_branch other i ∷ ts) d)) ≡ count_at (get (keyword kind) d)
  branch_at AllOf AllOf i ts d = ap count_at (at_key more (codes "allOf") (to_branch AllOf i ∷ ts) d) ∙ count_at_stays i (with_rules more ts) (get (codes "allOf") d)
  branch_at AllOf OneOf i ts d = elsewhere count_at (codes "allOf") (to_branch OneOf i ∷ ts) d refl
  branch_at AllOf AnyOf i ts d = elsewhere count_at (codes "allOf") (to_branch AnyOf i ∷ ts) d refl
  branch_at OneOf AllOf i ts d = elsewhere count_at (codes "oneOf") (to_branch AllOf i ∷ ts) d refl
  branch_at OneOf OneOf i ts d = ap count_at (at_key more (codes "oneOf") (to_branch OneOf i ∷ ts) d) ∙ count_at_stays i (with_rules more ts) (get (codes "oneOf") d)
  branch_at OneOf AnyOf i ts d = elsewhere count_at (codes "oneOf") (to_branch AnyOf i ∷ ts) d refl
  branch_at AnyOf AllOf i ts d = elsewhere count_at (codes "anyOf") (to_branch AllOf i ∷ ts) d refl
  branch_at AnyOf OneOf i ts d = elsewhere count_at (codes "anyOf") (to_branch OneOf i ∷ ts) d refl
  branch_at AnyOf AnyOf i ts d = ap count_at (at_key more (codes "anyOf") (to_branch AnyOf i ∷ ts) d) ∙ count_at_stays i (with_rules more ts) (get (codes "anyOf") d)

  -- it isn't a keyword of branches
  abbrev IsAlone : List ℕ → Type 0
  IsAlone k = (kind : BranchKind) → bytes_eq k (keyword kind) ≡ false

  rules_alone : IsAlone (codes "x-kubernetes-validations")
  rules_alone AllOf = refl
  rules_alone OneOf = refl
  rules_alone AnyOf = refl

  properties_alone : IsAlone (codes "properties")
  properties_alone AllOf = refl
  properties_alone OneOf = refl
  properties_alone AnyOf = refl

  items_alone : IsAlone (codes "items")
  items_alone AllOf = refl
  items_alone OneOf = refl
  items_alone AnyOf = refl

  additional_alone : IsAlone (codes "additionalProperties")
  additional_alone AllOf = refl
  additional_alone OneOf = refl
  additional_alone AnyOf = refl

  pub counts_added : (kind : BranchKind) (r : Option (List NodeStep)) (d : Data) → count_at (get (keyword kind) (added more r d)) ≡ count_at (get (keyword kind) d)
  counts_added kind None d = refl
  counts_added kind (Some []) d = elsewhere count_at (keyword kind) [] d (rules_alone kind)
  counts_added kind (Some (to_property k ∷ ts)) d = elsewhere count_at (keyword kind) (to_property k ∷ ts) d (properties_alone kind)
  counts_added kind (Some (to_items ∷ ts)) d = elsewhere count_at (keyword kind) (to_items ∷ ts) d (items_alone kind)
  counts_added kind (Some (to_additional ∷ ts)) d = elsewhere count_at (keyword kind) (to_additional ∷ ts) d (additional_alone kind)
  counts_added kind (Some (to_branch other i ∷ ts)) d = branch_at kind other i ts d

  -- the value read as a bool, and as true if it is something else; false if it is absent
  abbrev bool_at : Option Data → Bool
  bool_at o = option_map_or (λ d. unwrap_or (as_bool d) true) o false

  bool_at_stays : (ts : List NodeStep) (o : Option Data) → bool_at (option_map (with_rules more ts) o) ≡ bool_at o
  bool_at_stays ts None = refl
  bool_at_stays ts (Some d) = ap (λ b. unwrap_or b true) (bools_stay more ts d)

  pub maps_added : (r : Option (List NodeStep)) (d : Data) → bool_at (get (codes "additionalProperties") (added more r d)) ≡ bool_at (get (codes "additionalProperties") d)
  maps_added None d = refl
  maps_added (Some []) d = elsewhere bool_at (codes "additionalProperties") [] d refl
  maps_added (Some (to_property k ∷ ts)) d = elsewhere bool_at (codes "additionalProperties") (to_property k ∷ ts) d refl
  maps_added (Some (to_items ∷ ts)) d = elsewhere bool_at (codes "additionalProperties") (to_items ∷ ts) d refl
  maps_added (Some (to_additional ∷ ts)) d = ap bool_at (at_key more (codes "additionalProperties") (to_additional ∷ ts) d) ∙ bool_at_stays ts (get (codes "additionalProperties") d)
  maps_added (Some (to_branch AllOf i ∷ ts)) d = elsewhere bool_at (codes "additionalProperties") (to_branch AllOf i ∷ ts) d refl
  maps_added (Some (to_branch OneOf i ∷ ts)) d = elsewhere bool_at (codes "additionalProperties") (to_branch OneOf i ∷ ts) d refl
  maps_added (Some (to_branch AnyOf i ∷ ts)) d = elsewhere bool_at (codes "additionalProperties") (to_branch AnyOf i ∷ ts) d refl

  unless : (f : Data → Data) (b : Bool) (o : Option Data) → (if b then None else option_map f o) ≡ option_map f (if b then None else o)
  unless f true o = refl
  unless f false o = refl

  preserves : Data → Bool
  preserves d = unwrap_or (option_and_then as_bool (get (codes "x-kubernetes-preserve-unknown-fields") d)) false

  pub undeclared_added : (k : List ℕ) (r : Option (List NodeStep)) (d : Data) → undeclared_property (added more r d) ≡ option_map (added more (option_and_then (left_after (step.additional_property k)) r)) (undeclared_property d)
  unfolding undeclared_property preserves
  undeclared_added k r d =
      ap (λ o. if unwrap_or (option_and_then as_bool o) false then None else option_and_then if_object (get (codes "additionalProperties") (added more r d))) (preserving_stays r d)
      ∙ ap (λ o. if preserves d then None else o) (additional_added more k r d)
      ∙ unless (added more (option_and_then (left_after (step.additional_property k)) r)) (preserves d) (option_and_then if_object (get (codes "additionalProperties") d))
