-- Trusted by the clauses of other library calls.
-- Whether labels meet a label selector: Kubernetes documentation, "Labels and Selectors" (Label selectors, Resources that
-- support set-based requirements); API reference, LabelSelector and LabelSelectorRequirement.
use Rattle.kube_manifests_bindings.specs.Selectors.{RequirementData, SelectorData, requirement_of}
use Rattle.kube_manifests_bindings.specs.declared.selector.Operator.{Operator}
use Rattle.kube_manifests_bindings.specs.declared.selector.Operator.TheVariants.{In, NotIn, Exists, DoesNotExist}
use Rattle.serde_json.specs.Data.{Data, object, Items, no_items, item, Members, no_members, member}
use Rattle.serde_json.specs.Find.{as_str, get}
use Rattle.std.specs.Prelude.{ℕ, List, Bool, true, false, not, ◌&&◌, ◌||◌, Option, Some, None, option_and_then, codes}
use Rattle.std.specs.Option.{is_some}
use Rattle.std.specs.Str.{bytes_eq}

-- the labels of an object that has any: the value of `metadata.labels`
abbrev pub labels_of : Data → Option Data
labels_of d = option_and_then (get (codes "labels")) (get (codes "metadata") d)

-- an object without metadata can't have labels
abbrev pub is_object : Option Data → Bool
is_object (Some (object ms)) = true
is_object _ = false

abbrev pub can_have_labels : Data → Bool
can_have_labels d = is_object (get (codes "metadata") d)

-- the value of the label of a key, if there is such a label
abbrev pub label : Option Data → List ℕ → Option (List ℕ)
label labels key = option_and_then as_str (option_and_then (get key) labels)

abbrev pub is_text : List ℕ → Option (List ℕ) → Bool
is_text s None = false
is_text s (Some found) = bytes_eq found s

-- a text is one of the strings of a list
abbrev pub has_text : Items → List ℕ → Bool
has_text no_items s = false
has_text (item d ds) s = is_text s (as_str d) || has_text ds s

abbrev pub is_one_of : Items → Option (List ℕ) → Bool
is_one_of values None = false
is_one_of values (Some value) = has_text values value

-- what an operator says of the label of its key: NotIn is also met by labels without the key
abbrev pub holds : Operator → Items → Option (List ℕ) → Bool
holds In values found = is_one_of values found
holds NotIn values found = not (is_one_of values found)
holds Exists values found = is_some found
holds DoesNotExist values found = not (is_some found)

abbrev pub meets : Option Data → RequirementData → Bool
meets labels r = holds r.operator r.values (label labels r.key)

abbrev pub is_same : Option (List ℕ) → Option (List ℕ) → Bool
is_same None found = false
is_same (Some s) found = is_text s found

-- the label of a key is there, with this value
abbrev pub has_label : Option Data → List ℕ → Data → Bool
has_label labels key value = is_same (as_str value) (label labels key)

-- each label of `matchLabels` is there, with the same value
abbrev pub has_labels : Option Data → Members → Bool
has_labels labels no_members = true
has_labels labels (member key value ms) = has_label labels key value && has_labels labels ms

-- all requirements of `matchExpressions` are met
abbrev pub meets_all : Option Data → Items → Bool
meets_all labels no_items = true
meets_all labels (item d ds) = meets labels (requirement_of d) && meets_all labels ds

-- both have to be satisfied; an empty selector selects everything
abbrev pub selects : SelectorData → Option Data → Bool
selects s labels = has_labels labels s.labels && meets_all labels s.requirements

abbrev pub has_no_member : Members → Bool
has_no_member no_members = true
has_no_member (member key value ms) = false

abbrev pub has_no_item : Items → Bool
has_no_item no_items = true
has_no_item (item d ds) = false

abbrev pub is_empty : SelectorData → Bool
is_empty s = has_no_member s.labels && has_no_item s.requirements
