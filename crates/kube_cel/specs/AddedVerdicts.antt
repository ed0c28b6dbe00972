-- Trusted by laws alone.
-- The answer of a schema to which rules were added at one node.
use Rattle.cel.specs.Book.{Book}
use Rattle.kube_cel.specs.Added.{NodeStep, left_behind}
use Rattle.kube_cel.specs.Raw.{raw_accessors}
use Rattle.kube_cel_walk.specs.Errors.{ErrorData}
use Rattle.kube_schema.specs.RulesRaw.{raw_steps}
use Rattle.kube_schema.specs.Visit.{Visit, goes}
use Rattle.kube_schema.specs.Step.{Step}
use Rattle.kube_schema.specs.Walk.{ArePlaces, if_some, leads}
use Rattle.kube_cel_walk.specs.Verdicts.{list_of_option, verdict}
use Rattle.kube_cel_walk.specs.Answers.{place_bindings, verdicts}
use Rattle.kube_schema.specs.Compilation.{Compiled, Malformed, compiled_rules}
use Rattle.serde_json.specs.Data.{Data, Items}
use Rattle.serde_json.specs.Find.{as_array, get}
use Rattle.std.specs.List.{flat_map}
use Rattle.std.specs.Prelude.{◌≡◌, ◌==◌, List, [], ◌∷◌, ◌++◌, if◌then◌else◌, Option, Some, None, option_and_then, is_some, Result, codes}

-- the rules that are added, if the node has a list of rules
abbrev pub added_rules : Items → Data → List (Result Compiled Malformed)
added_rules more node =
    if is_some (option_and_then as_array (get (codes "x-kubernetes-validations") node))
    then compiled_rules more else []

-- their verdicts at a visit, under the bindings that all rules have there; none beyond depth 64
unfoldable pub added_verdicts : Book → Items → Visit Data → List ErrorData
added_verdicts b more s =
    if s.depth == 65 then []
    else flat_map (λ r. list_of_option (verdict raw_accessors b (place_bindings raw_accessors s) s r))
    (added_rules more s.node)

-- the list if no step remains, else the empty list
abbrev pub if_there : {E : Type 0} → Option (List NodeStep) → List E → List E
if_there None es = []
if_there (Some []) es = es
if_there (Some (t ∷ ts)) es = []

-- the errors at a place
unfoldable pub found_at : Book → Visit Data → List Step → List ErrorData
found_at b root p = if_some (verdicts raw_accessors b) (leads (goes raw_steps) p root)

-- the errors that the added rules give: their verdicts at the
-- places of the node at these steps, and nothing elsewhere
unfoldable pub added_at : Book → Items → List NodeStep → Visit Data → List Step → List ErrorData
added_at b more node root p =
    if_there (left_behind p (Some node)) (if_some (added_verdicts b more) (leads (goes raw_steps) p root))

-- The errors before and after: those at the same places in the same order, and
-- at each place the errors from before, followed by those of the added rules.
pub record AddsAlone (b : Book) (more : Items) (node : List NodeStep)
    (root : Visit Data) (before after : List ErrorData) : Type 0 where
  pub all_places : List (List Step)
  pub are_all : ArePlaces (goes raw_steps) 65 root all_places
  pub before_is : before ≡ flat_map (found_at b root) all_places
  pub after_is : after ≡ flat_map (λ p. found_at b root p ++ added_at b more node root p) all_places
