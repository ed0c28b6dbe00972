-- The results of the commands.
use Rattle.kube_manifests.specs.Sets.{set_view, with_tree}
use Rattle.kube_manifests.specs.DocumentsVersions.{Version}
use Rattle.kube_manifests.specs.declared.set.CrdSet.{CrdSet}
use Rattle.kubecel_check.proofs.Explained.{reported_alike}
use Rattle.kubecel_check.proofs.Held.{defined_alike, held_alike, judged_alike, subjects_alike, usable_alike}
use Rattle.kubecel_check.specs.Definitions.{AreWhole, IsSetOf, definitions, passed_over}
use Rattle.kubecel_check.specs.Judgements.{AreUsable, IsJudged, IsJudgedBy, passed_over_item}
use Rattle.kubecel_check.specs.Objects.{AreCompared, AreDefined, AreSome, all_judged, all_subjects, holds_object}
use Rattle.kubecel_io.specs.Objects.{all_objects}
use Rattle.kubecel_io.specs.Reads.{AreRead, Found}
use Rattle.kubecel_io.specs.Subjects.{subject_view}
use Rattle.kubecel_io.specs.declared.subject.Subject.{Subject}
use Rattle.kubecel_report.specs.Items.{ItemData}
use Rattle.kubecel_cli.proofs.Judging.{items_otherwise}
use Rattle.kubecel_cli.proofs.Definitions.{unless_otherwise}
use Rattle.kubecel_cli.specs.Commands.{CheckData}
use Rattle.kubecel_cli.specs.Runs.{AreBehind, AreJudged, AreJudgedByOne, AreJudgedBySet, AreItems, AreReviewed, IsReviewed, UnlessAny, all_unread}
use Rattle.serde_json.specs.Data.{Data}
use Rattle.std.proofs.Common.{◌≡◌, ℕ, ◌<◌, List, [], ◌∷◌, length, map, true, Bool, Option, subst, ◌∙◌, arith}
use Rattle.std.specs.List.{list_all}

-- ---- judgements

some_of : (ss : List Subject) (fs : List Found) → 0 < length ss → map subject_view ss ≡ fs → 0 < length fs
some_of [] fs some are = absurd (omega arith)
some_of (s ∷ ss) [] some are = absurd cc
some_of (s ∷ ss) (f ∷ fs) some are = omega arith

-- what holds by a set holds by the versions that it consists of
by_versions : (ignores_missing : Bool) (set : CrdSet) (versions : List (Version Data)) (olds : List Data) (objects : List Found) (items : List ItemData) → set_view set ≡ map with_tree versions
    → AreJudgedBySet ignores_missing set olds objects items → AreJudgedByOne ignores_missing versions olds objects items
by_versions ignores_missing set versions olds objects items same are =
    let book = are.0 in (
      book,
      are.1,
      items_otherwise (IsJudgedBy book ignores_missing set olds) (IsJudged book ignores_missing versions olds) (λ f i x. (x.0, x.1 versions same, x.2, x.3, x.4, x.5 ∙ reported_alike ignores_missing (set_view set) versions same f x.0 x.3)) objects items are.2,
    )

-- the result of a check, by the set of its definitions
pub judged_so : (asked : CheckData) (items : List ItemData) (crds olds objects : List Found) (set : CrdSet) (defined old_subjects subjects : List Found)
    → defined ≡ definitions asked.ignores_missing crds objects → IsSetOf defined set → old_subjects ≡ all_subjects (set_view set) olds → subjects ≡ all_judged (set_view set) objects
    → AreSome asked.allows_none subjects → list_all (holds_object (set_view set) old_subjects) asked.olds ≡ true
    → AreUsable asked.ignores_missing (set_view set) old_subjects
    → AreCompared asked.olds (map (λ f. f.value) old_subjects) subjects → AreDefined asked.ignores_missing asked.allows_none (set_view set) subjects
    → UnlessAny (all_unread (all_objects defined))
    (AreBehind (map passed_over_item (passed_over asked.ignores_missing crds)) (AreJudgedBySet asked.ignores_missing set (map (λ f. f.value) old_subjects) subjects)) items
    → AreJudged asked crds olds objects items
judged_so asked items crds olds objects set defined old_subjects subjects these of old_in are_in some held usable compared all_defined judged =
    let versions = of.0 in
    let ignores = asked.ignores_missing in
    let old_are = old_in ∙ subjects_alike (set_view set) versions of.2 olds in
    let are = are_in ∙ judged_alike (set_view set) versions of.2 objects in
    let values = map (λ f. f.value) old_subjects in
    let first = map passed_over_item (passed_over ignores crds) in
    let unread = all_unread (all_objects defined) in
    let by_one : UnlessAny unread (AreBehind first (AreJudgedByOne ignores versions values subjects)) items =
    unless_otherwise unread (AreBehind first (AreJudgedBySet ignores set values subjects)) (AreBehind first (AreJudgedByOne ignores versions values subjects)) items
    (λ x. (x.0, x.1, by_versions ignores set versions values subjects x.0 of.2 x.2)) judged in
    let of_objects = subst (λ fs. UnlessAny unread (AreBehind first (AreJudgedByOne ignores versions values fs)) items) are by_one in
    let of_olds = subst (λ os. UnlessAny unread (AreBehind first (AreJudgedByOne ignores versions (map (λ f. f.value) os) (all_judged versions objects))) items) old_are of_objects in
    record {
      versions = versions;
      whole = subst (λ ds. AreWhole ds versions) these of.1;
      some = subst (AreSome asked.allows_none) are some;
      held = subst (λ os. list_all (holds_object versions os) asked.olds ≡ true) old_are (held_alike (set_view set) versions of.2 old_subjects asked.olds held);
      usable = subst (AreUsable ignores versions) old_are (usable_alike ignores (set_view set) versions of.2 old_subjects usable);
      compared = subst (λ os. AreCompared asked.olds (map (λ f. f.value) os) (all_judged versions objects)) old_are (subst (AreCompared asked.olds values) are compared);
      defined = subst (AreDefined ignores asked.allows_none versions) are (defined_alike ignores asked.allows_none (set_view set) versions of.2 subjects all_defined);
      judged = subst (λ ds. UnlessAny (all_unread (all_objects ds)) (AreBehind first (AreJudgedByOne ignores versions (map (λ f. f.value) (all_subjects versions olds)) (all_judged versions objects))) items) these of_olds;
    }

pub reviewed_so : {S : Type 0} (reads : S → List ℕ → Option (List ℕ) → S → Type 0) (before : S) (paths : List (List ℕ)) (after : S) (items : List ItemData)
    (crds : List Found) (subjects : List Subject) (versions : List (Version Data)) → AreRead reads before paths crds after → AreWhole crds versions
    → map subject_view subjects ≡ all_objects crds → 0 < length subjects → AreItems IsReviewed (map subject_view subjects) items → AreReviewed reads before paths after items
reviewed_so reads before paths after items crds subjects versions crds_read whole are some reviewed = record {
  crds = crds;
  crds_read = crds_read;
  versions = versions;
  whole = whole;
  some = some_of subjects (all_objects crds) some are;
  reviewed = subst (λ fs. AreItems IsReviewed fs items) are reviewed;
}
