-- Trusted by the clauses of kubecel.
-- The meaning of a run of `kubecel`: which files are read, in order, and the result of each thing
-- in them.
use Rattle.cel.specs.Book.{Book, IsBook}
use Rattle.kube_cel.specs.Findings.{Naming}
use Rattle.kube_manifests.specs.Inputs.{Variables, no_variables}
use Rattle.kube_manifests.specs.Definitions.{is_crd}
use Rattle.kube_manifests.specs.DocumentsVersions.{Version}
use Rattle.kube_manifests.specs.declared.set.CrdSet.{CrdSet}
use Rattle.kube_manifests.specs.Faults.{FaultData}
use Rattle.kube_manifests_policies.specs.Reports.{IsVerdictOf}
use Rattle.kube_manifests.specs.Reviews.{review_of}
use Rattle.kube_manifests_policies.specs.Verdicts.{verdict_view}
use Rattle.kube_manifests_policies.specs.declared.verdict.PolicyVerdict.{PolicyVerdict}
use Rattle.kube_manifests_review.specs.Reviewed.{crd_findings}
use Rattle.kubecel_check.specs.Definitions.{AreWhole, definitions, passed_over}
use Rattle.kubecel_check.specs.Judgements.{AreUsable, IsJudged, IsJudgedBy, passed_over_item}
use Rattle.kubecel_check.specs.Objects.{AreCompared, AreDefined, AreSome, all_judged, all_subjects, holds_object}
use Rattle.kubecel_io.specs.Objects.{all_objects}
use Rattle.kubecel_io.specs.Reads.{AreRead, Found}
use Rattle.kubecel_io.specs.declared.sources.Stop.{Stop}
use Rattle.kubecel_report.specs.Items.{ItemData, item_view, items_status}
use Rattle.kubecel_cli.specs.Commands.{AdmitData, Asked, CheckData, check, review, admit}
use Rattle.kubecel_cli.specs.declared.report.Report.{Report}
use Rattle.kubecel_cli.specs.Reports.{no_crd_item, policy_item, reviewed_item, unread_items}
use Rattle.serde_json.specs.Data.{Data}
use Rattle.std.specs.List.{flat_map, list_all}
use Rattle.std.specs.Prelude.{◌≡◌, ℕ, ◌<◌, List, [], ◌∷◌, ◌++◌, map, length, Bool, true, false, Option, Some, None, Result, Ok, Err}

-- each thing, in order, is reported as one item
abbrev pub AreItems : (Found → ItemData → Type 0) → List Found → List ItemData → Type 0
AreItems Is [] items = items ≡ []
AreItems Is (f ∷ fs) items =
    (i : ItemData) × (rest : List ItemData) × (items ≡ i ∷ rest) × Is f i × AreItems Is fs rest

-- ---- the result of one thing

-- all objects are judged under one book of patterns
abbrev pub AreJudgedByOne : Bool → List (Version Data) → List Data → List Found → List ItemData → Type 0
AreJudgedByOne ignores_missing versions olds objects items =
    (book : Book) × IsBook book × AreItems (IsJudged book ignores_missing versions olds) objects items

-- a definition is reviewed, under some book of patterns
pub record IsReviewed (f : Found) (i : ItemData) : Type 0 where
  pub is_definition : is_crd f.value ≡ true
      → (b : Book) × IsBook b × ((names : Naming) → i ≡ reviewed_item f (crd_findings names f.value b))
  pub is_none : is_crd f.value ≡ false → i ≡ no_crd_item f

-- each definition with parts that aren't read is reported, in order, as one item
abbrev pub all_unread : List Found → List ItemData
all_unread fs = flat_map unread_items fs

-- if there are earlier items, they are the whole report; otherwise Are holds of the report
abbrev pub UnlessAny : List ItemData → (List ItemData → Type 0) → List ItemData → Type 0
UnlessAny [] Are items = Are items
UnlessAny (i ∷ is) Are items = items ≡ i ∷ is

-- the items begin with these, and Are holds of the others
abbrev pub AreBehind : List ItemData → (List ItemData → Type 0) → List ItemData → Type 0
AreBehind first Are items = (others : List ItemData) × (items ≡ first ++ others) × Are others

-- The definitions, those among the objects too, are well-formed. There is at least one object that isn't a definition,
-- unless none is allowed. If files of old objects are named, each of them holds an object of a definition, each of their
-- objects is of use, and at least one object has an old one. If missing definitions are ignored, at least one object is of
-- a definition, unless none is allowed. If some definitions have parts that aren't read, only these are reported, as not
-- judged. Otherwise what is passed over in files of definitions is reported as skipped, and each object is judged.
pub record AreJudged (asked : CheckData) (crds olds objects : List Found) (items : List ItemData) : Type 0 where
  pub versions : List (Version Data)
  pub whole : AreWhole (definitions asked.ignores_missing crds objects) versions
  pub some : AreSome asked.allows_none (all_judged versions objects)
  pub held : list_all (holds_object versions (all_subjects versions olds)) asked.olds ≡ true
  pub usable : AreUsable asked.ignores_missing versions (all_subjects versions olds)
  pub compared : AreCompared asked.olds (map (λ f. f.value) (all_subjects versions olds)) (all_judged versions objects)
  pub defined : AreDefined asked.ignores_missing asked.allows_none versions (all_judged versions objects)
  pub judged : UnlessAny (all_unread (all_objects (definitions asked.ignores_missing crds objects)))
      (AreBehind (map passed_over_item (passed_over asked.ignores_missing crds))
      (AreJudgedByOne asked.ignores_missing versions (map (λ f. f.value) (all_subjects versions olds))
      (all_judged versions objects))) items

-- ---- the inputs that a policy is judged over

-- the inputs that an AdmissionReview carries; none if there is no review
abbrev pub base_of : Option Data → Result Variables FaultData
base_of None = Ok no_variables
base_of (Some d) = review_of d

-- the value of a file of its own replaces the one of the review
abbrev pub instead : Option Data → Option Data → Option Data
instead None given = given
instead (Some d) given = Some d

module _ {S : Type 0} (reads : S → List ℕ → Option (List ℕ) → S → Type 0) where
  -- the file at the path holds exactly this document
  abbrev pub IsOneRead : S → List ℕ → Data → S → Type 0
  IsOneRead before path value after =
      AreRead reads before (path ∷ []) (record { file = path; index = 0; is_item = false; value = value } ∷ []) after

  -- the same for a file that may not be named, in which case nothing is read
  abbrev pub IsOneReadWhereNamed : S → Option (List ℕ) → Option Data → S → Type 0
  IsOneReadWhereNamed before None None after = before ≡ after
  IsOneReadWhereNamed before None (Some value) after = ⊥
  IsOneReadWhereNamed before (Some path) None after = ⊥
  IsOneReadWhereNamed before (Some path) (Some value) after = IsOneRead before path value after

  -- ---- the results of a command

  -- The definitions, the old objects and the objects were read in order, and this is the result.
  pub record AreChecked (before : S) (asked : CheckData) (after : S) (items : List ItemData) : Type 0 where
    pub crds : List Found
    pub olds : List Found
    pub objects : List Found
    pub with_crds : S
    pub with_olds : S
    pub crds_read : AreRead reads before asked.crds crds with_crds
    pub olds_read : AreRead reads with_crds asked.olds olds with_olds
    pub objects_read : AreRead reads with_olds asked.objects objects after
    pub judged : AreJudged asked crds olds objects items

  -- The definitions were read. There is at least one, all are well-formed, and each is reviewed.
  pub record AreReviewed (before : S) (paths : List (List ℕ)) (after : S) (items : List ItemData)
      : Type 0 where
    pub crds : List Found
    pub crds_read : AreRead reads before paths crds after
    pub versions : List (Version Data)
    pub whole : AreWhole crds versions
    pub some : 0 < length (all_objects crds)
    pub reviewed : AreItems IsReviewed (all_objects crds) items

  -- The policy and its inputs were read in order, and this is the verdict.
  pub record AreAdmitted (before : S) (asked : AdmitData) (after : S) (items : List ItemData) : Type 0 where
    pub policy : Data
    pub request : Option Data
    pub object : Option Data
    pub old : Option Data
    pub params : Option Data
    pub namespace : Option Data
    pub with_policy : S
    pub with_request : S
    pub with_object : S
    pub with_old : S
    pub with_params : S
    pub policy_read : IsOneRead before asked.policy policy with_policy
    pub request_read : IsOneReadWhereNamed with_policy asked.request request with_request
    pub object_read : IsOneReadWhereNamed with_request asked.object object with_object
    pub old_read : IsOneReadWhereNamed with_object asked.old old with_old
    pub params_read : IsOneReadWhereNamed with_old asked.params params with_params
    pub namespace_read : IsOneReadWhereNamed with_params asked.namespace namespace after
    pub base : Variables
    pub base_is : base_of request ≡ Ok base
    pub verdict : PolicyVerdict
    pub judged : IsVerdictOf (record base {
      object = instead object base.object;
      old_object = instead old base.old_object;
      params = instead params base.params;
      namespace_object = instead namespace base.namespace_object;
    }) policy (Ok verdict)
    pub reported : items
        ≡ policy_item (record { file = asked.policy; index = 0; is_item = false; value = policy }) (verdict_view verdict) ∷ []

  abbrev pub AreFound : S → Asked → S → List ItemData → Type 0
  AreFound before (check asked) after items = AreChecked before asked after items
  AreFound before (review paths) after items = AreReviewed before paths after items
  AreFound before (admit asked) after items = AreAdmitted before asked after items

-- the exit status is that of the items, and the items were written
pub record IsReported (Are : List ItemData → Type 0) (status : ℕ)
    (Writes : List ItemData → Type 0) : Type 0 where
  pub items : List ItemData
  pub are : Are items
  pub status_is : status ≡ items_status items
  pub written : Writes items

-- ---- for private clauses

-- P holds of the items that a command reports, and no fault is reported beside them
abbrev pub IfReport : Result Report Stop → (List ItemData → Type 0) → Type 0
IfReport (Ok r) P = (r.fault ≡ None) × P (map item_view r.items.items)
IfReport (Err s) P = ⊥

-- P holds of the items of a report, unless a fault is reported beside them
abbrev pub UnlessFault : Report → (List ItemData → Type 0) → Type 0
UnlessFault r P = r.fault ≡ None → P (map item_view r.items.items)

-- all objects are judged by a set under one book of patterns
abbrev pub AreJudgedBySet : Bool → CrdSet → List Data → List Found → List ItemData → Type 0
AreJudgedBySet ignores_missing set olds objects items =
    (book : Book) × IsBook book × AreItems (IsJudgedBy book ignores_missing set olds) objects items
