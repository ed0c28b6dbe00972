-- The answer of the code's version is that of the documents' version.
use Rattle.std.proofs.Common.{◌≡◌, ℕ, List, [], map, Option, Some, Result, Ok, Err, refl, sym, ap, ◌∙◌, subst, string_bytes}
use Rattle.cel.specs.Book.{Book}
use Rattle.kube_cel.specs.Answers.{IsReportOf, answer_view, found_in, report_of}
use Rattle.kube_cel.specs.Raw.{raw_accessors}
use Rattle.kube_cel.specs.Starts.{defaulted_start}
use Rattle.kube_cel.specs.WalkAnswers.{answer as answer_at, IsAnswer}
use Rattle.kube_cel.specs.ValidationErrors.{ValidationErrors}
use Rattle.kube_cel.specs.Roots.{root_view}
use Rattle.kube_manifests.proofs.Choices.{chosen_alike}
use Rattle.kube_manifests.proofs.Formed.{mapped}
use Rattle.kube_manifests.specs.declared.judgement.NotJudged.{NotJudged}
use Rattle.kube_manifests.specs.declared.judgement.Judgement.TheVariants as judgement
use Rattle.kube_manifests.specs.declared.version.CrdVersion.{CrdVersion}
use Rattle.kube_manifests.specs.Lists.{version_view}
use Rattle.kube_manifests.specs.Sets.{IsJudgement, IsJudgementUnder, with_tree}
use Rattle.kube_manifests.specs.Versions.{chosen_version, root_of}
use Rattle.kube_manifests_documents.specs.Versions.{Version}
use Rattle.kube_schema.specs.Shown.{whole}
use Rattle.kube_schema.specs.Tree.{Node}
use Rattle.kube_schema.specs.View.{view_of}
use Rattle.kube_schema.specs.Visit.{Visit}
use Rattle.serde_json.specs.Data.{Data}

-- a choice among versions with trees corresponds to one among versions with schemas
ok_before : {A B E : Type 0} (f : A → B) (r : Result A E) (w : B) → mapped f r ≡ Ok w → (v : A) × (r ≡ Ok v) × (f v ≡ w)
ok_before f (Ok v) w e = let same : f v ≡ w = cc in (v, refl, same)
ok_before f (Err x) w e = cc

err_before : {A B E : Type 0} (f : A → B) (r : Result A E) (x : E) → mapped f r ≡ Err x → r ≡ Err x
err_before f (Ok v) x e = cc
err_before f (Err y) x e = let same : y ≡ x = cc in ap Err same

-- the root context of the code's version
root_is : (v : CrdVersion) → root_view v.root ≡ root_of (version_view v)
root_is v = ap (λ (t : List ℕ). record { api_version = t; api_group = string_bytes v.root.api_group; kind = string_bytes v.root.kind }) v.named

module _ (set : List (Version Node)) (versions : List (Version Data)) (same : set ≡ map with_tree versions) (value : Data) (old : Option Data) where
  chosen_is : mapped with_tree (chosen_version versions value) ≡ chosen_version set value
  chosen_is = sym (ap (λ vs. chosen_version vs value) same ∙ chosen_alike (view_of 65) versions value)

  pub not_judged : (x : NotJudged) → Err x ≡ chosen_version set value → IsJudgement versions value old (judgement.NotJudged x)
  not_judged x e = err_before with_tree (chosen_version versions value) x (chosen_is ∙ sym e)

  -- what holds of the answer by each schema with the tree of the code's version holds of it by the
  -- schema of the documents' version
  pub judged_so : (P : Visit Data → Type 0) (v : CrdVersion) → Ok (version_view v) ≡ chosen_version set value
      → ((s : Data) → whole v.schema ≡ view_of 65 s → P (defaulted_start s value old (Some (root_view v.root))))
      → (w : Version Data) × (chosen_version versions value ≡ Ok w) × P (defaulted_start w.schema value old (Some (root_of w)))
  judged_so P v e the_report =
      let before = ok_before with_tree (chosen_version versions value) (version_view v) (chosen_is ∙ sym e) in
      let w = before.0 in
      let root : root_view v.root ≡ root_of w = root_is v ∙ ap root_of (sym before.2) in
      let tree : whole v.schema ≡ view_of 65 w.schema = ap (λ (x : Version Node). x.schema) (sym before.2) in
      (w, before.1, subst (λ r. P (defaulted_start w.schema value old (Some r))) root (the_report w.schema tree))

  pub judged : (v : CrdVersion) (answer : Result (Unit {0}) ValidationErrors) → Ok (version_view v) ≡ chosen_version set value
      → ((s : Data) → whole v.schema ≡ view_of 65 s → IsReportOf raw_accessors (defaulted_start s value old (Some (root_view v.root))) answer)
      → IsJudgement versions value old (judgement.Judged answer)
  judged v answer = judged_so (λ start. IsReportOf raw_accessors start answer) v

  pub judged_under : (b : Book) (v : CrdVersion) (answer : Result (Unit {0}) ValidationErrors) → Ok (version_view v) ≡ chosen_version set value
      → ((s : Data) → whole v.schema ≡ view_of 65 s
      → (answer_view answer ≡ report_of (answer_at raw_accessors b 65 (defaulted_start s value old (Some (root_view v.root)))))
      × IsAnswer raw_accessors b (defaulted_start s value old (Some (root_view v.root))) (found_in answer))
      → IsJudgementUnder b versions value old (judgement.Judged answer)
  judged_under b v answer e the_report =
      let found = judged_so (λ start. (answer_view answer ≡ report_of (answer_at raw_accessors b 65 start)) × IsAnswer raw_accessors b start (found_in answer)) v e the_report in
      (found.0, found.1, found.2.0, found.2.1)
