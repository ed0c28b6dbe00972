-- An object that is judged without errors under a book is so under a book that refuses no more.
use Rattle.cel.specs.Book.{Book, IsBook, IsPlain}
use Rattle.kube_cel.proofs.RawNodes.{raw_accessors_counts_all}
use Rattle.kube_cel.proofs.Reports.{is_answer}
use Rattle.kube_cel.specs.Answers.{report_of}
use Rattle.kube_cel.specs.Raw.{raw_accessors}
use Rattle.kube_cel.specs.Starts.{defaulted_start}
use Rattle.kube_cel_laws.proofs.Passes.{answer_passes, raw_library, report_passes, reported_none}
use Rattle.kube_cel_laws.specs.Books.{RefusesNoMore}
use Rattle.kube_cel.specs.WalkAnswers.{answer}
use Rattle.kube_manifests.specs.Sets.{IsJudgement, IsJudgementUnder}
use Rattle.kube_manifests.specs.DocumentsVersions.{Version}
use Rattle.kube_manifests.specs.Versions.{chosen_version, root_of}
use Rattle.kube_manifests.specs.declared.judgement.Judgement.TheVariants.{Judged}
use Rattle.serde_json.specs.Data.{Data}
use Rattle.std.proofs.Common.{◌≡◌, ◌↔◌, List, [], Option, Some, Ok, sym, ap}

module _ (versions : List (Version Data)) (value : Data) (old : Option Data) where
  -- a version is chosen whose schema finds no error under the book
  without_errors : (book : Book) (v : Version Data) → chosen_version versions value ≡ Ok v
      → answer raw_accessors book 65 (defaulted_start v.schema value old (Some (root_of v))) ≡ []
      → IsJudgementUnder book versions value old (Judged (Ok tt))
  without_errors book v chosen none = (
    v,
    chosen,
    ap report_of (sym none),
    is_answer raw_accessors raw_accessors_counts_all book (defaulted_start v.schema value old (Some (root_of v))) [] (sym none),
  )

  pub judgement_passes : (strict lenient : Book) → RefusesNoMore lenient strict
      → IsJudgementUnder strict versions value old (Judged (Ok tt)) → IsJudgementUnder lenient versions value old (Judged (Ok tt))
  judgement_passes strict lenient no_more j =
      let start = defaulted_start j.0.schema value old (Some (root_of j.0)) in
      without_errors lenient j.0 j.1 (answer_passes strict lenient no_more raw_accessors raw_library 65 start (reported_none (answer raw_accessors strict 65 start) j.2))

  pub judged_plainly : (plain : Book) → IsBook plain → IsPlain plain
      → IsJudgement versions value old (Judged (Ok tt)) ↔ IsJudgementUnder plain versions value old (Judged (Ok tt))
  judged_plainly plain is_book is_plain = (
    (λ j. without_errors plain j.0 j.1 (report_passes plain is_plain raw_accessors raw_library (defaulted_start j.0.schema value old (Some (root_of j.0))) j.2)),
    (λ j. (j.0, j.1, (plain, is_book, j.2, j.3))),
  )
