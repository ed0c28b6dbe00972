-- Things reported one after another.
use Rattle.cel_patterns.proofs.Books.{Extends-refl}
use Rattle.cel_patterns.proofs.Entries.{entries-IsBook}
use Rattle.cel.specs.Book.{Book, Extends}
use Rattle.cel.specs.Entries.{entries_of}
use Rattle.cel.specs.PatternBook.{PatternBook}
use Rattle.kube_manifests.specs.declared.set.CrdSet.{CrdSet}
use Rattle.kubecel_check.specs.Judgements.{IsJudgedBy}
use Rattle.kubecel_io.specs.Reads.{AreRead, Found}
use Rattle.kubecel_io.specs.Subjects.{subject_view}
use Rattle.kubecel_io.specs.declared.subject.Subject.{Subject}
use Rattle.kubecel_report.specs.Items.{ItemData, item_view, items_status}
use Rattle.kubecel_report.specs.declared.item.Item.{Item}
use Rattle.kubecel_io.specs.declared.sources.Stop.{Stop}
use Rattle.kubecel_cli.specs.Commands.{CheckData}
use Rattle.kubecel_cli.specs.Runs.{AreBehind, AreChecked, AreItems, AreJudged, AreJudgedBySet, IfReport, IsReported, UnlessFault}
use Rattle.kubecel_cli.specs.declared.report.Report.{Report}
use Rattle.serde_json.specs.Data.{Data}
use Rattle.std.proofs.Common.{◌≡◌, ℕ, ◌+◌, ◌<◌, ◌≤◌, Option, List, [], ◌∷◌, ◌++◌, get_or, length, map, take, Bool, true, false, ◌||◌, is_some, Result, Ok, Err, IfOk, refl, sym, ap, subst, ◌∙◌}
use Rattle.std.proofs.lemmas.Bool.{false≢true}
use Rattle.std.proofs.lemmas.List.{map-append, take_all, take_more}

items_push : (Is : Found → ItemData → Type 0) (fs : List Found) (f : Found) (items : List ItemData) (i : ItemData) → AreItems Is fs items → Is f i → AreItems Is (fs ++ f ∷ []) (items ++ i ∷ [])
items_push Is [] f items i are one = (i, [], ap (λ js. js ++ i ∷ []) are, one, refl)
items_push Is (g ∷ fs) f items i are one = (are.0, are.1 ++ i ∷ [], ap (λ js. js ++ i ∷ []) are.2, are.3, items_push Is fs f are.1 i are.4 one)

-- one more thing is reported
pub one_more_item : (Is : Found → ItemData → Type 0) (xs : List Subject) (n : ℕ) (x : Subject) (done after : List Item) (i : Item) → n < length xs → x ≡ get_or xs n x
    → AreItems Is (map subject_view (take n xs)) (map item_view done) → Is (subject_view x) (item_view i) → after ≡ done ++ i ∷ []
    → AreItems Is (map subject_view (take (n + 1) xs)) (map item_view after)
one_more_item Is xs n x done after i below is are one pushed =
    let all = map subject_view (take n xs) in
    let grown : all ++ subject_view x ∷ [] ≡ map subject_view (take (n + 1) xs) =
    ap (λ y. all ++ subject_view y ∷ []) is ∙ sym (ap (map subject_view) (take_more xs n x below) ∙ map-append subject_view (take n xs) (get_or xs n x ∷ [])) in
    let added : map item_view done ++ item_view i ∷ [] ≡ map item_view after = sym (ap (map item_view) pushed ∙ map-append item_view done (i ∷ [])) in
    subst (λ fs. AreItems Is fs (map item_view after)) grown (subst (AreItems Is (all ++ subject_view x ∷ [])) added (items_push Is all (subject_view x) (map item_view done) (item_view i) are one))

-- the relation of things and items may be replaced by a weaker one
pub items_otherwise : (P Q : Found → ItemData → Type 0) → ((f : Found) (i : ItemData) → P f i → Q f i) → (fs : List Found) (items : List ItemData) → AreItems P fs items → AreItems Q fs items
items_otherwise P Q g [] items are = are
items_otherwise P Q g (f ∷ fs) items are = (are.0, are.1, are.2, g f are.0 are.3, items_otherwise P Q g fs are.1 are.4)

-- the results of a command were reported
pub reported_so : (Are : List ItemData → Type 0) (status : ℕ) (Writes : List ItemData → Type 0) (found : Result Report Stop)
    → IfOk found (λ r. UnlessFault r Are) → IfReport found (λ items. (status ≡ items_status items) × Writes items) → IsReported Are status Writes
reported_so Are status Writes (Ok r) are reported = record { items = map item_view r.items.items; are = are reported.0; status_is = reported.1.0; written = reported.1.1 }
reported_so Are status Writes (Err stop) are reported = absurd reported

-- if one of two holds of nothing, neither does
pub neither_left : (a b : Bool) → (a || b) ≡ false → a ≡ false
neither_left true b e = e
neither_left false b e = refl

pub neither_right : (a b : Bool) → (a || b) ≡ false → b ≡ false
neither_right true b e = cc
neither_right false b e = e

-- what holds of a report holds of it where no fault is reported beside
pub without_fault : (Are : List ItemData → Type 0) (found : Result Report Stop) → IfOk found (λ r. Are (map item_view r.items.items)) → IfOk found (λ r. UnlessFault r Are)
without_fault Are (Ok r) are = λ none. are
without_fault Are (Err stop) are = tt

-- a fault beside the items is enough
pub with_fault : (Are : List ItemData → Type 0) (r : Report) → is_some r.fault ≡ true → UnlessFault r Are
with_fault Are r some none = absurd (false≢true (ap is_some (sym none) ∙ some))

pub at_fault : (Are : List ItemData → Type 0) (found : Result Report Stop) → IfOk found (λ r. is_some r.fault ≡ true) → IfOk found (λ r. UnlessFault r Are)
at_fault Are (Ok r) some = with_fault Are r some
at_fault Are (Err stop) some = tt

-- ---- objects

-- what is judged of the documents of files is so of the files
pub with_files : {S : Type 0} (reads : S → List ℕ → Option (List ℕ) → S → Type 0) (before : S) (asked : CheckData) (after : S) (found : Result Report Stop)
    (crds olds objects given earlier present : List Found) (with_crds with_olds : S) → given ≡ crds → earlier ≡ olds → present ≡ objects
    → AreRead reads before asked.crds crds with_crds → AreRead reads with_crds asked.olds olds with_olds → AreRead reads with_olds asked.objects objects after
    → IfOk found (λ r. UnlessFault r (AreJudged asked given earlier present)) → IfOk found (λ r. UnlessFault r (AreChecked reads before asked after))
with_files reads before asked after (Ok r) crds olds objects given earlier present with_crds with_olds crds_are olds_are objects_are crds_read olds_read objects_read judged = λ none.
    let items = map item_view r.items.items in
    let of_crds = subst (λ fs. AreJudged asked fs earlier present items) crds_are (judged none) in
    let of_olds = subst (λ fs. AreJudged asked crds fs present items) olds_are of_crds in
    record {
      crds = crds;
      olds = olds;
      objects = objects;
      with_crds = with_crds;
      with_olds = with_olds;
      crds_read = crds_read;
      olds_read = olds_read;
      objects_read = objects_read;
      judged = subst (λ fs. AreJudged asked crds olds fs items) objects_are of_olds;
    }
with_files reads before asked after (Err stop) crds olds objects given earlier present with_crds with_olds crds_are olds_are objects_are crds_read olds_read objects_read judged = tt

-- items before those of a report
pub behind_so : (first : List ItemData) (Are : List ItemData → Type 0) (report all : Report) → map item_view all.items.items ≡ first ++ map item_view report.items.items
    → all.fault ≡ report.fault → UnlessFault report Are → UnlessFault all (AreBehind first Are)
behind_so first Are report all items fault are = λ none. (map item_view report.items.items, items, are (sym fault ∙ none))

-- all objects were judged
pub judged_to_end : (ignores_missing : Bool) (set : CrdSet) (olds : List Data) (subjects : List Subject) (n : ℕ) (items : List Item) (book : PatternBook) → length subjects ≤ n
    → ((b : Book) → Extends b (entries_of book) → AreItems (IsJudgedBy b ignores_missing set olds) (map subject_view (take n subjects)) (map item_view items))
    → AreJudgedBySet ignores_missing set olds (map subject_view subjects) (map item_view items)
judged_to_end ignores_missing set olds subjects n items book past are =
    let b = entries_of book in
    (b, entries-IsBook book, subst (λ ss. AreItems (IsJudgedBy b ignores_missing set olds) (map subject_view ss) (map item_view items)) (take_all n subjects past) (are b (Extends-refl b)))
