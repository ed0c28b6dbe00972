use Rattle.cel.specs.Book.{Book, Extends}
use Rattle.cel.specs.Entries.{entries_of}
use Rattle.kubecel_check.specs.Judgements.{IsJudgedBy}
use Rattle.kubecel_cli.proofs.check.judge_all.Given as goal
use Rattle.kubecel_cli.specs.Runs.{AreItems}
use Rattle.kubecel_io.specs.Subjects.{subject_view}
use Rattle.kubecel_report.specs.Items.{item_view}
use Rattle.std.proofs.Common.{◌≡◌, false, map, take}

-- if no object so far was judged in part; under each book that extends what the book has so far
abbrev pub invariant-loop-subject : goal.invariant-loop-subject
invariant-loop-subject g l = l.partly ≡ false → (b : Book) → Extends b (entries_of l.book)
    → AreItems (IsJudgedBy b l.ignores_missing l.set (map (λ f. f.value) (map subject_view l.olds.objects.now))) (map subject_view (take l.subject-index l.subjects)) (map item_view l.items.items)
