use Rattle.kubecel_io.proofs.olds.index_of.Given as goal
use Rattle.kubecel_io.specs.Index.{first_from}
use Rattle.kubecel_io.specs.Subjects.{subject_view}
use Rattle.std.proofs.Common.{◌≡◌, ℕ, List, drop, map}
use Rattle.std.specs.BTreeMap.{get_by_text}

-- the index of the old objects from this number on
abbrev pub invariant-loop-number : goal.invariant-loop-number
invariant-loop-number l = (k : List ℕ) → get_by_text l.index k ≡ first_from k l.number (drop l.number (map (λ f. f.value) (map subject_view l.olds)))
