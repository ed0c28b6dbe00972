-- How the letters of flags are read.
use Rattle.std.proofs.Common.{◌≡◌, ℕ, ◌+◌, ◌<◌, ◌≤◌, ◌||◌, List, length, drop, get_or}
use Rattle.std.specs.Prelude.{nat_eq, Err, if◌then◌else◌}
use Rattle.std.proofs.lemmas.List.{at_drop_more, at_drop_all}
use Rattle.kube_server_patterns.specs.Openings.{ended_before, flagged_from, letters_or_none, with_letter}
use Rattle.kube_server_patterns.specs.declared.opening.Letters.{Letters}
use Rattle.kube_server_patterns.specs.declared.refusal.Refusal.TheVariants.{Invalid}

pub letters_more : (letters : Letters) (i : ℕ) (t : List ℕ) → i < length t →
    flagged_from letters (drop i t) ≡ (if nat_eq (get_or t i 0) 58 || nat_eq (get_or t i 0) 41 then ended_before letters (get_or t i 0) (drop (i + 1) t)
    else letters_or_none (λ more. flagged_from more (drop (i + 1) t)) (with_letter letters (get_or t i 0)))
letters_more letters i t h = at_drop_more (flagged_from letters) t i 0 h

pub letters_done : (letters : Letters) (i : ℕ) (t : List ℕ) → length t ≤ i → flagged_from letters (drop i t) ≡ Err Invalid
letters_done letters i t h = at_drop_all (flagged_from letters) t i h
