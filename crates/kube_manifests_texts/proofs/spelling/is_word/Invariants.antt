use Rattle.std.proofs.Common.{◌≡◌, map, drop}
use Rattle.kube_manifests_texts.specs.Spelling.{is_word}
use Rattle.kube_manifests_texts.proofs.spelling.is_word.Given as goal

-- the remaining words give the answer of all words
abbrev pub invariant-loop-word : goal.invariant-loop-word
invariant-loop-word l = is_word (map (λ w. w.now) l.words) l.text ≡ is_word (map (λ w. w.now) (drop l.word-index l.words)) l.text
