use Rattle.std.proofs.Common.{length}
use Rattle.kube_manifests_texts.proofs.spelling.+has_two_letters_swapped.Given as goal

abbrev pub decreases-has_two_letters_swapped : goal.decreases-has_two_letters_swapped
decreases-has_two_letters_swapped l = length l.text.now
