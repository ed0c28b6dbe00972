use Rattle.std.proofs.Common.{length}
use Rattle.kube_manifests_texts.proofs.spelling.+is_one_letter_off.Given as goal

abbrev pub decreases-is_one_letter_off : goal.decreases-is_one_letter_off
decreases-is_one_letter_off l = length l.text.now
