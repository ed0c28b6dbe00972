use Rattle.kube_manifests_texts.proofs.Swaps.{swap_of, swapped_of}
use Rattle.kube_manifests_texts.proofs.laws.two_letters_swapped_is_one_swap.Goals as goal

pub returns-clause-swap : goal.returns-clause-swap
returns-clause-swap c = swap_of

pub returns-clause-swapped : goal.returns-clause-swapped
returns-clause-swapped c = swapped_of
