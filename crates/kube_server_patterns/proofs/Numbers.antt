-- How a number grows by its digits.
use Rattle.std.proofs.Common.{◌≡◌, ℕ, ◌+◌, ◌<◌, ◌≤◌, List, length, drop, get_or, Some}
use Rattle.std.specs.Prelude.{option_and_then}
use Rattle.std.proofs.lemmas.List.{at_drop_more, at_drop_all}
use Rattle.kube_server_patterns.specs.Fronts.{next_number, number_from}

pub number_more : (radix limit n i : ℕ) (t : List ℕ) → i < length t →
    number_from radix limit n (drop i t) ≡ option_and_then (λ m. number_from radix limit m (drop (i + 1) t)) (next_number radix limit n (get_or t i 0))
number_more radix limit n i t h = at_drop_more (number_from radix limit n) t i 0 h

pub number_done : (radix limit n i : ℕ) (t : List ℕ) → length t ≤ i → number_from radix limit n (drop i t) ≡ Some n
number_done radix limit n i t h = at_drop_all (number_from radix limit n) t i h
