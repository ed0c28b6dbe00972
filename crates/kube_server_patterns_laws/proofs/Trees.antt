-- What is written for places and characters.
use Rattle.regex.proofs.OnLiterals.{regex_on_literals, alone, same_refl}
use Rattle.kube_server_patterns_laws.proofs.Opened.{re2, ◌beside◌}
use Rattle.kube_server_patterns_laws.specs.Meanings.{AreTrees, of_places, of_characters}

pub of_places_read : AreTrees of_places
unfolding regex_on_literals re2
of_places_read =
    alone (same_refl _)
    beside alone (same_refl _)
    beside alone (alone (same_refl _))
    beside alone (alone (same_refl _))
    beside alone (same_refl _)
    beside alone (same_refl _)
    beside alone (alone (same_refl _))
    beside tt

pub of_characters_read : AreTrees of_characters
unfolding regex_on_literals re2
of_characters_read =
    alone (same_refl _)
    beside alone (same_refl _)
    beside alone (same_refl _)
    beside alone (same_refl _)
    beside alone (same_refl _)
    beside alone (same_refl _)
    beside alone (same_refl _)
    beside alone (same_refl _)
    beside alone (same_refl _)
    beside tt
