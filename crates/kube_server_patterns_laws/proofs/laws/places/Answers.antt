use Rattle.kube_server_patterns_laws.proofs.Trees.{of_places_read, of_characters_read}
use Rattle.kube_server_patterns_laws.proofs.laws.places.Goals as goal

pub returns : goal.returns
returns c = record { of_places = of_places_read; of_characters = of_characters_read }
