use Rattle.kube_server_times.proofs.decimals.+write_places.Given as goal

abbrev pub decreases-write_places : goal.decreases-write_places
decreases-write_places l = l.places
