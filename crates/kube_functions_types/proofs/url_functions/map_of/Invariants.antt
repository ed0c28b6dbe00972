use Rattle.std.proofs.Common.{◌≡◌, List, ◌++◌}
use Rattle.cel_value.specs.View.{entries_view}
use Rattle.kube_functions_types.proofs.Queries.{Held, entries_of, named_all}
use Rattle.kube_functions_types.proofs.url_functions.map_of.Given as goal

abbrev pub invariant-loop-name : goal.invariant-loop-name
invariant-loop-name l =
    (done : List Held) × (l.fn.query.entries ≡ done ++ l.name-iterator) × (entries_view l.entries.entries ≡ entries_of (named_all done))
