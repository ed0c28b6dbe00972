-- Scaffolding: only proofs and private clauses cite it.
-- Calls, lists and maps with one more part.
use Rattle.std.specs.Prelude.{◌≡◌, Bool, [], ◌∷◌, ◌++◌, map, Result, Ok, Err}
use Rattle.kube_server_syntax.specs.Tree.{Tree, tree}
use Rattle.kube_server_parser.specs.Trees.{item_view, entry_view, target_view}
use Rattle.kube_server_parser.specs.declared.part.Call.{Call}
use Rattle.kube_server_parser.specs.declared.part.Items.{Items}
use Rattle.kube_server_parser.specs.declared.part.Entries.{Entries}
use Rattle.kube_server_parser.specs.declared.stop.Stop.{Stop}
use Rattle.kube_server_parser.specs.declared.stop.Stop.TheVariants.{Memory}

abbrev pub AddsArgument : Call → Tree → Result Call Stop → Type 0
AddsArgument c t (Ok d) = (d.place ≡ c.place) × (target_view d.target ≡ target_view c.target) × (d.name ≡ c.name)
    × (map tree d.arguments.items ≡ map tree c.arguments.items ++ t ∷ [])
AddsArgument c t (Err e) = e ≡ Memory

abbrev pub AddsItem : Items → Bool → Tree → Result Items Stop → Type 0
AddsItem c o t (Ok d) = (d.place ≡ c.place) × (map item_view d.items.items ≡ map item_view c.items.items ++ (o, t) ∷ [])
AddsItem c o t (Err e) = e ≡ Memory

abbrev pub AddsEntry : Entries → Bool → Tree → Tree → Result Entries Stop → Type 0
AddsEntry c o a b (Ok d) = (d.place ≡ c.place)
    × (map entry_view d.entries.items ≡ map entry_view c.entries.items ++ (o, a, b) ∷ [])
AddsEntry c o a b (Err e) = e ≡ Memory
