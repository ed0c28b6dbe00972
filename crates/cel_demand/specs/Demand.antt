-- Trusted by the clauses of other library calls.
-- The view of a demand: a part.
use Rattle.std.specs.Prelude.{ℕ, List, [], ◌∷◌, map}
use Rattle.cel_demand.specs.Part.{Part, nothing, whole, each_item, some_members, Members, no_members, member}
use Rattle.cel_demand.specs.declared.demand.Demand.{Demand, fold-Demand}
use Rattle.cel_demand.specs.declared.demand.Demand.TheOpen.{Demand-F}

abbrev pub members_of : List (List ℕ × Part) → Members
members_of [] = no_members
members_of (e ∷ es) = member e.0 e.1 (members_of es)

abbrev pub part_step : Demand-F Part → Part
part_step Demand-F.Nothing = nothing
part_step Demand-F.Whole = whole
part_step (Demand-F.Items d) = each_item d.value
part_step (Demand-F.Members ms) = some_members (members_of ms.items)

abbrev pub part_of : Demand → Part
part_of = fold-Demand Part part_step

abbrev pub members_view : List (List ℕ × Demand) → Members
members_view es = members_of (map (λ e. (e.0, part_of e.1)) es)
