-- The numbers of items and entries of a value.
use Rattle.std.proofs.Common.{◌≡◌, suc, length, refl, ap}
use Rattle.cel_value.specs.Data.{Items, no_items, item, Entries, no_entries, entry}
use Rattle.cel_value.specs.Find.{list_of_items, list_of_entries}
use Rattle.cel_stdlib.specs.Sizes.{item_count, entry_count}

pub item_count-length : (ds : Items) → item_count ds ≡ length (list_of_items ds)
item_count-length no_items = refl
item_count-length (item d ds) = ap suc (item_count-length ds)

pub entry_count-length : (es : Entries) → entry_count es ≡ length (list_of_entries es)
entry_count-length no_entries = refl
entry_count-length (entry k d es) = ap suc (entry_count-length es)
