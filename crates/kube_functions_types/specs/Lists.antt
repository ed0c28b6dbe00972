-- Trusted by the headline.
-- Lists of strings as values.
use Rattle.std.specs.Prelude.{ℕ, List, map}
use Rattle.cel_value.specs.Data.{Data, text, list, Items}
use Rattle.cel_value.specs.View.{items_of}

abbrev pub text_items : List (List ℕ) → Items
text_items texts = items_of (map text texts)

abbrev pub text_list : List (List ℕ) → Data
text_list texts = list (text_items texts)
