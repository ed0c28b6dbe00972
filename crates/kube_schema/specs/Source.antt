-- Trusted by the clauses of other library calls.
-- Keywords that are read from the schema when they are asked for.
use Rattle.std.specs.Prelude.{Option, option_map}
use Rattle.serde_json.specs.Data.{Data, null}
use Rattle.serde_json.specs.View.{view}
use Rattle.kube_schema.specs.declared.source.SourceKeywords.{SourceKeywords}
use Rattle.kube_schema.specs.declared.source.SourceKeywords.TheVariants.{Unread, Read, TooDeep}
use Rattle.kube_schema.specs.Raw.{keywords_view}
use Rattle.kube_schema.specs.Tree.{Own}
use Rattle.kube_schema.specs.View.{own_view, marker_view}

-- the keywords of a schema with this default
abbrev pub own_with : Data → Option Data → Own
own_with s d = record (own_view s) { default = d }

-- the marker of a schema with this default
abbrev pub marker_with : Option Data → Own
marker_with d = record (marker_view null) { default = d }

abbrev pub source_own : SourceKeywords → Own
source_own (Unread s d) = own_with (view s.now) (option_map (λ v. view v.now) d)
source_own (Read k) = keywords_view k
source_own (TooDeep d) = marker_with (option_map (λ v. view v.now) d)
