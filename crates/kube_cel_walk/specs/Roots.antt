-- Trusted by the headline.
-- A root context as plain data.
use Rattle.kube_cel_walk.specs.declared.root.RootContext.{RootContext}
use Rattle.kube_schema_rules.specs.Visit.{Root}
use Rattle.std.specs.Prelude.{string_bytes}

abbrev pub root_view : RootContext → Root
root_view r = record {
  api_version = string_bytes r.api_version;
  api_group = string_bytes r.api_group;
  kind = string_bytes r.kind;
}
