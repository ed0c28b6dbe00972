-- Trusted by the clauses of other library calls.
-- The names of the types of values, by which types are compared (CEL language definition, "Values",
-- "Abstract types"; documentation of CEL-Go, `cel.OptionalTypes`; Kubernetes documentation, "CEL in
-- Kubernetes", the types of its libraries). Objects with declared fields are maps here.
use Rattle.std.specs.Prelude.{ℕ, List, codes}
use Rattle.cel_value.specs.declared.kind.Kind.{Kind}
use Rattle.cel_value.specs.declared.kind.Kind.TheVariants as kind

abbrev pub type_name : Kind → List ℕ
type_name kind.Null = codes "null_type"
type_name kind.Bool = codes "bool"
type_name kind.Int = codes "int"
type_name kind.UInt = codes "uint"
type_name kind.Float = codes "double"
type_name kind.String = codes "string"
type_name kind.Bytes = codes "bytes"
type_name kind.List = codes "list"
type_name kind.Map = codes "map"
type_name kind.Timestamp = codes "google.protobuf.Timestamp"
type_name kind.Duration = codes "google.protobuf.Duration"
type_name kind.Optional = codes "optional_type"
type_name kind.Ip = codes "net.IP"
type_name kind.Cidr = codes "net.CIDR"
type_name kind.Quantity = codes "kubernetes.Quantity"
type_name kind.Semver = codes "kubernetes.Semver"
type_name kind.Url = codes "kubernetes.URL"
type_name kind.Format = codes "kubernetes.NamedFormat"
