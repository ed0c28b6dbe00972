-- Trusted by the headline.
-- The names of the kinds.
use Rattle.std.specs.Prelude.{ℕ, List, codes}
use Rattle.cel_value.specs.declared.kind.Kind.{Kind}
use Rattle.cel_value.specs.declared.kind.Kind.TheVariants as kind

abbrev pub kind_name : Kind → List ℕ
kind_name kind.Null = codes "null"
kind_name kind.Bool = codes "bool"
kind_name kind.Int = codes "int"
kind_name kind.UInt = codes "uint"
kind_name kind.Float = codes "double"
kind_name kind.String = codes "string"
kind_name kind.Bytes = codes "bytes"
kind_name kind.List = codes "list"
kind_name kind.Map = codes "map"
kind_name kind.Timestamp = codes "timestamp"
kind_name kind.Duration = codes "duration"
kind_name kind.Optional = codes "optional"
kind_name kind.Ip = codes "net.IP"
kind_name kind.Cidr = codes "net.CIDR"
kind_name kind.Quantity = codes "kubernetes.Quantity"
kind_name kind.Semver = codes "kubernetes.Semver"
kind_name kind.Url = codes "kubernetes.URL"
kind_name kind.Format = codes "kubernetes.Format"
