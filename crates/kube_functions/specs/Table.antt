-- Trusted by the headline.
-- The functions that Kubernetes adds to the standard ones, by library: the name of each, and the
-- forms in which it may be called (Kubernetes documentation, "CEL in Kubernetes"; documentation
-- of CEL-Go, "Encoders", "Lists", "Math", "Sets", "Strings"; `k8s.io/apiserver/pkg/cel/library`).
use Rattle.std.specs.Prelude.{ℕ, nat_le, ◌&&◌, not, List, [], ◌∷◌, codes, Bool, true, false, Option, Some, None}
use Rattle.std.specs.List.{filter}
use Rattle.std.specs.Map.{lookup}
use Rattle.std.specs.Option.{option_map_or}
use Rattle.std.specs.Str.{bytes_eq}
use Rattle.kube_types.specs.FormatKind.{FormatKind}
use Rattle.kube_types.specs.FormatKind.TheVariants as kind
use Rattle.kube_functions.specs.declared.functions.Declaration.{Declaration}
use Rattle.kube_functions.specs.declared.functions.Function.{Function}
use Rattle.kube_functions.specs.declared.functions.Function.TheVariants.{Strings, Lists, Math, Sets, Encoders, Regex, Net, Semver, Quantity, Url, Format}
use Rattle.kube_functions.specs.declared.libraries.strings.StringsFunction.TheVariants as strings
use Rattle.kube_functions.specs.declared.libraries.lists.ListsFunction.TheVariants as lists
use Rattle.kube_functions.specs.declared.libraries.math.MathFunction.TheVariants as math
use Rattle.kube_functions.specs.declared.libraries.sets.SetsFunction.TheVariants as sets
use Rattle.kube_functions.specs.declared.libraries.encoders.EncodersFunction.TheVariants as encoders
use Rattle.kube_functions.specs.declared.libraries.regex.RegexFunction.TheVariants as regex
use Rattle.kube_functions.specs.declared.libraries.net.NetFunction.TheVariants as net
use Rattle.kube_functions.specs.declared.libraries.semver.SemverFunction.TheVariants as semver
use Rattle.kube_functions.specs.declared.libraries.quantity.QuantityFunction.TheVariants as quantity
use Rattle.kube_functions.specs.declared.libraries.url.UrlFunction.TheVariants as url
use Rattle.kube_functions.specs.declared.libraries.format.FormatFunction.TheVariants as format

-- a function that is called on a receiver, with `least` to `greatest` arguments
abbrev pub method : ℕ → ℕ → Function → Declaration
method least greatest f = record { receiver = true; least = least; greatest = Some greatest; function = f }

-- a function that is called without a receiver, with `least` to `greatest` arguments
abbrev pub global : ℕ → ℕ → Function → Declaration
global least greatest f = record { receiver = false; least = least; greatest = Some greatest; function = f }

-- a function that is called without a receiver, with one or more arguments
abbrev pub many : Function → Declaration
many f = record { receiver = false; least = 1; greatest = None; function = f }

-- the function that returns a named format; it is called without a receiver and without arguments
abbrev pub named_format : FormatKind → Declaration
named_format k = global 0 0 (Format (format.Kind k))

-- ---- the table

-- One row for each function: its name, whether it is called on a receiver (`method`) or not
-- (`global`), the least and the greatest number of arguments, and the function, by its library.
abbrev pub functions : List (List ℕ × Declaration)
functions =
    -- strings; `indexOf`, `lastIndexOf` and `reverse` also take lists
    (codes "charAt", method 1 1 (Strings strings.CharAt))
    ∷ (codes "format", method 1 1 (Strings strings.Format))
    ∷ (codes "indexOf", method 1 2 (Strings strings.IndexOf))
    ∷ (codes "join", method 0 1 (Strings strings.Join))
    ∷ (codes "lastIndexOf", method 1 2 (Strings strings.LastIndexOf))
    ∷ (codes "lowerAscii", method 0 0 (Strings strings.LowerAscii))
    ∷ (codes "replace", method 2 3 (Strings strings.Replace))
    ∷ (codes "reverse", method 0 0 (Strings strings.Reverse))
    ∷ (codes "split", method 1 2 (Strings strings.Split))
    ∷ (codes "strings.quote", global 1 1 (Strings strings.Quote))
    ∷ (codes "substring", method 1 2 (Strings strings.Substring))
    ∷ (codes "trim", method 0 0 (Strings strings.Trim))
    ∷ (codes "upperAscii", method 0 0 (Strings strings.UpperAscii))
    -- lists
    ∷ (codes "distinct", method 0 0 (Lists lists.Distinct))
    ∷ (codes "first", method 0 0 (Lists lists.First))
    ∷ (codes "flatten", method 0 1 (Lists lists.Flatten))
    ∷ (codes "isSorted", method 0 0 (Lists lists.IsSorted))
    ∷ (codes "last", method 0 0 (Lists lists.Last))
    ∷ (codes "lists.range", global 1 1 (Lists lists.Range))
    ∷ (codes "max", method 0 0 (Lists lists.Max))
    ∷ (codes "min", method 0 0 (Lists lists.Min))
    ∷ (codes "slice", method 2 2 (Lists lists.Slice))
    ∷ (codes "sort", method 0 0 (Lists lists.Sort))
    ∷ (codes "sum", method 0 0 (Lists lists.Sum))
    -- math
    ∷ (codes "math.abs", global 1 1 (Math math.Abs))
    ∷ (codes "math.bitAnd", global 2 2 (Math math.BitAnd))
    ∷ (codes "math.bitNot", global 1 1 (Math math.BitNot))
    ∷ (codes "math.bitOr", global 2 2 (Math math.BitOr))
    ∷ (codes "math.bitShiftLeft", global 2 2 (Math math.BitShiftLeft))
    ∷ (codes "math.bitShiftRight", global 2 2 (Math math.BitShiftRight))
    ∷ (codes "math.bitXor", global 2 2 (Math math.BitXor))
    ∷ (codes "math.greatest", many (Math math.Greatest))
    ∷ (codes "math.least", many (Math math.Least))
    ∷ (codes "math.sign", global 1 1 (Math math.Sign))
    -- sets
    ∷ (codes "sets.contains", global 2 2 (Sets sets.Contains))
    ∷ (codes "sets.equivalent", global 2 2 (Sets sets.Equivalent))
    ∷ (codes "sets.intersects", global 2 2 (Sets sets.Intersects))
    -- encoders
    ∷ (codes "base64.decode", global 1 1 (Encoders encoders.Decode))
    ∷ (codes "base64.encode", global 1 1 (Encoders encoders.Encode))
    ∷ (codes "jsonpatch.escapeKey", global 1 1 (Encoders encoders.EscapeKey))
    -- regex
    ∷ (codes "find", method 1 1 (Regex regex.Find))
    ∷ (codes "findAll", method 1 2 (Regex regex.FindAll))
    -- net: first IP addresses, then CIDRs
    ∷ (codes "ip", global 1 1 (Net net.Ip))
    ∷ (codes "isIP", global 1 1 (Net net.IsIp))
    ∷ (codes "isIPv4", global 1 1 (Net net.IsIpv4))
    ∷ (codes "isIPv6", global 1 1 (Net net.IsIpv6))
    ∷ (codes "ip.isCanonical", global 1 1 (Net net.IsCanonical))
    ∷ (codes "family", method 0 0 (Net net.Family))
    ∷ (codes "isGlobalUnicast", method 0 0 (Net net.IsGlobalUnicast))
    ∷ (codes "isLinkLocalMulticast", method 0 0 (Net net.IsLinkLocalMulticast))
    ∷ (codes "isLinkLocalUnicast", method 0 0 (Net net.IsLinkLocalUnicast))
    ∷ (codes "isLoopback", method 0 0 (Net net.IsLoopback))
    ∷ (codes "isUnspecified", method 0 0 (Net net.IsUnspecified))
    ∷ (codes "cidr", global 1 1 (Net net.Cidr))
    ∷ (codes "isCIDR", global 1 1 (Net net.IsCidr))
    ∷ (codes "isCIDRv4", global 1 1 (Net net.IsCidrV4))
    ∷ (codes "isCIDRv6", global 1 1 (Net net.IsCidrV6))
    ∷ (codes "containsCIDR", method 1 1 (Net net.ContainsCidr))
    ∷ (codes "containsIP", method 1 1 (Net net.ContainsIp))
    ∷ (codes "ip", method 0 0 (Net net.IpOfCidr))
    ∷ (codes "masked", method 0 0 (Net net.Masked))
    ∷ (codes "prefixLength", method 0 0 (Net net.PrefixLength))
    -- semver
    ∷ (codes "semver", global 1 2 (Semver semver.Semver))
    ∷ (codes "isSemver", global 1 2 (Semver semver.IsSemver))
    ∷ (codes "major", method 0 0 (Semver semver.Major))
    ∷ (codes "minor", method 0 0 (Semver semver.Minor))
    ∷ (codes "patch", method 0 0 (Semver semver.Patch))
    -- quantity; `compareTo`, `isGreaterThan` and `isLessThan` also compare versions
    ∷ (codes "quantity", global 1 1 (Quantity quantity.Quantity))
    ∷ (codes "isQuantity", global 1 1 (Quantity quantity.IsQuantity))
    ∷ (codes "add", method 1 1 (Quantity quantity.Add))
    ∷ (codes "asInteger", method 0 0 (Quantity quantity.AsInteger))
    ∷ (codes "compareTo", method 1 1 (Quantity quantity.CompareTo))
    ∷ (codes "isGreaterThan", method 1 1 (Quantity quantity.IsGreaterThan))
    ∷ (codes "isInteger", method 0 0 (Quantity quantity.IsInteger))
    ∷ (codes "isLessThan", method 1 1 (Quantity quantity.IsLessThan))
    ∷ (codes "sign", method 0 0 (Quantity quantity.Sign))
    ∷ (codes "sub", method 1 1 (Quantity quantity.Sub))
    -- url
    ∷ (codes "url", global 1 1 (Url url.Url))
    ∷ (codes "isURL", global 1 1 (Url url.IsUrl))
    ∷ (codes "getEscapedPath", method 0 0 (Url url.EscapedPath))
    ∷ (codes "getHost", method 0 0 (Url url.Host))
    ∷ (codes "getHostname", method 0 0 (Url url.Hostname))
    ∷ (codes "getPort", method 0 0 (Url url.Port))
    ∷ (codes "getQuery", method 0 0 (Url url.Query))
    ∷ (codes "getScheme", method 0 0 (Url url.Scheme))
    -- format
    ∷ (codes "format.dns1123Label", named_format kind.Dns1123Label)
    ∷ (codes "format.dns1123LabelPrefix", named_format kind.Dns1123LabelPrefix)
    ∷ (codes "format.dns1123Subdomain", named_format kind.Dns1123Subdomain)
    ∷ (codes "format.dns1123SubdomainPrefix", named_format kind.Dns1123SubdomainPrefix)
    ∷ (codes "format.dns1035Label", named_format kind.Dns1035Label)
    ∷ (codes "format.dns1035LabelPrefix", named_format kind.Dns1035LabelPrefix)
    ∷ (codes "format.qualifiedName", named_format kind.QualifiedName)
    ∷ (codes "format.labelValue", named_format kind.LabelValue)
    ∷ (codes "format.uri", named_format kind.Uri)
    ∷ (codes "format.uuid", named_format kind.Uuid)
    ∷ (codes "format.byte", named_format kind.Byte)
    ∷ (codes "format.date", named_format kind.Date)
    ∷ (codes "format.datetime", named_format kind.DateTime)
    ∷ (codes "format.named", global 1 1 (Format format.Named))
    ∷ (codes "validate", method 1 1 (Format format.Validate))
    ∷ []

-- the rows of functions on a receiver
abbrev pub methods : List (List ℕ × Declaration)
methods = filter (λ row. row.1.receiver) functions

-- the rows of functions without a receiver
abbrev pub globals : List (List ℕ × Declaration)
globals = filter (λ row. not row.1.receiver) functions

-- ---- looking up a call in the table

abbrev pub method_named : List ℕ → Option Declaration
method_named name = lookup (bytes_eq name) methods

abbrev pub global_named : List ℕ → Option Declaration
global_named name = lookup (bytes_eq name) globals

-- the function with this name that is called on a receiver (true) or without one (false), if any
abbrev pub function_named : List ℕ → Bool → Option Declaration
function_named name true = method_named name
function_named name false = global_named name

-- whether the function may be called with this number of arguments
abbrev pub takes : Declaration → ℕ → Bool
takes d count = nat_le d.least count && option_map_or (λ greatest. nat_le count greatest) d.greatest true
