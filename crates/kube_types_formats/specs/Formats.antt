-- Trusted by the headline.
-- The named formats of Kubernetes' CEL library `format`:
-- their names, and the faults of a text in each.
use Rattle.std.specs.Prelude.{ℕ, List, [], codes, Option, Some, None, if◌then◌else◌}
use Rattle.kube_types_formats.specs.declared.dns.Label.TheVariants.{Rfc1123, Rfc1123Prefix, Rfc1035, Rfc1035Prefix}
use Rattle.kube_types_formats.specs.declared.fault.Fault.{Fault}
use Rattle.kube_types_formats.specs.declared.fault.Fault.TheVariants.{NotUuid, NotBase64}
use Rattle.kube_types_formats.specs.declared.format.KubeFormat.{KubeFormat}
use Rattle.kube_types_formats.specs.declared.kind.FormatKind.{FormatKind}
use Rattle.kube_types_formats.specs.declared.kind.FormatKind.TheVariants.{Dns1123Label, Dns1035Label, Dns1035LabelPrefix, Dns1123LabelPrefix, Dns1123Subdomain, Dns1123SubdomainPrefix, QualifiedName, LabelValue, Uri, Uuid, Byte, Date, DateTime}
use Rattle.kube_types_formats.specs.Found.{only}
use Rattle.kube_types_formats.specs.Forms.{fits}
use Rattle.kube_types_formats.specs.Labels.{label_faults, subdomain_faults}
use Rattle.kube_types_formats.specs.Names.{qualified_name_faults, label_value_faults}
use Rattle.kube_types_formats.specs.Uris.{uri_fault}
use Rattle.kube_types_formats.specs.Base64.{is_base64}
use Rattle.kube_types_formats.specs.Dates.{date_fault, date_time_fault}

-- the name of a format
unfoldable pub name_of : FormatKind → List ℕ
name_of Dns1123Label = codes "dns1123Label"
name_of Dns1035Label = codes "dns1035Label"
name_of Dns1035LabelPrefix = codes "dns1035LabelPrefix"
name_of Dns1123LabelPrefix = codes "dns1123LabelPrefix"
name_of Dns1123Subdomain = codes "dns1123Subdomain"
name_of Dns1123SubdomainPrefix = codes "dns1123SubdomainPrefix"
name_of QualifiedName = codes "qualifiedName"
name_of LabelValue = codes "labelValue"
name_of Uri = codes "uri"
name_of Uuid = codes "uuid"
name_of Byte = codes "byte"
name_of Date = codes "date"
name_of DateTime = codes "datetime"

-- the form of a UUID in RFC 4122, section 3: hexadecimal digits in groups of 8, 4, 4, 4 and 12
unfoldable pub uuid_fault : List ℕ → Option Fault
uuid_fault text = if fits (codes "xxxxxxxx-xxxx-xxxx-xxxx-xxxxxxxxxxxx") text then None else Some NotUuid

unfoldable pub base64_fault : List ℕ → Option Fault
base64_fault text = if is_base64 text then None else Some NotBase64

-- a format's kind
abbrev pub kind_of : KubeFormat → FormatKind
kind_of format = format.kind

-- the faults of a text, in order
unfoldable pub faults_of : FormatKind → List ℕ → List (List ℕ)
faults_of Dns1123Label text = label_faults Rfc1123 [] text
faults_of Dns1035Label text = label_faults Rfc1035 [] text
faults_of Dns1035LabelPrefix text = label_faults Rfc1035Prefix [] text
faults_of Dns1123LabelPrefix text = label_faults Rfc1123Prefix [] text
faults_of Dns1123Subdomain text = subdomain_faults Rfc1123 [] text
faults_of Dns1123SubdomainPrefix text = subdomain_faults Rfc1123Prefix [] text
faults_of QualifiedName text = qualified_name_faults text
faults_of LabelValue text = label_value_faults text
faults_of Uri text = only [] (uri_fault text)
faults_of Uuid text = only [] (uuid_fault text)
faults_of Byte text = only [] (base64_fault text)
faults_of Date text = only [] (date_fault text)
faults_of DateTime text = only [] (date_time_fault text)
