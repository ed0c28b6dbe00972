-- Trusted by the headline.
-- The text of each fault: the messages of Kubernetes' validation of names
-- (`k8s.io/apimachinery/pkg/util/validation` and the format library of CEL in Kubernetes).
use Rattle.std.specs.Prelude.{ℕ, List, ◌++◌, codes}
use Rattle.std.specs.Fmt.{decimal}
use Rattle.kube_types_formats.specs.declared.fault.Fault.{Fault}
use Rattle.kube_types_formats.specs.declared.fault.Fault.TheVariants.{Empty, TooLong, NotLabel, FirstNotLetter, FirstNotAlphanumeric, LastNotAlphanumeric, EndNotAlphanumeric, NotName, EmptyPrefix, NoScheme, InvalidScheme, NotUuid, NotBase64, NotDate, NoSuchDay, NotDateTime, NoTimeZone}

unfoldable pub fault_text : Fault → List ℕ
fault_text Empty = codes "must be non-empty"
fault_text (TooLong limit len) =
    codes "must be no more than "
    ++ (decimal limit ++ (codes " characters (is " ++ (decimal len ++ codes ")")))
fault_text NotLabel = codes "must consist of lower case alphanumeric characters or '-'"
fault_text FirstNotLetter = codes "must start with a lowercase alphabetic character"
fault_text FirstNotAlphanumeric = codes "must start with an alphanumeric character"
fault_text LastNotAlphanumeric = codes "must end with an alphanumeric character"
fault_text EndNotAlphanumeric = codes "must start and end with an alphanumeric character"
fault_text NotName = codes "must consist of alphanumeric characters, '-', '_', or '.'"
fault_text EmptyPrefix = codes "prefix must be non-empty"
fault_text NoScheme = codes "must have a scheme (e.g., 'https:')"
fault_text InvalidScheme = codes "invalid scheme"
fault_text NotUuid =
    codes "must be in the form 8-4-4-4-12 (e.g., xxxxxxxx-xxxx-xxxx-xxxx-xxxxxxxxxxxx)"
fault_text NotBase64 = codes "must be a valid base64 encoded string"
fault_text NotDate = codes "must be a date in YYYY-MM-DD format"
fault_text NoSuchDay = codes "must be a valid date"
fault_text NotDateTime = codes "must be a valid RFC 3339 date-time"
fault_text NoTimeZone = codes "must have a timezone"
