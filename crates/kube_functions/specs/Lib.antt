pub use Rattle.kube_functions_strings.specs.Operands as StringsOperands
pub use Rattle.kube_functions_strings.specs.Regex as StringsRegex
pub use Rattle.kube_functions_types.specs.NamedFormat
pub use Rattle.kube_functions_types.specs.Strings as TypesStrings
pub mod Operands
pub mod Overloads
pub mod Strings
pub mod Lists
pub mod Math
pub mod Sets
pub mod Encoders
pub mod Regex
pub mod Net
pub mod Semver
pub mod Quantity
pub mod Url
pub mod Format
pub mod Table
pub mod Calls
pub mod Kube
pub mod Names
