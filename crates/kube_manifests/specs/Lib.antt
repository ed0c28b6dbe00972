pub use Rattle.kube_manifests_documents.specs.Definitions
pub use Rattle.kube_manifests_documents.specs.Faults
pub use Rattle.kube_manifests_documents.specs.Inputs
pub use Rattle.kube_manifests_documents.specs.Reviews
pub use Rattle.kube_manifests_documents.specs.Versions as DocumentsVersions
pub use Rattle.kube_manifests_documents.specs.declared.inputs.PolicyInputs
pub use Rattle.kube_manifests_limits.specs.Limits
pub use Rattle.kube_manifests_texts.specs.Positions
pub mod Versions
pub mod Rules
pub mod Lists
pub mod Texts
pub mod Explanations
pub mod Sets
pub mod Parts
pub mod Laws
