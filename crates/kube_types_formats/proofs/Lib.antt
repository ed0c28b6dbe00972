pub mod FormLemmas
pub mod OffsetLemmas
pub mod FoundLemmas
pub mod PartLemmas
pub mod KindLemmas
pub mod LabelLemmas
pub mod DateLemmas
