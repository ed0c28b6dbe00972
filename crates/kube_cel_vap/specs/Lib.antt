pub mod Requests
pub mod Validations
pub mod Expressions
pub mod Results
pub mod CallResults
pub mod Bound
pub mod Variables
