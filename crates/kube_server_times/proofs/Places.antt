-- The decimal places of a number.
pub use Rattle.cel_value_times.proofs.DigitLemmas.{places_zero, places_some, places_more, place_bounds}
