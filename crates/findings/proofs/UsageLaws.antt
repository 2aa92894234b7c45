-- What is known of a position none of whose variants is used.
pub use Rattle.slice_hints.proofs.UsageLaws.{none_used}
