-- The note: `Parts` has the parts that are written and read, `PartsLaws` their laws, `ReturnsLaws` those of the two calls.
pub mod Parts
pub mod PartsLaws
pub mod ReturnsLaws
