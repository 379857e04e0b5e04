-- What the tests of a send and of a receive are.
pub mod Tests
pub mod messages
pub mod offers
pub mod outcomes
