-- Steps that deliver no letter: what the acts share, moves, words, and the verdict by the step's kind.
pub mod Acting
pub mod Moving
pub mod Words
pub mod ByKind
