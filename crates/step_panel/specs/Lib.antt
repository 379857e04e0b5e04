-- What the exported function answers.
pub mod Panels
