-- What the exported function leaves.
pub mod Panels
