pub mod Digraph
pub mod Relaxed
pub mod Inner
