pub mod Pushed
pub mod ListRead
pub mod SideRead
pub mod LinkRead
