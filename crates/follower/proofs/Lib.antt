pub mod AnyPool
