pub mod CellLister
