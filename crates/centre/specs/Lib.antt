pub mod Centre
