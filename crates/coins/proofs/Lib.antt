pub mod Tossed
