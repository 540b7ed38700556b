pub mod Conclusions
