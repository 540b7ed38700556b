mod Asked
mod Answered
mod OnlyBad
mod Certifying
