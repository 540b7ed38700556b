mod Claiming
mod Feeding
mod Judging
mod Refused
