pub mod SignalValues
