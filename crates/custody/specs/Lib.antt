pub mod Stations
pub mod Checks
pub mod Calls
pub mod Ledger
pub mod Promise
pub mod Exchanges
