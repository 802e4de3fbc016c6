pub mod KeptByCalls
pub mod OneMoreExchange
pub mod Picks
