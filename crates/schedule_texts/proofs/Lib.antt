pub mod Sheets
pub mod Lists
pub mod Lone
pub mod Tallies
pub mod Tests
pub mod OnceEach
pub mod Found
pub mod Faultless
