mod Causes
mod Quotes
mod Sheets
