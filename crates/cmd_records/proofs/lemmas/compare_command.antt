pub mod CompareMeets
