pub mod pool_tests
