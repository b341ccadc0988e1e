pub mod PackTests
