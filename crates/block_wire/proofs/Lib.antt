pub mod BegunLemmas
pub mod GenesisLemmas
pub mod StreamLemmas
