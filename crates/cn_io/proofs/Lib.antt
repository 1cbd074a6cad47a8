pub mod AcceptedWitnesses
pub mod ArgumentLemmas
pub mod StreamLemmas
