pub mod PairingLemmas
