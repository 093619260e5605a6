pub mod NfaLemmas
